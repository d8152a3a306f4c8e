use Rattle.auto_reduce.proofs.Quotients.{quotient_words, quotient_reduced, quotient_tracks, quotient_fewer}
use Rattle.auto_reduce.proofs.Numberings.{quotient_numbered}
use Rattle.auto_reduce.proofs.quotient.reduce.Goals as goal

pub returns-clause-tracks : goal.returns-clause-tracks
returns-clause-tracks c = quotient_tracks c.in_ok-m.ensures

pub returns-clause-words : goal.returns-clause-words
returns-clause-words c = quotient_words c.in_ok-m.ensures

pub returns-clause-reduced : goal.returns-clause-reduced
returns-clause-reduced c = quotient_reduced c.in_ok-m.ensures

pub returns-clause-numbered : goal.returns-clause-numbered
returns-clause-numbered c = quotient_numbered c.in_ok-m.ensures

pub returns-clause-fewer : goal.returns-clause-fewer
returns-clause-fewer c = quotient_fewer c.in_ok-m.ensures

pub returns-clause-valid : goal.returns-clause-valid
returns-clause-valid c = c.in_ok-m.ensures.quotient.valid
