use Rattle.auto_compact.proofs.Compacted.{AcceptsRenamed-same}
use Rattle.auto_compact.proofs.compacting.renamed.Goals as goal

pub returns-clause-words : goal.returns-clause-words
returns-clause-words c =
    AcceptsRenamed-same c.args.a.now c.in_ok-made.made c.in_ok-compacted.compacted c.args.vars.now c.in_ok-compacted.ensures.tracks
    c.in_ok-compacted.ensures.words c.in_ok-made.ensures.words

pub returns-clause-integers : goal.returns-clause-integers
returns-clause-integers c = λ decides. c.in_ok-compacted.ensures.integers (c.in_ok-made.ensures.integers decides)

pub returns-clause-reached : goal.returns-clause-reached
returns-clause-reached c = λ reached different. c.in_ok-compacted.ensures.reached (c.in_ok-made.ensures.reached reached different)

pub returns-clause-reduced : goal.returns-clause-reduced
returns-clause-reduced c = λ reduced different. c.in_ok-compacted.ensures.reduced (c.in_ok-made.ensures.reduced reduced different)
