use Rattle.loser_session.proofs.Fitting.{rests_fit}
use Rattle.loser_session.proofs.laws.plan_fits.Goals as goal

pub returns : goal.returns
returns c = λ s budget valid fit. rests_fit s valid budget fit
