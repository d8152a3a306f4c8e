use Rattle.lin_formula.specs.SetOf.{members}
use Rattle.lin_formula.proofs.Coincide.{coincide}
use Rattle.lin_formula.proofs.laws.meaning_rests_on_free_vars.Goals as goal

pub returns : goal.returns
returns c = λ f e. coincide f (members e)
