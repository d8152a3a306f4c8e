use Rattle.lin_formula.specs.SetOf.{members}
use Rattle.shift_image.proofs.States.{states-bound}
use Rattle.shift_image.proofs.bounds.states_bound_residuals.Goals as goal

pub returns : goal.returns
returns c = λ a f e budget valid decides few more. states-bound a f (members e) decides budget valid few more
