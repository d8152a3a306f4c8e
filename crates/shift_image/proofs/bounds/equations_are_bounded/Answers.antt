use Rattle.lin_formula.specs.SetOf.{members}
use Rattle.shift_image.proofs.Conjunctions.{equation-bound}
use Rattle.shift_image.proofs.bounds.equations_are_bounded.Goals as goal

pub returns : goal.returns
returns c = λ whole part g qs rs e budget each is rests enough more.
    equation-bound whole part g qs (members e) is rs rests budget each enough more
