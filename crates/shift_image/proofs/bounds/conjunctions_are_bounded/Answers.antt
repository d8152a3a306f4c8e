use Rattle.lin_formula.specs.SetOf.{members}
use Rattle.shift_image.proofs.Conjunctions.{and-bound}
use Rattle.shift_image.proofs.bounds.conjunctions_are_bounded.Goals as goal

pub returns : goal.returns
returns c = λ whole part g qs e budget each is enough more.
    and-bound whole part g qs (members e) is budget each enough more
