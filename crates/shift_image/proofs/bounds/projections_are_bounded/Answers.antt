use Rattle.lin_formula.specs.SetOf.{members}
use Rattle.shift_image.proofs.Projections.{ex-bound}
use Rattle.shift_image.proofs.bounds.projections_are_bounded.Goals as goal

pub returns : goal.returns
returns c = λ x whole part q qs e budget each is settles others over enough more.
    ex-bound x whole part q qs (members e) is settles others over budget each enough more
