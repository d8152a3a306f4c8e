use Rattle.formula_auto.proofs.Stable.{Decides-integers}
use Rattle.formula_auto.proofs.StillKept.{keeps-compiled}
use Rattle.lin_formula.specs.TreeOf.{tree_of}
use Rattle.shift_image.proofs.compiling.compile_image_on.Goals as goal

pub returns-in-Some-clause-integers : goal.returns-in-Some-clause-integers
returns-in-Some-clause-integers c =
    let made = rw c.in-Some.is at c.in_ok-auto.ensures.made in
    Decides-integers made.made.decides

pub returns-in-None-clause-kept : goal.returns-in-None-clause-kept
returns-in-None-clause-kept c = λ place entry there.
    keeps-compiled (tree_of c.args.f.now) _ _ c.compile_unreduced.result c.compile_unreduced.ensures.after c.compile_unreduced.ensures.stopped place entry
    (c.in_ok-auto.ensures.kept place entry there)
