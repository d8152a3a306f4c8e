use Rattle.std.proofs.Common.{◌∙◌}
use Rattle.lin_formula.specs.SetOf.{tables}
use Rattle.shift_image.specs.Read.{trees}
use Rattle.shift_image.proofs.SomeOf.{ok-both, left-by-turns}
use Rattle.shift_image.proofs.leaving.minus_all.Goals as goal

pub returns-in-None-clause-left : goal.returns-in-None-clause-left
returns-in-None-clause-left c =
    let e = tables c.args.scope.now.sets.now in
    let left = rw c.left_at_once.ensures.budget at c.left_in_turn.ensures.left in
    ok-both _ _ _ c.left_in_turn.result
    (λ b turns accessible. left-by-turns e c.args.memo.now.budget c.args.scope.now.each (trees c.args.formulas.now) turns accessible)
    left c.left_in_turn.ensures.accessible
