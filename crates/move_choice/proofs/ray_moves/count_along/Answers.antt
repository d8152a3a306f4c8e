use Rattle.std.proofs.Common.{sym, subst}
use Rattle.auto_search.specs.Fews.{HasFew}
use Rattle.auto_search.specs.declared.few.Few.{Few}
use Rattle.move_choice.specs.Aimed.{MoveInto}
use Rattle.move_choice.proofs.Counted.{all_counted}
use Rattle.move_choice.proofs.ray_moves.count_along.Goals as goal

pub returns-clause-few : goal.returns-clause-few
returns-clause-few c =
    subst (λ (few : Few). HasFew few (MoveInto c.args.along.now)) (sym c.plus.ensures)
    (all_counted c.args.along.now.aim.now.sets.now c.args.along.now.mover c.count_quiet-quiet.result c.count_captures.result c.count_quiet-quiet.ensures.few c.count_captures.ensures.few)
