use Rattle.std.proofs.Common.{sym, ◌∙◌}
use Rattle.mask_sets.specs.Sets.{IsIn}
use Rattle.move_choice.proofs.Picks.{man_idle}
use Rattle.move_choice.proofs.pick.of_any.Goals as goal

pub returns-then-not-is_live_of-clause-first : goal.returns-then-not-is_live_of-clause-first
returns-then-not-is_live_of-clause-first c =
    man_idle (IsIn c.args.aim.now.sets.now) c.args.aim.now.frame c.args.aim.now.position.now c.args.man c.man-him.result c.man-him.ensures
    (λ live. c.is_live_of.ensures.no c.if-not-is_live_of.true (live.0 ∙ sym c.turn.ensures, live.1))
