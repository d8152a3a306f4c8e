use Rattle.std.proofs.Common.{◌∙◌, arith}
use Rattle.mask_sets.specs.Sets.{IsIn}
use Rattle.move_choice.proofs.Picks.{man_first, man_more, no_man}
use Rattle.move_choice.proofs.pick.first_move.Goals as goal

pub returns-in-Some-clause-pick : goal.returns-in-Some-clause-pick
returns-in-Some-clause-pick c =
    man_first (IsIn c.args.aim.now.sets.now) c.args.aim.now.frame c.args.aim.now.position.now c.loop-man.man c.loop-man.invariant.1 c.in-Some.choice c.in-Some.ensures.first

pub loop-man-preserved : goal.loop-man-preserved
loop-man-preserved c = (
  c.of_any.ensures.kept ∙ c.loop-man.invariant.0,
  man_more (IsIn c.args.aim.now.sets.now) c.args.aim.now.frame c.args.aim.now.position.now c.loop-man.man c.loop-man.invariant.1 c.in_default.ensures.first,
)

pub returns-clause-pick : goal.returns-clause-pick
returns-clause-pick c =
    no_man (IsIn c.args.aim.now.sets.now) c.args.aim.now.frame c.args.aim.now.position.now c.loop-man.man
    (let count = c.count-man-end.ensures.count in let past = c.loop-man-test.false in omega (arith, count, past)) c.loop-man.invariant.1
