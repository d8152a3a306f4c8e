use Rattle.std.proofs.Common.{◌∙◌, refl, arith}
use Rattle.mask_sets.specs.Sets.{IsIn}
use Rattle.loser_session.proofs.AnyMoves.{man_more, nobody}
use Rattle.loser_session.proofs.any_move.has_move_into.Goals as goal

pub loop-man-preserved : goal.loop-man-preserved
loop-man-preserved c = (
  c.leads_for.ensures.kept ∙ c.loop-man.invariant.0,
  man_more (IsIn c.args.sets.now) c.args.p.now c.loop-man.man c.loop-man.invariant.1 (c.if-leads_for.ensures.none refl),
)

pub returns-clause-none : goal.returns-clause-none
returns-clause-none c = λ e.
    nobody (IsIn c.args.sets.now) c.args.p.now c.loop-man.man
    (let count = c.count-man-end.ensures.count in let past = c.loop-man-test.false in omega (arith, count, past)) c.loop-man.invariant.1
