use Rattle.std.proofs.Common.{◌∙◌, refl, arith}
use Rattle.mask_sets.specs.Sets.{IsIn}
use Rattle.loser_session.proofs.AnyMoves.{none_along, ray_more}
use Rattle.loser_session.proofs.any_move.leads_for.Goals as goal

pub loop-number-preserved : goal.loop-number-preserved
loop-number-preserved c = (
  c.leads_along.ensures.kept ∙ c.loop-number.invariant.0,
  ray_more (IsIn c.args.aim.now.sets.now) c.args.aim.now.position.now c.args.man c.loop-number.number c.loop-number.invariant.1
      (c.if-leads_along.ensures.none refl),
)

pub returns-clause-none : goal.returns-clause-none
returns-clause-none c = λ e.
    none_along (IsIn c.args.aim.now.sets.now) c.args.aim.now.position.now c.args.man c.loop-number.number
    (let past = c.loop-number-test.false in omega (arith, past)) c.loop-number.invariant.1
