use Rattle.std.proofs.Common.{◌≡◌, None, sym, ◌∙◌, arith}
use Rattle.game_rules.specs.Rays.{ray_of}
use Rattle.mask_sets.specs.Sets.{IsIn}
use Rattle.move_choice.proofs.Picks.{mover_at, all_rays, ray_first, ray_more, ray_none}
use Rattle.move_choice.proofs.pick.of_man.Goals as goal

pub returns-in_default-clause-first : goal.returns-in_default-clause-first
returns-in_default-clause-first c =
    let m = c.man-him.result in
    let past : ray_of m.kind m.side c.loop-number.number ≡ None = sym c.ray.ensures ∙ c.in_default.is in
    ray_none (IsIn c.args.aim.now.sets.now) c.args.aim.now.frame c.args.aim.now.position.now c.args.man c.loop-number.number c.loop-number.invariant.1 m c.man-him.ensures past

pub invariant_of-along_ray : goal.invariant_of-along_ray
invariant_of-along_ray c = record {
  mover =
      mover_at c.args.aim.now.position.now c.args.man c.loop-number.number c.man-him.result c.in-Some.way c.man-him.ensures c.requires.mover
      (sym c.ray.ensures ∙ c.in-Some.is);
}

pub returns-in-Some-along_ray-clause-first : goal.returns-in-Some-along_ray-clause-first
returns-in-Some-along_ray-clause-first c =
    ray_first (IsIn c.args.aim.now.sets.now) c.args.aim.now.frame c.args.aim.now.position.now c.args.man c.loop-number.number
    c.loop-number.invariant.1 c.in-Some-along_ray.choice c.in-Some-along_ray.ensures.first

pub loop-number-preserved : goal.loop-number-preserved
loop-number-preserved c = (
  c.along_ray.ensures.kept ∙ c.loop-number.invariant.0,
  ray_more (IsIn c.args.aim.now.sets.now) c.args.aim.now.frame c.args.aim.now.position.now c.args.man c.loop-number.number c.loop-number.invariant.1 c.in_default-along_ray.ensures.first,
)

pub returns-clause-first : goal.returns-clause-first
returns-clause-first c =
    all_rays (IsIn c.args.aim.now.sets.now) c.args.aim.now.frame c.args.aim.now.position.now c.args.man c.man-him.result c.man-him.ensures
    (λ d q e low h. let past = c.loop-number-test.false in c.loop-number.invariant.1 d q e (omega (arith, low, past)) h)
