use Rattle.std.proofs.Common.{[], Err, inl, inr, refl, rules, sym, subst}
use Rattle.std.proofs.lemmas.List.{append-nil}
use Rattle.game_rules.specs.Game.{Position}
use Rattle.winner_session.proofs.FirstLemmas.{firsts_ray}
use Rattle.move_choice.specs.Aims.{HasRay, IsMover}
use Rattle.desk_solve.proofs.Listing.{not_so}
use Rattle.desk_describe.specs.Describe.{RayTells}
use Rattle.desk_describe.specs.Description.{ray_line}
use Rattle.desk_describe.specs.RayStep.{StopsWith}
use Rattle.desk_describe.proofs.Rays.{handed_on, has_first, ray_stops}
use Rattle.desk_describe.proofs.describe.push_ray.Goals as goal

pub returns-then-not-has_ray-clause-adds : goal.returns-then-not-has_ray-clause-adds
returns-then-not-has_ray-clause-adds c =
    let s = c.args.of.now.solved.now in
    let none = not_so (HasRay c.position-position.result c.args.man c.args.ray) c.has_ray.result c.has_ray.ensures c.if-not-has_ray.true in
    let no_ray = subst (λ (p : Position). HasRay p c.args.man c.args.ray → ⊥) c.position-position.ensures none in
    ([], inl (λ distance first. no_ray (firsts_ray s.winner s.moves s.position c.args.man c.args.ray distance first), refl), sym (append-nil c.args.text.now.items))

pub first_moves-requires-clause-mover : goal.first_moves-requires-clause-mover
first_moves-requires-clause-mover c =
    subst (λ (p : Position). HasRay p c.args.man c.args.ray) c.position-position.ensures (c.has_ray.ensures.0 c.if-not-has_ray.false)

pub described-requires-clause-mover : goal.described-requires-clause-mover
described-requires-clause-mover c =
    subst (λ (p : Position). HasRay p c.args.man c.args.ray) c.position-position.ensures (c.has_ray.ensures.0 c.if-not-has_ray.false)

pub returns-in_err-description-in-Some-clause-stops : goal.returns-in_err-description-in-Some-clause-stops
returns-in_err-description-in-Some-clause-stops c =
    let s = c.args.of.now.solved.now in
    let error = c.in_err-description-in-Some.field-0.0 in
    handed_on c.from_residual.result error (StopsWith (λ step. RayTells c.args.of.now.budget s.winner s.moves s.position c.args.man c.args.ray (Err step))) (search rules)
    (ray_stops c.args.of.now.budget s.winner s.moves s.position c.args.man c.args.ray error (has_first c.in-Some.ensures.line) c.in_err-description-in-Some.ensures.stops)

pub returns-in_ok-push_ray_line-in-Some-clause-adds : goal.returns-in_ok-push_ray_line-in-Some-clause-adds
returns-in_ok-push_ray_line-in-Some-clause-adds c =
    let step = c.his_ray.result.ray in
    let description = c.in_ok-description-in-Some.description in
    let mover = subst (λ (p : Position). IsMover p c.args.man c.args.ray step) c.position-position.ensures c.his_ray.ensures.mover in (
      ray_line c.args.man step description,
      inr (has_first c.in-Some.ensures.line, (step, description, mover, c.in_ok-description-in-Some.ensures.is, refl)),
      c.in_ok-push_ray_line-in-Some.ensures,
    )

pub returns-in-None-clause-adds : goal.returns-in-None-clause-adds
returns-in-None-clause-adds c = ([], inl (c.in-None.ensures.none, refl), sym (append-nil c.args.text.now.items))
