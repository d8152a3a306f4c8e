use Rattle.std.proofs.Common.{◌++◌, inr, refl, subst, ap, ◌∙◌}
use Rattle.game_rules.specs.Game.{Position}
use Rattle.move_choice.specs.Aims.{HasRay}
use Rattle.chess_game.specs.declared.way.Frame.{Frame}
use Rattle.winner_session.specs.Firsts.{IsFirstLine}
use Rattle.desk_solve.specs.First.{line_of}
use Rattle.desk_solve.proofs.Listing.{no_line, no_ray, not_so}
use Rattle.desk_solve.proofs.first.push_ray.Goals as goal

pub returns-then-not-has_ray-clause-adds : goal.returns-then-not-has_ray-clause-adds
returns-then-not-has_ray-clause-adds c =
    let s = c.args.solved.now in
    let none = not_so (HasRay c.position-position.result c.args.man c.args.ray) c.has_ray.result c.has_ray.ensures c.if-not-has_ray.true in
    no_ray s.winner s.moves s.position c.args.man c.args.ray c.args.text.now.items
    (subst (λ (p : Position). HasRay p c.args.man c.args.ray → ⊥) c.position-position.ensures none)

pub first_moves-requires-clause-mover : goal.first_moves-requires-clause-mover
first_moves-requires-clause-mover c =
    subst (λ (p : Position). HasRay p c.args.man c.args.ray) c.position-position.ensures (c.has_ray.ensures.0 c.if-not-has_ray.false)

pub returns-in_ok-extend_from_slice-in-Some-clause-adds : goal.returns-in_ok-extend_from_slice-in-Some-clause-adds
returns-in_ok-extend_from_slice-in-Some-clause-adds c =
    let s = c.args.solved.now in
    let first = c.in-Some.first in
    let is = subst (λ (f : Frame). IsFirstLine f s.winner s.moves s.position c.args.man c.args.ray first) c.whole.ensures c.in-Some.ensures.line in (
      line_of first,
      inr (first, is, refl),
      c.in_ok-extend_from_slice-in-Some.ensures.items ∙ ap (λ line. c.args.text.now.items ++ line) (c.as_slice.ensures ∙ c.first_line-line.ensures),
    )

pub returns-in-None-clause-adds : goal.returns-in-None-clause-adds
returns-in-None-clause-adds c =
    let s = c.args.solved.now in
    no_line s.winner s.moves s.position c.args.man c.args.ray c.args.text.now.items c.in-None.ensures.none
