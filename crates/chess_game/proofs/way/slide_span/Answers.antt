use Rattle.std.proofs.Common.{◌≤◌, ◌^◌, inl, inr, arith}
use Rattle.chess_game.proofs.WayLemmas.{axes_inside, direction_moves}
use Rattle.chess_game.proofs.way.slide_span.Goals as goal

pub returns-clause-span : goal.returns-clause-span
returns-clause-span c =
    λ t.
    let both = c.overlap.ensures.span t in
    let inside =
    axes_inside t c.args.from c.args.ray c.args.frame c.x_axis-x.result c.y_axis-y.result c.x_axis-x.ensures.at c.x_axis-x.ensures.step
    c.x_axis-x.ensures.low c.x_axis-x.ensures.high c.y_axis-y.ensures.at c.y_axis-y.ensures.step c.y_axis-y.ensures.low
    c.y_axis-y.ensures.high in (
      λ h.
          let w = both.0 h in
          let short : t ≤ 2 ^ 64 = omega (arith, w.0.1, c.axis_span-columns.ensures.bound) in
          inside.0 ((c.axis_span-columns.ensures.span t short).0 w.0, (c.axis_span-rows.ensures.span t short).0 w.1),
      λ h.
          let w = inside.1 h in
          let short : t ≤ 2 ^ 64 = elim (direction_moves c.args.ray.dx c.args.ray.dy c.requires.direction) [
            | inl moves ↦ c.axis_span-columns.ensures.all (rw c.x_axis-x.ensures.step moves) t w.0
            | inr moves ↦ c.axis_span-rows.ensures.all (rw c.y_axis-y.ensures.step moves) t w.1
          ] in
          both.1 ((c.axis_span-columns.ensures.span t short).1 w.0, (c.axis_span-rows.ensures.span t short).1 w.1),
    )
