use Rattle.std.proofs.Common.{◌≡◌, true, arith}
use Rattle.chess_game.specs.Way.{IsInside}
use Rattle.chess_game.proofs.WayLemmas.{leap_inside}
use Rattle.chess_game.proofs.way.leap_span.Goals as goal

pub returns-then-is_inside-clause-span : goal.returns-then-is_inside-clause-span
returns-then-is_inside-clause-span c =
    λ t.
    let inside : IsInside c.args.frame c.first_square-square.result = c.is_inside.ensures.0 c.if-is_inside.true in (
      λ h.
          let first : t ≡ 1 = omega arith in
          (first, (leap_inside t c.args.from c.args.ray c.args.frame c.first_square-square.result c.first_square-square.ensures.x c.first_square-square.ensures.y first).0 inside),
      λ h. let first : t ≡ 1 = h.0 in (omega arith, omega arith),
    )

pub returns-clause-span : goal.returns-clause-span
returns-clause-span c =
    λ t. (
      λ h. absurd (omega (arith, h.0, h.1)),
      λ h.
          let yes : c.is_inside.result ≡ true =
          c.is_inside.ensures.1
          ((leap_inside t c.args.from c.args.ray c.args.frame c.first_square-square.result c.first_square-square.ensures.x
          c.first_square-square.ensures.y h.0).1
          h.1) in
          cc,
    )
