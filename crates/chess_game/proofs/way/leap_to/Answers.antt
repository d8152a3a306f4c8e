use Rattle.std.proofs.Common.{◌≡◌, true}
use Rattle.chess_game.proofs.WayLemmas.{at_leap, leap_at}
use Rattle.chess_game.proofs.way.leap_to.Goals as goal

pub returns-then-is_same-clause-some : goal.returns-then-is_same-clause-some
returns-then-is_same-clause-some c =
    let same = c.is_same.ensures.0 c.if-is_same.true in
    leap_at c.args.from c.args.to c.args.ray c.offset_between-offset.result.x c.offset_between-offset.result.y c.step_of-unit.result.x
    c.step_of-unit.result.y c.offset_between-offset.ensures.right c.offset_between-offset.ensures.up c.step_of-unit.ensures.x
    c.step_of-unit.ensures.y same

pub returns-else-is_same-clause-none : goal.returns-else-is_same-clause-none
returns-else-is_same-clause-none c =
    λ t h.
    let yes : c.is_same.result ≡ true =
    c.is_same.ensures.1
    (at_leap c.args.from c.args.to c.args.ray c.offset_between-offset.result.x c.offset_between-offset.result.y c.step_of-unit.result.x
    c.step_of-unit.result.y c.offset_between-offset.ensures.right c.offset_between-offset.ensures.up c.step_of-unit.ensures.x
    c.step_of-unit.ensures.y t c.requires.leaps h) in
    cc
