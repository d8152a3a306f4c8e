use Rattle.std.proofs.Common.{◌≡◌, ◌<◌, false, arith}
use Rattle.chess_game.proofs.OffsetLemmas.{part_from, part_unit}
use Rattle.chess_game.proofs.geometry.is_part.Goals as goal

pub returns-then-all-few : goal.returns-then-all-few
returns-then-all-few c = (
  λ t. cc,
  λ h.
      let less : c.steps_of-few.result < c.steps_of-all.result =
      (part_unit c.args.whole.x c.args.whole.y c.args.part.x c.args.part.y c.unit_toward-unit.result.x c.unit_toward-unit.result.y
      c.steps_of-all.result c.steps_of-few.result c.unit_toward-unit.ensures.right c.unit_toward-unit.ensures.up c.steps_of-all.ensures
      c.steps_of-few.ensures h).0 in
      absurd (omega arith),
)

pub returns-then-is_times : goal.returns-then-is_times
returns-then-is_times c = (
  λ t. part_from
      c.steps_of-all.result c.steps_of-few.result c.unit_toward-unit.ensures.right c.unit_toward-unit.ensures.up c.steps_of-all.ensures (omega arith)
      (c.is_times.ensures.0 c.if-is_times.true) (c.is_times-then-is_times.ensures.0 t),
  λ h. c.is_times-then-is_times.ensures.1
      (part_unit c.args.whole.x c.args.whole.y c.args.part.x c.args.part.y c.unit_toward-unit.result.x c.unit_toward-unit.result.y
      c.steps_of-all.result c.steps_of-few.result c.unit_toward-unit.ensures.right c.unit_toward-unit.ensures.up c.steps_of-all.ensures
      c.steps_of-few.ensures h).2,
)

pub returns-else-is_times : goal.returns-else-is_times
returns-else-is_times c = (
  λ t. let no : c.is_times.result ≡ false = c.if-is_times.false in cc,
  λ h. c.is_times.ensures.1
      (part_unit c.args.whole.x c.args.whole.y c.args.part.x c.args.part.y c.unit_toward-unit.result.x c.unit_toward-unit.result.y
      c.steps_of-all.result c.steps_of-few.result c.unit_toward-unit.ensures.right c.unit_toward-unit.ensures.up c.steps_of-all.ensures
      c.steps_of-few.ensures h).1,
)
