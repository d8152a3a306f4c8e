use Rattle.chess_game.proofs.OffsetLemmas.{between_part, part_between}
use Rattle.chess_game.proofs.geometry.is_between.Goals as goal

pub returns : goal.returns
returns c = (
  λ t. part_between c.args.from c.args.to c.args.square c.offset_between-whole.ensures.right c.offset_between-whole.ensures.up c.offset_between-part.ensures.right
      c.offset_between-part.ensures.up (c.is_part.ensures.0 t),
  λ h. c.is_part.ensures.1
      (between_part c.args.from c.args.to c.args.square c.offset_between-whole.result.x c.offset_between-whole.result.y c.offset_between-part.result.x
      c.offset_between-part.result.y c.offset_between-whole.ensures.right c.offset_between-whole.ensures.up c.offset_between-part.ensures.right
      c.offset_between-part.ensures.up h),
)
