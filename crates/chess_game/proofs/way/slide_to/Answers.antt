use Rattle.chess_game.proofs.WayLemmas.{slide_none, slide_some}
use Rattle.chess_game.proofs.way.slide_to.Goals as goal

pub returns-clause-some : goal.returns-clause-some
returns-clause-some c =
    slide_some c.args.from c.args.to c.args.ray c.offset_between-offset.result.x c.offset_between-offset.result.y c.step_of-unit.result.x
    c.step_of-unit.result.y c.offset_between-offset.ensures.right c.offset_between-offset.ensures.up c.step_of-unit.ensures.x
    c.step_of-unit.ensures.y c.requires.far c.times_of.result c.times_of.ensures.some

pub returns-clause-none : goal.returns-clause-none
returns-clause-none c =
    slide_none c.args.from c.args.to c.args.ray c.offset_between-offset.result.x c.offset_between-offset.result.y c.step_of-unit.result.x
    c.step_of-unit.result.y c.offset_between-offset.ensures.right c.offset_between-offset.ensures.up c.step_of-unit.ensures.x
    c.step_of-unit.ensures.y c.times_of.result c.times_of.ensures.none
