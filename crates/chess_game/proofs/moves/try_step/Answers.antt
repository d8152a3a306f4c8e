use Rattle.std.proofs.Common.{rules}
use Rattle.game_rules.specs.Game.{Step, InCheck}
use Rattle.chess_game.proofs.moves.try_step.Goals as goal

pub returns-then-in_check-clause-refused : goal.returns-then-in_check-clause-refused
returns-then-in_check-clause-refused c =
    let step : Step c.args.board.now c.args.number c.args.to c.after-after.result = search rules in
    let check : InCheck c.after-after.result c.args.board.now.turn = search rules in
    (c.after-after.result, step, check)
