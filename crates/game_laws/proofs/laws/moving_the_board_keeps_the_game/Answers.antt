use Rattle.game_laws.proofs.BoardMaps.{shift_keeps}
use Rattle.game_laws.proofs.laws.moving_the_board_keeps_the_game.Goals as goal

pub returns : goal.returns
returns c = record { value = λ dx dy. (shift_keeps dx dy).value; game = shift_keeps }
