use Rattle.game_laws.proofs.BoardMaps.{reflection_keeps}
use Rattle.game_laws.proofs.laws.reflecting_the_board_keeps_the_game.Goals as goal

pub returns : goal.returns
returns c = record { value = reflection_keeps.value; game = reflection_keeps }
