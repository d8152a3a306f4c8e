use Rattle.game_laws.proofs.BoardMaps.{exchange_keeps}
use Rattle.game_laws.proofs.laws.exchanging_the_colours_keeps_the_game.Goals as goal

pub returns : goal.returns
returns c = record { value = exchange_keeps.value; game = exchange_keeps }
