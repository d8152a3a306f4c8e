use Rattle.game_laws.proofs.BoardMaps.{exchange_undone, reflection_undone, shift_undone}
use Rattle.game_forever.proofs.MovedLemmas.{map_keeps_mate}
use Rattle.game_forever.proofs.laws.maps_of_the_board_keep_forced_mate.Goals as goal

pub returns : goal.returns
returns c =
    record {
      shift = λ dx dy. map_keeps_mate (shift_undone dx dy);
      reflection = map_keeps_mate reflection_undone;
      exchange = map_keeps_mate exchange_undone;
    }
