-- Maps that are one of two maps, selected by the bit of a track.
use Rattle.std.specs.Prelude.{◌≡◌, ℕ, ◌<◌, ◌≤◌, min, List, length}
use Rattle.letter_diagram.specs.declared.diagrams.Shape.{Shape}
use Rattle.letter_diagram.specs.Diagram.{map_at, top_track, chosen}
use Rattle.letter_diagram.specs.declared.pair_memo.PairSlot.{PairSlot}
use Rattle.letter_diagram.specs.PairMemo.{Answers}
use Rattle.letter_diagram.specs.Splits.{top_of_both}

-- the map of r is that of low if the track's bit is 0, and that of high otherwise
pub record IsChosen (shapes : List Shape) (track low high r : ℕ) : Type 0 where
  pub known : r < length shapes
  pub low_known : low < length shapes
  pub high_known : high < length shapes
  pub map : (letter : ℕ) → map_at shapes r letter ≡ chosen shapes track low high letter
  pub top : min track (top_of_both shapes low high) ≤ top_track shapes r

-- the results in a cache are choices between their pairs of nodes
pub record RemembersChosen (shapes : List Shape) (track : ℕ) (memo : List PairSlot) : Type 0 where
  pub chosen : (low high r : ℕ) → Answers memo low high r → IsChosen shapes track low high r
