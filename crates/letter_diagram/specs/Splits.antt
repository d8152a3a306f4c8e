-- Maps split by the bit of a track, and two maps together.
use Rattle.std.specs.Prelude.{◌≡◌, ℕ, ◌<◌, ◌≤◌, ◌-◌, ◌^◌, min, List, length}
use Rattle.letter_diagram.specs.declared.diagrams.Shape.{Shape}
use Rattle.letter_diagram.specs.Diagram.{map_at, top_track, chosen}

-- the node's maps at the bits of a track at or before its top track
pub record IsSplit (shapes : List Shape) (node track low high : ℕ) : Type 0 where
  pub low_known : low < length shapes
  pub high_known : high < length shapes
  pub map : (letter : ℕ) → map_at shapes node letter ≡ chosen shapes track low high letter
  pub low_above : track < top_track shapes low
  pub high_above : track < top_track shapes high
  pub low_top : top_track shapes node ≤ top_track shapes low
  pub high_top : top_track shapes node ≤ top_track shapes high
  pub low_within : low ≤ node
  pub high_within : high ≤ node
  pub low_smaller : top_track shapes node ≡ track → low < node
  pub high_smaller : top_track shapes node ≡ track → high < node

-- the least track that one of two nodes depends on, or 20
abbrev pub top_of_both : List Shape → ℕ → ℕ → ℕ
top_of_both shapes a b = min (top_track shapes a) (top_track shapes b)

-- the number of letters that maps which depend only on tracks from a bound on can distinguish
unfoldable pub room_from : ℕ → ℕ
room_from track = 2 ^ (20 - track)

-- the number of letters that two nodes can distinguish
abbrev pub room_for : List Shape → ℕ → ℕ → ℕ
room_for shapes a b = room_from (top_of_both shapes a b)
