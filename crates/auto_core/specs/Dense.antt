-- Nodes whose maps are rows of dense tables.
use Rattle.std.specs.Prelude.{◌≡◌, ℕ, ◌+◌, ◌-◌, ◌*◌, ◌/◌, ◌%◌, ◌^◌, ◌<◌, ◌≤◌, List, length, slice_index}
use Rattle.letter_diagram.specs.declared.diagrams.Shape.{Shape}
use Rattle.letter_diagram.specs.Diagram.{map_at, top_track}

-- the node's map is the row of a table that begins at an offset
pub record IsRowFrom (shapes : List Shape) (width : ℕ) (table : List ℕ) (offset node : ℕ) : Type 0 where
  pub known : node < length shapes
  pub map : (letter : ℕ) → map_at shapes node letter ≡ slice_index table (offset + letter % width)

-- the nodes' maps are the rows of a table, one after another
pub record AreRowsFrom (shapes : List Shape) (width : ℕ) (table nodes : List ℕ) : Type 0 where
  pub rows : (i : ℕ) → i < length nodes → IsRowFrom shapes width table (i * width) (slice_index nodes i)

-- the index of a letter's entry, given the bits below a track, over this many tracks
unfoldable pub place_of : ℕ → ℕ → ℕ → ℕ → ℕ
place_of tracks track offset letter = offset + letter / 2 ^ track % 2 ^ (tracks - track) * 2 ^ track

-- the node's map has the entries of a row from an offset on, by the tracks from a track on
pub record IsPartFrom (shapes : List Shape) (tracks : ℕ) (table : List ℕ) (track offset node : ℕ) : Type 0 where
  pub known : node < length shapes
  pub map : (letter : ℕ) → map_at shapes node letter ≡ slice_index table (place_of tracks track offset letter)
  pub top : track ≤ top_track shapes node
