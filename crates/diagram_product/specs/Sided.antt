-- Maps of pairs of the values of two maps that are read in place.
use Rattle.std.specs.Prelude.{◌≡◌, ℕ, ◌+◌, ◌^◌, ◌<◌, ◌≤◌, min, List, Option, length, slice_index_or, Some, None, nat_eq, if◌then◌else◌}
use Rattle.std.specs.Int.{bit_at}
use Rattle.limits.specs.declared.numbers.TheConstants.{MOST_TRACKS}
use Rattle.letter_diagram.specs.declared.diagrams.Shape.{Shape}
use Rattle.letter_diagram.specs.declared.diagrams.Shape.TheVariants.{Leaf, Test}
use Rattle.diagram_product.specs.declared.absorbing.Absorbing.{Absorbing}
use Rattle.letter_diagram.specs.Diagram.{map_at, top_track, LooksBelow}
use Rattle.letter_diagram.specs.Relabelled.{relabelled}
use Rattle.letter_diagram.specs.declared.pair_memo.PairSlot.{PairSlot}
use Rattle.letter_diagram.specs.PairMemo.{Answers}
use Rattle.letter_diagram.specs.Splits.{room_from}
use Rattle.diagram_product.specs.Paired.{NumbersPairs}
use Rattle.diagram_product.specs.Absorbed.{absorbed, ArePairs}

-- nodes of another table, each track of which takes its bit from a given track
pub record LentNodes : Type 0 where
  pub shapes : List Shape
  pub tracks : List ℕ

-- how nodes are read: from another table, or (none) from the table to which nodes are added
abbrev pub Reading : Type 0
Reading = Option LentNodes

-- the nodes that are read
abbrev pub read_shapes : Reading → List Shape → List Shape
read_shapes None shapes = shapes
read_shapes (Some lent) shapes = lent.shapes

-- the letter at which a map is read
abbrev pub read_letter : Reading → ℕ → ℕ
read_letter None letter = letter
read_letter (Some lent) letter = relabelled lent.tracks letter

-- the track from which a track takes its bit, or 20
abbrev pub read_track : Reading → ℕ → ℕ
read_track None track = track
read_track (Some lent) track = slice_index_or lent.tracks track MOST_TRACKS

-- the number of tracks that take their bits from given tracks
abbrev pub read_tracks : Reading → ℕ
read_tracks None = MOST_TRACKS
read_tracks (Some lent) = length lent.tracks

-- a node that can be read; no map depends on a track from the twenty-first on
pub record CanBeRead (reading : Reading) (shapes : List Shape) (node : ℕ) : Type 0 where
  pub known : node < length (read_shapes reading shapes)
  pub narrow : read_tracks reading < MOST_TRACKS
      → LooksBelow (read_shapes reading shapes) node (read_tracks reading)

-- the value that is read at a letter
abbrev pub read_at : Reading → List Shape → ℕ → ℕ → ℕ
read_at reading shapes node letter = map_at (read_shapes reading shapes) node (read_letter reading letter)

-- the least track that the map depends on as it is read, or 20
abbrev pub read_top : Reading → List Shape → ℕ → ℕ
read_top reading shapes node = read_track reading (top_track (read_shapes reading shapes) node)

-- a map that depends only on tracks from a bound on
pub record LooksFrom (value : ℕ → ℕ) (bound : ℕ) : Type 0 where
  pub same : (a b : ℕ) → ((k : ℕ) → bound ≤ k → bit_at a k ≡ bit_at b k) → value a ≡ value b

-- the maps at the bits of a track at or before its top track, as they are read
pub record IsReadSplit (reading : Reading) (shapes : List Shape) (node track low high : ℕ) : Type 0 where
  pub low_read : CanBeRead reading shapes low
  pub high_read : CanBeRead reading shapes high
  pub map : (letter : ℕ)
      → read_at reading shapes node letter
      ≡ (if nat_eq (bit_at letter track) 0 then read_at reading shapes low letter
      else read_at reading shapes high letter)
  pub low_above : track < read_top reading shapes low
  pub high_above : track < read_top reading shapes high
  pub low_from : LooksFrom (read_at reading shapes low) (read_top reading shapes low)
  pub high_from : LooksFrom (read_at reading shapes high) (read_top reading shapes high)
  pub low_within : low ≤ node
  pub high_within : high ≤ node
  pub low_smaller : read_top reading shapes node ≡ track → low < node
  pub high_smaller : read_top reading shapes node ≡ track → high < node

-- a map that is constant as it is read
pub record IsReadLeaf (reading : Reading) (shapes : List Shape) (node value : ℕ) : Type 0 where
  pub map : (letter : ℕ) → read_at reading shapes node letter ≡ value
  pub top : read_top reading shapes node ≡ MOST_TRACKS

-- a map as it is read, at the bits of its least track
pub record IsReadTest (reading : Reading) (shapes : List Shape) (node track low high : ℕ) : Type 0 where
  pub track_low : track < MOST_TRACKS
  pub top : read_top reading shapes node ≡ track
  pub split : IsReadSplit reading shapes node track low high

-- what a node tests first, as it is read
abbrev pub IsRead : Reading → List Shape → ℕ → Shape → Type 0
IsRead reading shapes node (Leaf value) = IsReadLeaf reading shapes node value
IsRead reading shapes node (Test track low high) = IsReadTest reading shapes node track low high

-- the two operands of a product, and their absorbing values
pub record Sides : Type 0 where
  pub left : Reading
  pub right : Reading
  pub absorbing : Absorbing

-- two nodes of the table to which nodes are added
abbrev pub together : Absorbing → Sides
together absorbing = record { left = None; right = None; absorbing = absorbing }

-- the absorbed pair of the values of both operands at a letter
abbrev pub pair_at : Sides → List Shape → ℕ → ℕ → ℕ → ℕ × ℕ
pair_at sides shapes a b letter =
    absorbed sides.absorbing (read_at sides.left shapes a letter) (read_at sides.right shapes b letter)

-- the least track that one of both operands depends on, or 20
abbrev pub pair_top : Sides → List Shape → ℕ → ℕ → ℕ
pair_top sides shapes a b = min (read_top sides.left shapes a) (read_top sides.right shapes b)

-- there are free numbers for all new pairs that a and b may need
abbrev pub HasPairRoom : Sides → List Shape → List (ℕ × ℕ) → ℕ → ℕ → Type 0
HasPairRoom sides shapes pairs a b = length pairs + room_from (pair_top sides shapes a b) < 2 ^ 32

-- the number of new pairs is at most what a and b may need
abbrev pub IsPairRoomKept : Sides → List Shape → (old new : List (ℕ × ℕ)) → ℕ → ℕ → Type 0
IsPairRoomKept sides shapes old new a b = length new ≤ length old + room_from (pair_top sides shapes a b)

-- each pair from a number on is an absorbed pair of values of a and b, as they are read
abbrev pub AreReadPairs : Sides → List Shape → ℕ → List (ℕ × ℕ) → ℕ → ℕ → Type 0
AreReadPairs sides shapes from pairs a b =
    ArePairs sides.absorbing from pairs (read_at sides.left shapes a) (read_at sides.right shapes b)

-- a node of each operand that can be read
pub record CanBePaired (sides : Sides) (shapes : List Shape) (a b : ℕ) : Type 0 where
  pub left : CanBeRead sides.left shapes a
  pub right : CanBeRead sides.right shapes b

-- the map of r gives the number of the absorbed pair of the values of a and b
pub record IsPaired (sides : Sides) (shapes : List Shape) (pairs : List (ℕ × ℕ)) (a b r : ℕ) : Type 0 where
  pub read : CanBePaired sides shapes a b
  pub known : r < length shapes
  pub map : NumbersPairs shapes pairs (pair_at sides shapes a b) r
  pub top : pair_top sides shapes a b ≤ top_track shapes r

-- the results in a cache are the maps of pairs of their nodes
pub record RemembersPaired (sides : Sides) (shapes : List Shape) (pairs : List (ℕ × ℕ)) (memo : List PairSlot) : Type 0 where
  pub paired : (a b r : ℕ) → Answers memo a b r → IsPaired sides shapes pairs a b r
