-- The maps of nodes.
use Rattle.std.specs.Prelude.{◌≡◌, ◌≢◌, ℕ, ◌<◌, ◌≤◌, ◌^◌, List, [], ◌∷◌, ◌++◌, length, fold, slice_index, slice_index_or, slice_get, Some, nat_eq, if◌then◌else◌}
use Rattle.std.specs.Int.{bit_at}
use Rattle.limits.specs.declared.numbers.TheConstants.{MOST_TRACKS}
use Rattle.letter_diagram.specs.declared.diagrams.Shape.{Shape}
use Rattle.letter_diagram.specs.declared.diagrams.Shape.TheVariants.{Leaf, Test}

-- the value of a shape at a letter, given the values of the nodes before it there
abbrev pub value_of : ℕ → List ℕ → Shape → ℕ
value_of letter values (Leaf value) = value
value_of letter values (Test track low high) =
    if nat_eq (bit_at letter track) 0 then slice_index values low else slice_index values high

-- the values of all nodes at a letter
unfoldable pub values_at : ℕ → List Shape → List ℕ
values_at letter shapes = fold (λ values shape. values ++ value_of letter values shape ∷ []) [] shapes

-- the value of a node's map at a letter
unfoldable pub map_at : List Shape → ℕ → ℕ → ℕ
map_at shapes node letter = slice_index (values_at letter shapes) node

-- the least track that a shape tests, or 20
abbrev pub track_of : Shape → ℕ
track_of (Leaf value) = 20
track_of (Test track low high) = track

-- the least track that a node's map depends on, or 20
unfoldable pub top_track : List Shape → ℕ → ℕ
top_track shapes node = track_of (slice_index_or shapes node (Leaf 0))

-- a node's map has these values
abbrev pub HasMap : List Shape → (ℕ → ℕ) → ℕ → Type 0
HasMap shapes values node = (letter : ℕ) → map_at shapes node letter ≡ values letter

-- two nodes' maps have equal values at each letter over all tracks
abbrev pub HaveOneMap : List Shape → ℕ → ℕ → Type 0
HaveOneMap shapes a b = (letter : ℕ) → letter < 2 ^ MOST_TRACKS → map_at shapes a letter ≡ map_at shapes b letter

-- the value of low if the track's bit is 0, and that of high otherwise
abbrev pub chosen : List Shape → ℕ → ℕ → ℕ → ℕ → ℕ
chosen shapes track low high letter =
    if nat_eq (bit_at letter track) 0 then map_at shapes low letter else map_at shapes high letter

-- the value of a shape over existing nodes
abbrev pub value_in : List Shape → Shape → ℕ → ℕ
value_in shapes (Leaf value) letter = value
value_in shapes (Test track low high) letter = chosen shapes track low high letter

-- a test of two different nodes below a bound that depend only on later tracks
pub record IsTest (shapes : List Shape) (bound track low high : ℕ) : Type 0 where
  pub track_low : track < MOST_TRACKS
  pub low_before : low < bound
  pub high_before : high < bound
  pub low_above : track < top_track shapes low
  pub high_above : track < top_track shapes high
  pub differ : low ≢ high

-- a shape over nodes below a bound that depend only on later tracks
abbrev pub FitsBelow : List Shape → ℕ → Shape → Type 0
FitsBelow shapes bound (Leaf value) = Unit {0}
FitsBelow shapes bound (Test track low high) = IsTest shapes bound track low high

-- a reduced ordered diagram: each test is of two different earlier nodes, tracks ascend, and no two nodes are equal
pub record IsDiagram (shapes : List Shape) : Type 0 where
  pub fits : (node : ℕ) (shape : Shape) → slice_get shapes node ≡ Some shape → FitsBelow shapes node shape
  pub distinct : (i j : ℕ) (shape : Shape) → slice_get shapes i ≡ Some shape → slice_get shapes j ≡ Some shape → i ≡ j

-- a node of this shape
pub record IsAt (shapes : List Shape) (node : ℕ) (shape : Shape) : Type 0 where
  pub is : slice_get shapes node ≡ Some shape
  pub within : node < length shapes
  pub map : (letter : ℕ) → map_at shapes node letter ≡ value_in shapes shape letter
  pub top : top_track shapes node ≡ track_of shape

-- existing nodes keep their maps
pub record Grows (old new : List Shape) : Type 0 where
  pub longer : length old ≤ length new
  pub map : (node letter : ℕ) → node < length old → map_at new node letter ≡ map_at old node letter
  pub top : (node : ℕ) → node < length old → top_track new node ≡ top_track old node

-- each value of the children of a shape is a value of the node
abbrev pub HasChildren : List Shape → ℕ → Shape → Type 0
HasChildren shapes node (Leaf value) = Unit {0}
HasChildren shapes node (Test track low high) =
    (letter : ℕ)
    → ((l : ℕ) × (map_at shapes node l ≡ map_at shapes low letter))
    × ((l : ℕ) × (map_at shapes node l ≡ map_at shapes high letter))

-- a node's map depends only on tracks below a bound
pub record LooksBelow (shapes : List Shape) (node bound : ℕ) : Type 0 where
  pub same : (a b : ℕ) → ((k : ℕ) → k < bound → bit_at a k ≡ bit_at b k) → map_at shapes node a ≡ map_at shapes node b
