-- The least letter at which a map gives a value, and a pass over the reachable nodes that finds these letters.
use Rattle.std.specs.Prelude.{◌≡◌, ℕ, ◌%◌, ◌^◌, ◌<◌, ◌≤◌, ◌⊎◌, List, length, Some, All}
use Rattle.std.specs.Ordering.{nat_cmp}
use Rattle.std.specs.BTreeMap.{BTreeMap, get}
use Rattle.std.specs.Map.{keys_of}
use Rattle.letter_diagram.specs.declared.diagrams.Shape.{Shape}
use Rattle.letter_diagram.specs.declared.diagrams.Shape.TheVariants.{Leaf}
use Rattle.letter_diagram.specs.Diagram.{map_at, top_track, IsAt}

-- the least letter at which a node's map gives a value
pub record IsFirst (shapes : List Shape) (node value letter : ℕ) : Type 0 where
  pub map : map_at shapes node letter ≡ value
  pub least : (l : ℕ) → map_at shapes node l ≡ value → letter ≤ l

-- for each value that the node's map gives, the least letter at which it does
pub record AreFirsts (shapes : List Shape) (node : ℕ) (firsts : BTreeMap ℕ ℕ) : Type 0 where
  pub first : (letter value : ℕ) → get nat_cmp firsts letter ≡ Some value → IsFirst shapes node value letter
  pub has : (letter : ℕ) → (first : ℕ) × (get nat_cmp firsts first ≡ Some (map_at shapes node letter))

-- a node whose map is that of the root at each letter with these bits before the node's track
pub record IsMet (shapes : List Shape) (root node letter : ℕ) : Type 0 where
  pub known : node < length shapes
  pub below : letter < 2 ^ top_track shapes node
  pub same : (l : ℕ) → l % 2 ^ top_track shapes node ≡ letter → map_at shapes root l ≡ map_at shapes node l

-- new is old with a node at a letter: each node has one letter, the least
pub record Meets (old new : BTreeMap ℕ ℕ) (node letter : ℕ) : Type 0 where
  pub here : (least : ℕ) × (get nat_cmp new node ≡ Some least) × (least ≤ letter)
  pub kept : (n l : ℕ) → get nat_cmp old n ≡ Some l → (least : ℕ) × (get nat_cmp new n ≡ Some least) × (least ≤ l)
  pub only : (n l : ℕ) → get nat_cmp new n ≡ Some l → (get nat_cmp old n ≡ Some l) ⊎ ((n ≡ node) × (l ≡ letter))
  pub below : (bound : ℕ) → node < bound → All (λ key. key < bound) (keys_of old.entries)
      → All (λ key. key < bound) (keys_of new.entries)

-- a visited node gives the root's value at a letter, and the node's letter is at most that letter
pub record Awaits (shapes : List Shape) (root : ℕ) (met : BTreeMap ℕ ℕ) (letter : ℕ) : Type 0 where
  pub node : ℕ
  pub first : ℕ
  pub at : get nat_cmp met node ≡ Some first
  pub early : first ≤ letter % 2 ^ top_track shapes node
  pub gives : map_at shapes node letter ≡ map_at shapes root letter

-- the root's value at a letter was found, at that letter or a lesser one
pub record IsFound (shapes : List Shape) (root : ℕ) (firsts : BTreeMap ℕ ℕ) (letter : ℕ) : Type 0 where
  pub first : ℕ
  pub at : get nat_cmp firsts first ≡ Some (map_at shapes root letter)
  pub early : first ≤ letter

-- a found value is that of a leaf with a greater number than all nodes still to be processed
pub record IsPassed (shapes : List Shape) (met : BTreeMap ℕ ℕ) (value : ℕ) : Type 0 where
  pub leaf : ℕ
  pub at : IsAt shapes leaf (Leaf value)
  pub after : (node letter : ℕ) → get nat_cmp met node ≡ Some letter → node < leaf

-- the visited nodes that are still to be processed, and the values of the leaves already processed, with their letters
pub record IsPass (shapes : List Shape) (root : ℕ) (met firsts : BTreeMap ℕ ℕ) : Type 0 where
  pub met_at : (node letter : ℕ) → get nat_cmp met node ≡ Some letter → IsMet shapes root node letter
  pub value_at : (letter value : ℕ) → get nat_cmp firsts letter ≡ Some value → map_at shapes root letter ≡ value
  pub passed : (letter value : ℕ) → get nat_cmp firsts letter ≡ Some value → IsPassed shapes met value
  pub once : (a b value : ℕ) → get nat_cmp firsts a ≡ Some value → get nat_cmp firsts b ≡ Some value → a ≡ b
  pub each : (letter : ℕ) → Awaits shapes root met letter ⊎ IsFound shapes root firsts letter
