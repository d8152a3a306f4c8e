-- The values of a map in the order of their least letters.
use Rattle.std.specs.Prelude.{◌≡◌, ◌<◌, ℕ, List, length, slice_index, Contains}
use Rattle.letter_diagram.specs.declared.diagrams.Shape.{Shape}
use Rattle.letter_diagram.specs.Diagram.{map_at}

-- all values of a node's map and no others, ordered by the least letter of each
pub record AreLeaves (shapes : List Shape) (node : ℕ) (values : List ℕ) : Type 0 where
  pub all : (letter : ℕ) → Contains values (map_at shapes node letter)
  pub given : (i : ℕ) → i < length values → (letter : ℕ) × (map_at shapes node letter ≡ slice_index values i)
  pub ordered : (i j : ℕ) → i < j → j < length values
      → (first : ℕ) × (map_at shapes node first ≡ slice_index values i)
      × ((letter : ℕ) → map_at shapes node letter ≡ slice_index values j → first < letter)
