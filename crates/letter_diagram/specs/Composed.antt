-- Maps that read a letter twice: to select a row, and in that row.
use Rattle.std.specs.Prelude.{◌≡◌, ℕ, ◌<◌, List, All, length, slice_index, Some, nat_eq}
use Rattle.std.specs.HashMap.{HashMap, get}
use Rattle.letter_diagram.specs.declared.diagrams.Shape.{Shape}
use Rattle.letter_diagram.specs.Diagram.{map_at}

-- the value of r at a letter is that of the row that a selects, at the same letter
pub record IsComposed (shapes : List Shape) (rows : List ℕ) (a r : ℕ) : Type 0 where
  pub known : r < length shapes
  pub source_known : a < length shapes
  pub rows_known : All (λ node. node < length shapes) rows
  pub within : (letter : ℕ) → map_at shapes a letter < length rows
  pub map : (letter : ℕ) → map_at shapes r letter ≡ map_at shapes (slice_index rows (map_at shapes a letter)) letter

-- the results in a cache are compositions
pub record RemembersComposed {S : Type 0} (shapes : List Shape) (rows : List ℕ) (memo : HashMap ℕ ℕ S) : Type 0 where
  pub composed : (a r : ℕ) → get nat_eq memo a ≡ Some r → IsComposed shapes rows a r
