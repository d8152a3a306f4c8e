-- Hash tables of shapes, and the numbers in their slots.
use Rattle.std.specs.Prelude.{◌≡◌, ◌⊎◌, ℕ, List, [], ◌∷◌, ◌++◌, slice_get, Some, Contains}
use Rattle.letter_diagram.specs.declared.diagrams.Shape.{Shape}
use Rattle.letter_diagram.specs.declared.diagrams.Shape.TheVariants.{Leaf, Test}
use Rattle.letter_diagram.specs.declared.shape_table.Found.{Found}
use Rattle.letter_diagram.specs.declared.shape_table.Found.TheVariants.{Number, Free, Nothing}
use Rattle.letter_diagram.specs.OpenTable.{IsFirstFree}
use Rattle.letter_diagram.specs.Probing.{spread_of}

-- the hash of a shape
abbrev pub start_of : Shape → ℕ
start_of (Leaf value) = spread_of value 0
start_of (Test track low high) = spread_of low high

-- the result of a search for a shape
abbrev pub IsFound : List ℕ → List Shape → Shape → Found → Type 0
IsFound slots shapes shape (Number number) = slice_get shapes number ≡ Some shape
IsFound slots shapes shape (Free place) = IsFirstFree slots (start_of shape) place × ¬ Contains shapes shape
IsFound slots shapes shape Nothing = Unit {0}

-- the shapes stay, or a new shape is appended
abbrev pub AddsShape : List Shape → List Shape → Shape → Type 0
AddsShape old new shape = (new ≡ old) ⊎ ((new ≡ old ++ shape ∷ []) × ¬ Contains old shape)
