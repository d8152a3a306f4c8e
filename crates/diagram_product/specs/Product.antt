-- The value of a product in contracts.
use Rattle.std.specs.Prelude.{ℕ, List, length}
use Rattle.letter_diagram.specs.declared.diagrams.Shape.{Shape}
use Rattle.diagram_product.specs.declared.absorbing.Absorbing.{Absorbing}
use Rattle.letter_diagram.specs.Diagram.{map_at}
use Rattle.diagram_product.specs.Absorbed.{absorbed, ArePairs}
use Rattle.diagram_product.specs.Sided.{Sides, pair_at, AreReadPairs}

-- the nodes of a product, the numbered pairs, and the absorbing values
pub record ProductTables : Type 0 where
  pub shapes : List Shape
  pub pairs : List (ℕ × ℕ)
  pub absorbing : Absorbing

-- the absorbed pair of the values of a and b at a letter
abbrev pub absorbed_at : ProductTables → ℕ → ℕ → ℕ → ℕ × ℕ
absorbed_at product a b letter =
    absorbed product.absorbing (map_at product.shapes a letter) (map_at product.shapes b letter)

-- each pair after those of the product is an absorbed pair of values of a and b
abbrev pub AddsAbsorbed : ProductTables → List (ℕ × ℕ) → ℕ → ℕ → Type 0
AddsAbsorbed product pairs a b =
    ArePairs product.absorbing (length product.pairs) pairs (map_at product.shapes a) (map_at product.shapes b)

-- the two operands of a product, its nodes, and the numbered pairs
pub record SidedTables : Type 0 where
  pub sides : Sides
  pub shapes : List Shape
  pub pairs : List (ℕ × ℕ)

-- the absorbed pair of the values of a and b, as the operands read them, at a letter
abbrev pub read_pair_at : SidedTables → ℕ → ℕ → ℕ → ℕ × ℕ
read_pair_at product a b letter = pair_at product.sides product.shapes a b letter

-- each pair after those of the product is an absorbed pair of values of a and b, as the operands read them
abbrev pub AddsReadPairs : SidedTables → List (ℕ × ℕ) → ℕ → ℕ → Type 0
AddsReadPairs product pairs a b = AreReadPairs product.sides product.shapes (length product.pairs) pairs a b
