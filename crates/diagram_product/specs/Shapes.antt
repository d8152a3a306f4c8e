-- What two nodes test first, as the operands read them.
use Rattle.std.specs.Prelude.{◌≡◌, ℕ, ◌<◌, ◌≤◌, List}
use Rattle.limits.specs.declared.numbers.TheConstants.{MOST_TRACKS}
use Rattle.letter_diagram.specs.declared.diagrams.Shape.{Shape}
use Rattle.diagram_product.specs.declared.sides.PairTest.{PairTest}
use Rattle.diagram_product.specs.declared.sides.PairShape.{PairShape}
use Rattle.diagram_product.specs.declared.sides.PairShape.TheVariants.{Pair, Test}
use Rattle.diagram_product.specs.Sided.{Sides, IsReadSplit, pair_at, pair_top}

-- both maps at the bits of the least track that one of them depends on
pub record IsPairTest (sides : Sides) (shapes : List Shape) (a b : ℕ) (test : PairTest) : Type 0 where
  pub track_low : test.track < MOST_TRACKS
  pub top : test.track ≡ pair_top sides shapes a b
  pub left : IsReadSplit sides.left shapes a test.track test.low.0 test.high.0
  pub right : IsReadSplit sides.right shapes b test.track test.low.1 test.high.1

-- the same absorbed pair at each letter
pub record IsOnePair (sides : Sides) (shapes : List Shape) (a b : ℕ) (pair : ℕ × ℕ) : Type 0 where
  pub same : (letter : ℕ) → pair_at sides shapes a b letter ≡ pair
  pub top : pair_top sides shapes a b ≤ MOST_TRACKS

-- one pair at each letter, or both maps at the bits of a track
abbrev pub IsPairShape : Sides → List Shape → ℕ → ℕ → PairShape → Type 0
IsPairShape sides shapes a b (Pair left right) = IsOnePair sides shapes a b (left, right)
IsPairShape sides shapes a b (Test test) = IsPairTest sides shapes a b test
