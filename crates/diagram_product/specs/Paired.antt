-- Pairs of the values of two maps.
use Rattle.std.specs.Prelude.{◌≡◌, ℕ, ◌<◌, ◌≤◌, List, length, slice_get, Some}
use Rattle.letter_diagram.specs.declared.diagrams.Shape.{Shape}
use Rattle.letter_diagram.specs.Diagram.{map_at}

-- a node's map gives the numbers of these pairs
abbrev pub NumbersPairs : List Shape → List (ℕ × ℕ) → (ℕ → ℕ × ℕ) → ℕ → Type 0
NumbersPairs shapes pairs pair node = (letter : ℕ) → slice_get pairs (map_at shapes node letter) ≡ Some (pair letter)

-- the values of a and b at a letter
abbrev pub both_at : List Shape → ℕ → ℕ → ℕ → ℕ × ℕ
both_at shapes a b letter = (map_at shapes a letter, map_at shapes b letter)

-- each pair from a number on is the pair of the values of a and b at some letter
pub record AreAnswers (shapes : List Shape) (from : ℕ) (pairs : List (ℕ × ℕ)) (a b : ℕ) : Type 0 where
  pub answer : (number : ℕ) → from ≤ number → number < length pairs
      → (letter : ℕ) × (slice_get pairs number ≡ Some (both_at shapes a b letter))
