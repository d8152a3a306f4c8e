-- Pairs of nodes in the order of discovery.
use Rattle.std.specs.Prelude.{◌≡◌, ◌⊎◌, ℕ, List, slice_get, Some}
use Rattle.letter_diagram.specs.Numbering.{PairsKept}

-- the pair is discovered
abbrev pub IsMetIn : List (ℕ × ℕ) → ℕ × ℕ → Type 0
IsMetIn met pair = (number : ℕ) × (slice_get met number ≡ Some pair)

-- one pair is discovered, and the pairs discovered before keep their numbers
pub record Adds (old new : List (ℕ × ℕ)) (pair : ℕ × ℕ) : Type 0 where
  pub kept : PairsKept old new
  pub there : IsMetIn new pair
  pub only : (other : ℕ × ℕ) → IsMetIn new other → IsMetIn old other ⊎ (other ≡ pair)
