-- Caches by node number.
use Rattle.std.specs.Prelude.{◌≡◌, ◌≢◌, ◌<◌, ◌⊎◌, ℕ, List, length, slice_index_or, Option, Some, None}

-- the stored result for a node, or none
abbrev pub answer_of : List (Option ℕ) → ℕ → Option ℕ
answer_of memo node = slice_index_or memo node None

-- one more result is stored, if there is room for the node, and nothing else changes
pub record Remembers (old new : List (Option ℕ)) (node answer : ℕ) : Type 0 where
  pub only : (a r : ℕ) → answer_of new a ≡ Some r → (answer_of old a ≡ Some r) ⊎ ((a ≡ node) × (r ≡ answer))
  pub here : node < length old → answer_of new node ≡ Some answer
  pub others : (other : ℕ) → other ≢ node → answer_of new other ≡ answer_of old other
  pub room : length new ≡ length old

-- the result for a node is removed, and nothing else changes
pub record Forgets (old new : List (Option ℕ)) (node : ℕ) : Type 0 where
  pub none : answer_of new node ≡ None
  pub others : (other : ℕ) → other ≢ node → answer_of new other ≡ answer_of old other
  pub room : length new ≡ length old
