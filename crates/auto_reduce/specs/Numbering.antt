-- Automata whose states are numbered in breadth-first order by ascending letters.
use Rattle.std.specs.Prelude.{◌≡◌, ℕ, zero, suc, ◌+◌, ◌<◌, ◌++◌, ◌⊎◌, List, length, slice_index}
use Rattle.auto_core.specs.Automaton.{Automaton, width, first_state, next_state}
use Rattle.auto_reduce.specs.Quotient.{IsQuotientBy}

-- the values of the first row, followed by those of the states' rows, row by row
abbrev pub mentions : Automaton → List ℕ
mentions a = a.first ++ a.next

-- each state but 0 is preceded, at its first mention, by a mention of the state before it
pub record IsNumberedBreadthFirst (a : Automaton) : Type 0 where
  pub before : (place state : ℕ) → place < length (mentions a) → slice_index (mentions a) place ≡ state + 1
      → (earlier : ℕ) × (earlier < place) × (slice_index (mentions a) earlier ≡ state)

-- the canonical state of a letter in the first row (row 0) or in the row of the state with an index of an order (row index + 1)
abbrev pub led_in : Automaton → List ℕ → List ℕ → ℕ → ℕ → ℕ
led_in a canon order zero letter = slice_index canon (first_state a letter)
led_in a canon order (suc place) letter = slice_index canon (next_state a (slice_index order place) letter)

-- a letter of one of the first rows that leads to a state
pub record IsMentioned (a : Automaton) (canon order : List ℕ) (rows state : ℕ) : Type 0 where
  pub row : ℕ
  pub letter : ℕ
  pub within : row < rows
  pub below : letter < width a
  pub leads : led_in a canon order row letter ≡ state

-- a letter of an earlier row, or an earlier letter of the same row, that leads to a state
pub record IsMentionedBefore (a : Automaton) (canon order : List ℕ) (row letter state : ℕ) : Type 0 where
  pub earlier_row : ℕ
  pub earlier : ℕ
  pub below : earlier < width a
  pub before : (earlier_row < row) ⊎ ((earlier_row ≡ row) × (earlier < letter))
  pub leads : led_in a canon order earlier_row earlier ≡ state

-- an order in which the first rows mention the states
pub record IsNumberedTo (a : Automaton) (canon order : List ℕ) (rows : ℕ) : Type 0 where
  pub mentioned : (number : ℕ) → number < length order → IsMentioned a canon order rows (slice_index order number)
  pub before : (row letter number : ℕ) → row < rows → letter < width a → number + 1 < length order
      → led_in a canon order row letter ≡ slice_index order (number + 1)
      → IsMentionedBefore a canon order row letter (slice_index order number)

-- the automaton over the indices of an order of canonical states, in which they are mentioned row by row
pub record IsQuotient (a m : Automaton) : Type 0 where
  pub canon : List ℕ
  pub order : List ℕ
  pub quotient : IsQuotientBy a canon order m
  pub numbered : IsNumberedTo a canon order (length order + 1)
