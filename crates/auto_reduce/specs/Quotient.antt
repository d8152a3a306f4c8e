-- One state for each class of indistinguishable states, and the automaton over these in the order of discovery.
use Rattle.std.specs.Prelude.{◌≡◌, ◌≢◌, ℕ, ◌<◌, ◌≤◌, Bool, List, ◌∷◌, length, drop, All, AllPairs, Contains, slice_index}
use Rattle.track_word.specs.Word.{IsWord}
use Rattle.letter_diagram.specs.declared.diagrams.Shape.{Shape}
use Rattle.auto_core.specs.Automaton.{Automaton, IsAutomaton, width, first_state, next_state, state_of, is_final}
use Rattle.auto_core.specs.Reduced.{ToldApart}
use Rattle.auto_core.specs.Rows.{AreRows, dense}
use Rattle.auto_refine.specs.Picked.{ArePicked, AreFlags}

-- for each state an indistinguishable one, the same for all of its class
pub record IsCanonical (a : Automaton) (canon : List ℕ) : Type 0 where
  pub valid : IsAutomaton a
  pub size : length canon ≡ length a.accept
  pub within : All (λ state. state < length a.accept) canon
  pub flags : (j : ℕ) → j < length a.accept → is_final a (slice_index canon j) ≡ is_final a j
  pub steps : (j letter : ℕ) → j < length a.accept → letter < width a
      → slice_index canon (next_state a (slice_index canon j) letter) ≡ slice_index canon (next_state a j letter)
  pub apart : (j k : ℕ) → j < length a.accept → k < length a.accept → slice_index canon j ≢ slice_index canon k
      → ToldApart a j k

-- a value is in a list before another one
pub record ComesBefore (values : List ℕ) (x y : ℕ) : Type 0 where
  pub place : ℕ
  pub later : ℕ
  pub less : place < later
  pub within : later < length values
  pub is : slice_index values place ≡ x
  pub later_is : slice_index values later ≡ y

-- the list is extended by the values that it did not contain, in their order
pub record AddsAll (old new values : List ℕ) : Type 0 where
  pub longer : length old ≤ length new
  pub kept : (place : ℕ) → place < length old → slice_index new place ≡ slice_index old place
  pub has : (value : ℕ) → Contains values value → Contains new value
  pub added : (place : ℕ) → length old ≤ place → place < length new → Contains values (slice_index new place)
  pub in_order : (i j : ℕ) → length old ≤ i → i < j → j < length new
      → ComesBefore values (slice_index new i) (slice_index new j)

-- a word whose state has this canonical state
pub record IsMet (a : Automaton) (canon : List ℕ) (state : ℕ) : Type 0 where
  pub word : List ℕ
  pub is_word : IsWord (length a.tracks) word
  pub leads : slice_index canon (state_of a word) ≡ state

-- distinct canonical states that words reach, which include all those of the first row and of the rows of the first of them
pub record IsOrderTo (a : Automaton) (canon order : List ℕ) (rows : ℕ) : Type 0 where
  pub met : All (IsMet a canon) order
  pub different : AllPairs (λ j k. j ≢ k) order
  pub first : (letter : ℕ) → letter < width a → Contains order (slice_index canon (first_state a letter))
  pub next : (place letter : ℕ) → place < rows → letter < width a
      → Contains order (slice_index canon (next_state a (slice_index order place) letter))

abbrev pub IsOrder : Automaton → List ℕ → List ℕ → Type 0
IsOrder a canon order = IsOrderTo a canon order (length order)

-- for each state of an order its index
pub record AreNumbers (order : List ℕ) (states : ℕ) (numbers : List ℕ) : Type 0 where
  pub size : length numbers ≡ states
  pub within : All (λ number. number < length order) numbers
  pub at : (place : ℕ) → place < length order → slice_index numbers (slice_index order place) ≡ place

-- for each state the number of its canonical state
pub record AreClassNumbers (canon numbers table : List ℕ) : Type 0 where
  pub size : length table ≡ length canon
  pub at : (state : ℕ) → state < length canon → slice_index table state ≡ slice_index numbers (slice_index canon state)

-- for each state the index of its canonical state in an order
pub record ArePlaces (canon order : List ℕ) (states : ℕ) (table : List ℕ) : Type 0 where
  pub numbers : List ℕ
  pub are_numbers : AreNumbers order states numbers
  pub are_class_numbers : AreClassNumbers canon numbers table

-- the automaton whose states are the indices of an order of canonical states
pub record IsQuotientBy (a : Automaton) (canon order : List ℕ) (m : Automaton) : Type 0 where
  pub valid : IsAutomaton m
  pub canonical : IsCanonical a canon
  pub order_is : IsOrder a canon order
  pub tracks : m.tracks ≡ a.tracks
  pub size : length m.accept ≡ length order
  pub first : (letter : ℕ) → letter < width a
      → slice_index order (first_state m letter) ≡ slice_index canon (first_state a letter)
  pub next : (place letter : ℕ) → place < length order → letter < width a
      → slice_index order (next_state m place letter) ≡ slice_index canon
      (next_state a (slice_index order place) letter)
  pub final : (place : ℕ) → place < length order → is_final m place ≡ is_final a (slice_index order place)

-- the node of the first row, followed by those of the rows of the states of an order
pub record AreFirstAndPicked (a : Automaton) (order nodes : List ℕ) : Type 0 where
  pub picked : List ℕ
  pub are_picked : ArePicked a.row_nodes order picked
  pub is : nodes ≡ a.first_node ∷ picked

-- the first of some nodes and the others are the first row and the state rows of an automaton with the flags of an order's states
pub record AreRowsOver (a : Automaton) (order : List ℕ) (shapes : List Shape) (rows : List ℕ) : Type 0 where
  pub are_rows : (flags : List Bool) → AreFlags a order flags
      → AreRows a.tracks shapes (slice_index rows 0) (drop 1 rows) flags

-- the automaton of these rows, with these flags
pub record IsOverRows (a : Automaton) (order : List ℕ) (shapes : List Shape) (rows : List ℕ) (m : Automaton) : Type
    0 where
  pub flags : List Bool
  pub are_flags : AreFlags a order flags
  pub is : m ≡ dense a.tracks shapes (slice_index rows 0) (drop 1 rows) flags
