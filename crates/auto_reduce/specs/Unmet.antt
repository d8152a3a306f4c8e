-- The states that a row maps to and that no earlier row maps to.
use Rattle.std.specs.Prelude.{◌≡◌, ◌⊎◌, ℕ, ◌<◌, ◌≤◌, Bool, true, false, List, length, slice_index, slice_index_or, Contains, Option, Some}
use Rattle.limits.specs.declared.numbers.TheConstants.{MOST_TRACKS}
use Rattle.letter_diagram.specs.declared.diagrams.Shape.{Shape}
use Rattle.letter_diagram.specs.Diagram.{map_at, top_track}
use Rattle.letter_diagram.specs.NodeMemo.{answer_of}
use Rattle.auto_refine.specs.Leading.{entry_at}
use Rattle.auto_reduce.specs.declared.unmet.CanonicalRows.{CanonicalRows}
use Rattle.auto_reduce.specs.declared.unmet.Unmet.{Unmet}
use Rattle.auto_reduce.specs.declared.unmet.Unmet.TheVariants.{Nothing, One, Several}

-- an order is extended by the values of a row that it did not contain, by their least letters
pub record AddsRow (row : ℕ → ℕ) (old new : List ℕ) : Type 0 where
  pub longer : length old ≤ length new
  pub kept : (place : ℕ) → place < length old → slice_index new place ≡ slice_index old place
  pub has : (letter : ℕ) → Contains new (row letter)
  pub added : (place : ℕ) → length old ≤ place → place < length new
      → (letter : ℕ) × (row letter ≡ slice_index new place)
  pub in_order : (i j : ℕ) → length old ≤ i → i < j → j < length new
      → (first : ℕ) × (row first ≡ slice_index new i) × ((letter : ℕ) → row letter ≡ slice_index new j → first < letter)

-- a leaf whose value is in a list
pub record IsMetLeaf (shapes : List Shape) (met : List ℕ) (leaf : ℕ) : Type 0 where
  pub known : leaf < length shapes
  pub top : top_track shapes leaf ≡ MOST_TRACKS
  pub is_met : (letter : ℕ) → Contains met (map_at shapes leaf letter)

-- equal values, or two values of a list
abbrev pub StandsFor : List ℕ → ℕ → ℕ → Type 0
StandsFor met v w = (v ≡ w) ⊎ (Contains met v × Contains met w)

-- the canonical state that a node maps a letter to
abbrev pub canonical_at : CanonicalRows → ℕ → ℕ → ℕ
canonical_at rows = entry_at rows.canon.now rows.from.now

-- r maps to the canonical states that a maps to, except that those of a list may replace one another
pub record IsPruned (rows : CanonicalRows) (shapes : List Shape) (met : List ℕ) (a r : ℕ) : Type 0 where
  pub known : r < length shapes
  pub map : (letter : ℕ) → StandsFor met (map_at shapes r letter) (canonical_at rows a letter)
  pub top : top_track rows.from.now a ≤ top_track shapes r

pub record RemembersPruned (rows : CanonicalRows) (shapes : List Shape) (met : List ℕ) (memo : List (Option ℕ)) : Type 0 where
  pub pruned : (a r : ℕ) → answer_of memo a ≡ Some r → IsPruned rows shapes met a r

-- some nodes are no longer done, and no other node changes
abbrev pub WereRemoved : List ℕ → List Bool → List Bool → Type 0
WereRemoved nodes old new = (node : ℕ) → slice_index_or new node false ≡ true
    → (slice_index_or old node false ≡ true) × ¬ Contains nodes node

-- the done nodes map only to values of a list
pub record AreDone (states : ℕ → ℕ → ℕ) (met : List ℕ) (done : List Bool) : Type 0 where
  pub are_met : (node letter : ℕ) → slice_index_or done node false ≡ true → Contains met (states node letter)

-- a value is in a list or was found; if several were found, it may be any
abbrev pub IsFound : List ℕ → Unmet → ℕ → Type 0
IsFound met Nothing value = Contains met value
IsFound met (One state) value = Contains met value ⊎ (value ≡ state)
IsFound met Several value = Unit {0}

-- a value of a row that is not in a list
pub record IsUnmetOf (met : List ℕ) (row : ℕ → ℕ) (state : ℕ) : Type 0 where
  pub letter : ℕ
  pub is : row letter ≡ state
  pub unmet : ¬ Contains met state

-- the result after adding the values of a row to what was found before
pub record Finds (met : List ℕ) (before : Unmet) (row : ℕ → ℕ) (after : Unmet) : Type 0 where
  pub leads : (letter : ℕ) → IsFound met after (row letter)
  pub kept : (value : ℕ) → IsFound met before value → IsFound met after value
  pub given : (state : ℕ) → after ≡ One state → (before ≡ One state) ⊎ IsUnmetOf met row state

-- the done nodes map only to values of a list or to what was found
pub record AreDoneWith (states : ℕ → ℕ → ℕ) (met : List ℕ) (found : Unmet) (done : List Bool) : Type 0 where
  pub are_found : (node letter : ℕ) → slice_index_or done node false ≡ true → IsFound met found (states node letter)

-- the done nodes, except some, map only to values of a list
pub record AreDoneBut (states : ℕ → ℕ → ℕ) (met nodes : List ℕ) (done : List Bool) : Type 0 where
  pub are_met : (node : ℕ) → slice_index_or done node false ≡ true
      → Contains nodes node ⊎ ((letter : ℕ) → Contains met (states node letter))
