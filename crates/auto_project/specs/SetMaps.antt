-- Nodes that map letters to the numbers of sets of states.
use Rattle.std.specs.Prelude.{◌≡◌, ◌≢◌, ◌↔◌, ℕ, ◌^◌, ◌<◌, ◌≤◌, List, [], ◌∷◌, Some, length, slice_get, slice_index, All, Contains}
use Rattle.std.specs.Int.{bit_at}
use Rattle.std.specs.List.Sorted.{IsStrictlyIncreasing}
use Rattle.track_word.specs.declared.tracks.Var.{Var}
use Rattle.track_word.specs.Tracks.{restrict}
use Rattle.letter_diagram.specs.declared.diagrams.Shape.{Shape}
use Rattle.letter_diagram.specs.Diagram.{map_at}
use Rattle.letter_diagram.specs.Sets.{set_at}
use Rattle.letter_diagram.specs.Listed.{EachAnswers}
use Rattle.letter_diagram.specs.Merged.{HasSets, IsMerged}
use Rattle.letter_diagram.specs.Merger.{MergerTables}
use Rattle.auto_core.specs.Automaton.{Automaton, IsAutomaton, first_state, next_state}
use Rattle.auto_project.specs.Lifted.{Begins, Follows, LiftLeads}
use Rattle.auto_project.specs.Subsets.{next_set}
use Rattle.auto_project.specs.declared.closure.TrackRows.{TrackRows}
use Rattle.auto_project.specs.declared.rows.SetRows.{SetRows}

-- each number below a bound is that of the set of this number alone
pub record AreSingletons (sets : List (List ℕ)) (count : ℕ) : Type 0 where
  pub enough : count ≤ length sets
  pub single : (number : ℕ) → number < count → slice_get sets number ≡ Some (number ∷ [])

-- the set that the node's map gives at a letter
abbrev pub set_of : List Shape → List (List ℕ) → ℕ → ℕ → List ℕ
set_of shapes sets node letter = set_at sets (map_at shapes node letter)

-- letters that agree on this many tracks have sets with the same states
pub record IsNarrow (shapes : List Shape) (sets : List (List ℕ)) (tracks node : ℕ) : Type 0 where
  pub same : (x y state : ℕ) → ((k : ℕ) → k < tracks → bit_at x k ≡ bit_at y k)
      → Contains (set_of shapes sets node x) state → Contains (set_of shapes sets node y) state

-- each letter over this many tracks has a nonempty set
abbrev pub HasSomeStates : List Shape → List (List ℕ) → ℕ → ℕ → Type 0
HasSomeStates shapes sets tracks node = (letter : ℕ) → letter < 2 ^ tracks → set_of shapes sets node letter ≢ []

-- the node maps each letter over this many tracks to the set of the states with the property
pub record IsSetRow (shapes : List Shape) (sets : List (List ℕ)) (tracks node : ℕ) (Holds : ℕ → ℕ → Type 0) : Type
    0 where
  pub is : HasSets shapes sets node
  pub narrow : IsNarrow shapes sets tracks node
  pub members : (letter state : ℕ) → letter < 2 ^ tracks
      → Contains (set_of shapes sets node letter) state ↔ Holds letter state

-- a node for each state, which maps each letter over some tracks to the set of the states that follow
pub record AreSetRows (shapes : List Shape) (sets : List (List ℕ)) (a : Automaton) (some : List Var)
    (rows : List ℕ) : Type 0 where
  pub size : length rows ≡ length a.accept
  pub each : (state node : ℕ) → slice_get rows state ≡ Some node
      → IsSetRow shapes sets (length some) node (Follows a some state)

-- the rows of an automaton over some of its tracks, from the states that a sign letter reaches
pub record HasSetRows (shapes : List Shape) (sets : List (List ℕ)) (a : Automaton) (some : List Var) (first : ℕ)
    (rows : List ℕ) : Type 0 where
  pub valid : IsAutomaton a
  pub first_row : IsSetRow shapes sets (length some) first (Begins a some)
  pub state_rows : AreSetRows shapes sets a some rows

-- the same, from the states that the lifts of a sign letter reach
pub record HasClosedRows (shapes : List Shape) (sets : List (List ℕ)) (a : Automaton) (some : List Var) (first : ℕ)
    (rows : List ℕ) : Type 0 where
  pub valid : IsAutomaton a
  pub ascend : All IsStrictlyIncreasing sets
  pub first_row : IsSetRow shapes sets (length some) first (λ letter state. LiftLeads a some (letter ∷ []) state)
  pub state_rows : AreSetRows shapes sets a some rows

-- the rows of the walk over sets of states: each state's row maps to the sets of the states that follow it
pub record HasPlaceRows (shapes : List Shape) (sets : List (List ℕ)) (a : Automaton) (some : List Var) (first : ℕ)
    (rows : List ℕ) : Type 0 where
  pub valid : IsAutomaton a
  pub first_is : HasSets shapes sets first
  pub first_some : HasSomeStates shapes sets (length some) first
  pub first_within : (letter state : ℕ) → letter < 2 ^ length some → Contains (set_of shapes sets first letter) state
      → state < length a.accept
  pub first_narrow : (x y : ℕ) → ((k : ℕ) → k < length some → bit_at x k ≡ bit_at y k)
      → set_of shapes sets first x ≡ set_of shapes sets first y
  pub size : length rows ≡ length a.accept
  pub is : (state : ℕ) → state < length rows → HasSets shapes sets (slice_index rows state)
  pub narrow : (state x y : ℕ) → state < length rows → ((k : ℕ) → k < length some → bit_at x k ≡ bit_at y k)
      → set_of shapes sets (slice_index rows state) x ≡ set_of shapes sets (slice_index rows state) y
  pub leads : (state letter : ℕ) → state < length rows → letter < 2 ^ length some
      → set_of shapes sets (slice_index rows state) letter ≡ next_set a some (state ∷ []) letter

-- the node's map gives each letter a state, by the letter over all tracks
pub record IsWideRow (shapes : List Shape) (a : Automaton) (some : List Var) (node : ℕ) (value : ℕ → ℕ) : Type 0 where
  pub known : node < length shapes
  pub within : (letter : ℕ) → map_at shapes node letter < length a.accept
  pub reads : (letter : ℕ) → map_at shapes node letter ≡ value (restrict some a.tracks letter)

-- a node for each state's row
pub record AreWideRows (shapes : List Shape) (a : Automaton) (some : List Var) (rows : List ℕ) : Type 0 where
  pub size : length rows ≡ length a.accept
  pub each : (state node : ℕ) → slice_get rows state ≡ Some node → IsWideRow shapes a some node (next_state a state)

-- each row is that of the unions of what its node gives at both bits of the track
abbrev pub AreMergedAt : ℕ → MergerTables → List ℕ → List ℕ → Type 0
AreMergedAt track merger nodes rows = EachAnswers (IsMerged merger.shapes merger.sets track) nodes rows

-- the rows of an automaton by letters over all tracks
pub record HasWideRows (shapes : List Shape) (a : Automaton) (some : List Var) (first : ℕ) (rows : List ℕ) : Type
    0 where
  pub valid : IsAutomaton a
  pub first_row : IsWideRow shapes a some first (first_state a)
  pub state_rows : AreWideRows shapes a some rows

-- the node's sets are nonempty, and a lift of the letter reaches each of their states
pub record IsLedRow (shapes : List Shape) (sets : List (List ℕ)) (a : Automaton) (some : List Var) (node : ℕ) : Type
    0 where
  pub is : HasSets shapes sets node
  pub narrow : IsNarrow shapes sets (length some) node
  pub nonempty : HasSomeStates shapes sets (length some) node
  pub led : (letter state : ℕ) → letter < 2 ^ length some → Contains (set_of shapes sets node letter) state
      → LiftLeads a some (letter ∷ []) state

-- the node's sets are the unions of the sets of several nodes
pub record IsUnionOf (shapes : List Shape) (sets : List (List ℕ)) (nodes : List ℕ) (node : ℕ) : Type 0 where
  pub is : HasSets shapes sets node
  pub members : (letter state : ℕ)
      → Contains (set_of shapes sets node letter) state
      ↔ ((one : ℕ) × Contains nodes one × Contains (set_of shapes sets one letter) state)

-- the swept node's sets are the node's sets with what the rows of their states give
pub record IsSwept (shapes : List Shape) (sets : List (List ℕ)) (rows : List ℕ) (node swept : ℕ) : Type 0 where
  pub is : HasSets shapes sets node
  pub wider : (letter state : ℕ) → Contains (set_of shapes sets node letter) state
      → Contains (set_of shapes sets swept letter) state
  pub has : (from row letter state : ℕ) → slice_get rows from ≡ Some row
      → Contains (set_of shapes sets node letter) from → Contains (set_of shapes sets row letter) state
      → Contains (set_of shapes sets swept letter) state

-- the node's sets are the unions of the sets of the rows of several states
pub record IsUnionRow (shapes : List Shape) (sets : List (List ℕ)) (rows set : List ℕ) (node : ℕ) : Type 0 where
  pub is : HasSets shapes sets node
  pub members : (letter state : ℕ)
      → Contains (set_of shapes sets node letter) state
      ↔ ((from : ℕ) × Contains set from × Contains (set_of shapes sets (slice_index rows from) letter) state)

-- each of the node's sets is nonempty and contains only states below a count
pub record HasStates (shapes : List Shape) (sets : List (List ℕ)) (count node : ℕ) : Type 0 where
  pub is : HasSets shapes sets node
  pub nonempty : (letter : ℕ) → set_of shapes sets node letter ≢ []
  pub within : (letter state : ℕ) → Contains (set_of shapes sets node letter) state → state < count

-- a table that has, at the number of each set that the node gives, the row of that set
pub record HasUnionRows (shapes : List Shape) (sets : List (List ℕ)) (rows : List ℕ) (node : ℕ) (table : List ℕ) : Type
    0 where
  pub known : All (λ row. row < length shapes) table
  pub within : (letter : ℕ) → map_at shapes node letter < length table
  pub union : (letter : ℕ)
      → IsUnionRow shapes sets rows (set_of shapes sets node letter) (slice_index table (map_at shapes node letter))

-- ---- the same for nodes of a merger and its sets

-- the rows of an automaton over some of its tracks
abbrev pub HasSetRowsOf : Automaton → List Var → SetRows → Type 0
HasSetRowsOf a some made = HasSetRows made.merger.shapes made.merger.sets a some made.first made.rows.items

-- the rows are those of an automaton's states
abbrev pub AreRowsIn : MergerTables → TrackRows → Type 0
AreRowsIn merger rows = AreSetRows merger.shapes merger.sets rows.automaton.now rows.tracks.items rows.nodes.items

-- the node maps each letter to the set of the states that sign letters with this restriction reach
abbrev pub IsSignRowIn : MergerTables → TrackRows → ℕ → Type 0
IsSignRowIn merger rows node =
    IsSetRow merger.shapes merger.sets (length rows.tracks.items) node (Begins rows.automaton.now rows.tracks.items)

-- the node maps each letter to the set of the states that its lifts reach
abbrev pub IsLiftRowIn : MergerTables → TrackRows → ℕ → Type 0
IsLiftRowIn merger rows node =
    IsSetRow merger.shapes merger.sets (length rows.tracks.items) node
    (λ letter state. LiftLeads rows.automaton.now rows.tracks.items (letter ∷ []) state)

-- the node maps each letter to a set of states that its lifts reach
abbrev pub IsLedRowIn : MergerTables → TrackRows → ℕ → Type 0
IsLedRowIn merger rows node = IsLedRow merger.shapes merger.sets rows.automaton.now rows.tracks.items node

-- each letter has a nonempty set
abbrev pub HasSomeStatesIn : MergerTables → TrackRows → ℕ → Type 0
HasSomeStatesIn merger rows node = HasSomeStates merger.shapes merger.sets (length rows.tracks.items) node

-- each of the node's sets is nonempty, and all its states have rows
abbrev pub HasStatesIn : MergerTables → TrackRows → ℕ → Type 0
HasStatesIn merger rows node = HasStates merger.shapes merger.sets (length rows.nodes.items) node

-- a table that has, at the number of each set that the node gives, the row of that set
abbrev pub HasUnionRowsIn : MergerTables → TrackRows → ℕ → List ℕ → Type 0
HasUnionRowsIn merger rows node table = HasUnionRows merger.shapes merger.sets rows.nodes.items node table

-- the swept node's sets are the node's sets with what the rows of their states give
abbrev pub IsSweptIn : MergerTables → TrackRows → ℕ → ℕ → Type 0
IsSweptIn merger rows node swept = IsSwept merger.shapes merger.sets rows.nodes.items node swept

-- the rows with the first one closed: it maps each sign letter to the states that its lifts reach
abbrev pub HasClosedRowsIn : MergerTables → TrackRows → ℕ → Type 0
HasClosedRowsIn merger rows first =
    HasClosedRows merger.shapes merger.sets rows.automaton.now rows.tracks.items first rows.nodes.items

-- the rows of the walk over sets of states
abbrev pub HasPlaceRowsIn : MergerTables → TrackRows → ℕ → Type 0
HasPlaceRowsIn merger rows first =
    HasPlaceRows merger.shapes merger.sets rows.automaton.now rows.tracks.items first rows.nodes.items

-- the node's sets are the unions of the sets of the rows of several states
abbrev pub IsUnionRowIn : MergerTables → List ℕ → List ℕ → ℕ → Type 0
IsUnionRowIn merger rows set node = IsUnionRow merger.shapes merger.sets rows set node
