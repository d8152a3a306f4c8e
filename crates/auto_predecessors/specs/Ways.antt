-- Rows' nodes as places, each after its successors, and predecessor lists.
use Rattle.std.specs.Prelude.{◌≡◌, ℕ, ◌<◌, ◌≤◌, ◌+◌, ◌*◌, ◌⊎◌, ◌||◌, Bool, true, false, List, [], ◌∷◌, length, All, Contains, slice_get, slice_index, slice_index_or, Option, Some, None}
use Rattle.smallvec.specs.SmallVec.{SmallVec}
use Rattle.letter_diagram.specs.declared.diagrams.Shape.{Shape}
use Rattle.letter_diagram.specs.Diagram.{map_at}
use Rattle.auto_core.specs.Automaton.{Automaton, width, next_state}
use Rattle.auto_predecessors.specs.declared.ways.PlaceTarget.{PlaceTarget}
use Rattle.auto_predecessors.specs.declared.ways.PlaceTarget.TheVariants.{State, Both}
use Rattle.auto_predecessors.specs.declared.ways.Predecessors.{Predecessors}

-- the successors of a place: one of this many states, or two earlier places
abbrev pub FitsAt : ℕ → ℕ → PlaceTarget → Type 0
FitsAt states place (State state) = state < states
FitsAt states place (Both low high) = (low < place) × (high < place)

abbrev pub AreWays : ℕ → List PlaceTarget → Type 0
AreWays states ways = (place : ℕ) (way : PlaceTarget) → slice_get ways place ≡ Some way → FitsAt states place way

-- whether a successor of a place is a marked state or a marked place
abbrev pub mark_of_way : (ℕ → Bool) → List Bool → PlaceTarget → Bool
mark_of_way states marks (State state) = states state
mark_of_way states marks (Both low high) = slice_index_or marks low false || slice_index_or marks high false

-- the places that map to a marked state are marked; others may be marked too
pub record AreMarks (ways : List PlaceTarget) (states : ℕ → Bool) (marks : List Bool) : Type 0 where
  pub up : (place : ℕ) (way : PlaceTarget) → slice_get ways place ≡ Some way → mark_of_way states marks way ≡ true
      → slice_index_or marks place false ≡ true

-- existing entries stay
pub record KeepsWays (old new : List PlaceTarget) : Type 0 where
  pub longer : length old ≤ length new
  pub at : (place : ℕ) (way : PlaceTarget) → slice_get old place ≡ Some way → slice_get new place ≡ Some way

-- whatever states are marked: if a node's place is unmarked, no value of the node's map is marked
pub record IsPlaced (shapes : List Shape) (ways : List PlaceTarget) (node place : ℕ) : Type 0 where
  pub within : place < length ways
  pub none : (states : ℕ → Bool) (marks : List Bool) → AreMarks ways states marks
      → slice_index_or marks place false ≡ false → (letter : ℕ) → states (map_at shapes node letter) ≡ false

-- the successors of each place, and for each node its place if it has one
pub record RemembersPlaced (states : ℕ) (shapes : List Shape) (ways : List PlaceTarget) (places : List (Option ℕ)) : Type
    0 where
  pub size : length places ≡ length shapes
  pub fits : AreWays states ways
  pub placed : (node place : ℕ) → slice_index_or places node None ≡ Some place → IsPlaced shapes ways node place

-- the successors of each place, and the place of each row; whatever states are marked: if the place is unmarked, no next state is
-- marked
pub record ArePlacedRows (a : Automaton) (ways : List PlaceTarget) (rows : List ℕ) : Type 0 where
  pub fits : AreWays (length a.accept) ways
  pub size : length rows ≡ length a.accept
  pub within : All (λ place. place < length ways) rows
  pub none : (states : ℕ → Bool) (marks : List Bool) → AreMarks ways states marks → (state letter : ℕ)
      → state < length a.accept → letter < width a
      → slice_index_or marks (slice_index rows state) false ≡ false → states (next_state a state letter) ≡ false

-- a number is in the list at an index
pub record IsListed (lists : List (SmallVec ℕ)) (at number : ℕ) : Type 0 where
  pub list : SmallVec ℕ
  pub is : slice_get lists at ≡ Some list
  pub has : Contains list.items number

-- entries stay, and at most one number is added
pub record AddsListed (old new : List (SmallVec ℕ)) (number : ℕ) : Type 0 where
  pub size : length new ≡ length old
  pub kept : (k x : ℕ) → IsListed old k x → IsListed new k x
  pub only : (k x : ℕ) → IsListed new k x → IsListed old k x ⊎ (x ≡ number)

-- all entries are below a bound
pub record AreListedBelow (lists : List (SmallVec ℕ)) (bound : ℕ) : Type 0 where
  pub below : (k x : ℕ) → IsListed lists k x → x < bound

-- a place is in the lists of its successors
abbrev pub IsLinked : List (SmallVec ℕ) → List (SmallVec ℕ) → ℕ → PlaceTarget → Type 0
IsLinked above leaves place (State state) = IsListed leaves state place
IsLinked above leaves place (Both low high) = IsListed above low place × IsListed above high place

-- the predecessor lists, from states to places and from places to places
pub record AreWaysUp (ways : List PlaceTarget) (above leaves : List (SmallVec ℕ)) : Type 0 where
  pub above_below : AreListedBelow above (length ways)
  pub leaves_below : AreListedBelow leaves (length ways)
  pub linked : (place : ℕ) (way : PlaceTarget) → slice_get ways place ≡ Some way → IsLinked above leaves place way

-- for each place, the states whose row it is
pub record AreOwners (rows : List ℕ) (owners : List (SmallVec ℕ)) : Type 0 where
  pub below : AreListedBelow owners (length rows)
  pub owned : (state : ℕ) → state < length rows → IsListed owners (slice_index rows state) state

-- the predecessor lists of an automaton's rows
pub record AreRowWays (a : Automaton) (w : Predecessors) : Type 0 where
  pub ways : List PlaceTarget
  pub rows : List ℕ
  pub placed : ArePlacedRows a ways rows
  pub above_size : length w.above.items ≡ length ways
  pub leaves_size : length w.leaves.items ≡ length a.accept
  pub owners_size : length w.owners.items ≡ length ways
  pub up : AreWaysUp ways w.above.items w.leaves.items
  pub owners : AreOwners rows w.owners.items

-- the number of unmarked places
abbrev pub unmarked : List Bool → ℕ
unmarked [] = 0
unmarked (true ∷ marks) = unmarked marks
unmarked (false ∷ marks) = unmarked marks + 1

-- the remaining work: a place enters the worklist after its mark
abbrev pub work_left : List Bool → List ℕ → ℕ
work_left marks waiting = 2 * unmarked marks + length waiting

-- more places are marked, and are in the worklist
pub record MarksMore (old : List Bool) (old_waiting : List ℕ) (new : List Bool) (waiting : List ℕ) : Type 0 where
  pub size : length new ≡ length old
  pub kept : (place : ℕ) → slice_index_or old place false ≡ true → slice_index_or new place false ≡ true
  pub waits : (place : ℕ) → slice_index_or new place false ≡ true
      → (slice_index_or old place false ≡ true) ⊎ Contains waiting place
  pub stays : (place : ℕ) → Contains old_waiting place → Contains waiting place
  pub within : All (λ place. place < length old) old_waiting → All (λ place. place < length old) waiting
  pub work : work_left new waiting ≤ work_left old old_waiting

-- marked places stay marked
abbrev pub KeepsMarks : List Bool → List Bool → Type 0
KeepsMarks old new = (place : ℕ) → slice_index_or old place false ≡ true → slice_index_or new place false ≡ true

-- the direct predecessors of some states are marked
pub record AreStarted (states : List ℕ) (leaves : List (SmallVec ℕ)) (marks : List Bool) : Type 0 where
  pub marked : (state place : ℕ) → Contains states state → IsListed leaves state place
      → slice_index_or marks place false ≡ true

-- the direct predecessors of a place are marked, and the states whose row it is are found
pub record IsClimbed (above owners : List (SmallVec ℕ)) (marks : List Bool) (found : List ℕ) (place : ℕ) : Type 0 where
  pub up : (next : ℕ) → IsListed above place next → slice_index_or marks next false ≡ true
  pub rows : (state : ℕ) → IsListed owners place state → Contains found state

-- the marked places that are no longer in the worklist are processed
pub record AreClimbed (above owners : List (SmallVec ℕ)) (marks : List Bool) (waiting found : List ℕ) : Type 0 where
  pub done : (place : ℕ) → slice_index_or marks place false ≡ true
      → Contains waiting place ⊎ IsClimbed above owners marks found place

-- each found state is below each bound of the owners
abbrev pub AreOwnersBelow : List (SmallVec ℕ) → List ℕ → Type 0
AreOwnersBelow owners found = (bound : ℕ) → AreListedBelow owners bound → All (λ state. state < bound) found

-- states that include each state from which a letter leads to one of some states
pub record AreLeading (a : Automaton) (states found : List ℕ) : Type 0 where
  pub within : All (λ state. state < length a.accept) found
  pub all : (state letter : ℕ) → state < length a.accept → letter < width a
      → Contains states (next_state a state letter) → Contains found state
