-- Nodes that map the rows to the classes of a partition.
use Rattle.std.specs.Prelude.{◌≡◌, ◌≢◌, ℕ, ◌<◌, List, length, All, Contains, slice_index}
use Rattle.letter_diagram.specs.declared.diagrams.Shape.{Shape}
use Rattle.letter_diagram.specs.Diagram.{map_at, LooksBelow}
use Rattle.auto_core.specs.Automaton.{Automaton, width, next_state}

-- another state is in the class of a state
pub record IsShared (classes : List ℕ) (state : ℕ) : Type 0 where
  pub other : ℕ
  pub within : other < length classes
  pub differ : state ≢ other
  pub same : slice_index classes state ≡ slice_index classes other

-- all of some states that share their class are found
abbrev pub HasSharing : List ℕ → List ℕ → List ℕ → Type 0
HasSharing classes states found = (state : ℕ) → Contains states state → IsShared classes state → Contains found state

-- all states that share their class are found
abbrev pub HasAllSharing : List ℕ → List ℕ → Type 0
HasAllSharing classes found = (state : ℕ) → state < length classes → IsShared classes state → Contains found state

-- a node that maps each letter to the class of a state
pub record IsLed (a : Automaton) (classes : List ℕ) (shapes : List Shape) (node : ℕ) (state : ℕ → ℕ) : Type 0 where
  pub known : node < length shapes
  pub narrow : LooksBelow shapes node (length a.tracks)
  pub leads : (letter : ℕ) → letter < width a → map_at shapes node letter ≡ slice_index classes (state letter)

-- nodes that map letters to the classes of the next states, for the states that share their class
pub record AreLedRows (a : Automaton) (shapes : List Shape) (classes led : List ℕ) : Type 0 where
  pub classes_size : length classes ≡ length a.accept
  pub size : length led ≡ length a.accept
  pub at : (state : ℕ) → state < length a.accept → IsShared classes state
      → IsLed a classes shapes (slice_index led state) (next_state a state)

-- states that include each one that shares its class and has one of the moved states as a next state
pub record AreStale (a : Automaton) (classes moved stale : List ℕ) : Type 0 where
  pub within : All (λ state. state < length a.accept) stale
  pub rest : (state letter : ℕ) → state < length a.accept → IsShared classes state → letter < width a
      → Contains moved (next_state a state letter) → Contains stale state

-- the nodes of some states map to classes, the others are unchanged
pub record AreLedAgain (a : Automaton) (shapes : List Shape) (states classes old new : List ℕ) : Type 0 where
  pub size : length new ≡ length old
  pub led : (state : ℕ) → state < length a.accept → Contains states state
      → IsLed a classes shapes (slice_index new state) (next_state a state)
  pub kept : (state : ℕ) → state < length a.accept → ¬ Contains states state
      → slice_index new state ≡ slice_index old state
