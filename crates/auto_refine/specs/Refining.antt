-- The invariant of the refinement rounds.
use Rattle.std.specs.Prelude.{◌≡◌, ◌≢◌, ◌↔◌, ℕ, ◌<◌, List, [], length, All, Contains, slice_index}
use Rattle.auto_core.specs.Automaton.{Automaton, width, next_state, is_final}
use Rattle.auto_core.specs.Reduced.{ToldApart}
use Rattle.auto_refine.specs.Coarsest.{IsPartition}
use Rattle.auto_refine.specs.Listing.{AreLists}
use Rattle.auto_refine.specs.Moves.{IsSettled}
use Rattle.auto_refine.specs.Led.{IsShared, IsLed, AreLedRows}
use Rattle.auto_refine.specs.declared.partition.Refining.{Refining}

-- the flag of each state as class 0 or 1; that of the first state is 0
pub record IsFlag (a : Automaton) (classes : List ℕ) : Type 0 where
  pub states : length classes ≡ length a.accept
  pub below : All (λ class. class < 2) classes
  pub first : slice_index classes 0 ≡ 0
  pub flags : (j k : ℕ) → j < length classes → k < length classes
      → (slice_index classes j ≡ slice_index classes k) ↔ (is_final a j ≡ is_final a k)

-- classes that respect the flags, such that states of different classes are distinguished
pub record IsSound (a : Automaton) (classes : List ℕ) (count : ℕ) : Type 0 where
  pub partition : IsPartition (length a.accept) classes count
  pub flags : (j k : ℕ) → j < length a.accept → k < length a.accept → slice_index classes j ≡ slice_index classes k
      → is_final a j ≡ is_final a k
  pub apart : (j k : ℕ) → j < length a.accept → k < length a.accept → slice_index classes j ≢ slice_index classes k
      → ToldApart a j k

-- states are in one class if and only if they were in one class before, and so were their next states for each letter
pub record IsRound (a : Automaton) (start classes : List ℕ) (count : ℕ) : Type 0 where
  pub partition : IsPartition (length a.accept) classes count
  pub same : (j k : ℕ) → j < length a.accept → k < length a.accept
      → (slice_index classes j ≡ slice_index classes k)
      ↔ ((slice_index start j ≡ slice_index start k)
      × ((letter : ℕ) → letter < width a
      → slice_index start (next_state a j letter) ≡ slice_index start (next_state a k letter)))

-- a letter leads from a state to one of some states
abbrev pub LeadsInto : Automaton → List ℕ → ℕ → Type 0
LeadsInto a states state = (letter : ℕ) × (letter < width a) × Contains states (next_state a state letter)

-- sound classes with lists of their states, and rows that map to these classes
pub record IsLedTo (a : Automaton) (r : Refining) : Type 0 where
  pub sound : IsSound a r.partition.classes.items r.partition.count
  pub listing : AreLists r.partition r.listing.representatives.items r.listing.lists.items
  pub led : AreLedRows a r.diagrams r.partition.classes.items r.led.items

-- sound classes with lists of their states, all of which have one node; the rows map to these classes, except those of some states
pub record IsRefined (a : Automaton) (r : Refining) (but : ℕ → Type 0) : Type 0 where
  pub sound : IsSound a r.partition.classes.items r.partition.count
  pub listing : AreLists r.partition r.listing.representatives.items r.listing.lists.items
  pub settled : IsSettled r.partition r.listing r.led.items []
  pub size : length r.led.items ≡ length a.accept
  pub led : (state : ℕ) → state < length a.accept → IsShared r.partition.classes.items state → ¬ but state
      → IsLed a r.partition.classes.items r.diagrams (slice_index r.led.items state) (next_state a state)
