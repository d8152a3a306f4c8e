-- The coarsest partition of the states of an automaton that respects flags and rows (Moore 1956).
use Rattle.std.specs.Prelude.{◌≡◌, ◌≢◌, ℕ, ◌<◌, ◌≤◌, List, length, All, slice_index}
use Rattle.auto_core.specs.Automaton.{Automaton, IsAutomaton, width, next_state, is_final}
use Rattle.auto_core.specs.Reduced.{ToldApart}
use Rattle.auto_refine.specs.declared.classes.Partition.{Partition}

-- a state of a class
pub record IsAttained (classes : List ℕ) (class : ℕ) : Type 0 where
  pub state : ℕ
  pub within : state < length classes
  pub has : slice_index classes state ≡ class

-- the class of each of this many states; no class is empty
pub record IsPartition (size : ℕ) (classes : List ℕ) (count : ℕ) : Type 0 where
  pub states : length classes ≡ size
  pub within : All (λ class. class < count) classes
  pub attained : (class : ℕ) → class < count → IsAttained classes class

-- a partition of the states for which it has classes
abbrev pub AreClasses : Partition → Type 0
AreClasses p = IsPartition (length p.classes.items) p.classes.items p.count

-- a state of each class
pub record AreMembers (classes : List ℕ) (count : ℕ) (members : List ℕ) : Type 0 where
  pub size : length members ≡ count
  pub within : All (λ state. state < length classes) members
  pub has : (class : ℕ) → class < count → slice_index classes (slice_index members class) ≡ class

-- the first state of each class
pub record AreFirstMembers (classes : List ℕ) (count : ℕ) (members : List ℕ) : Type 0 where
  pub of_each : AreMembers classes count members
  pub first : (state : ℕ) → state < length classes → slice_index members (slice_index classes state) ≤ state

-- two states of a class have equal flags, and each letter leads them to one class
pub record Respects (a : Automaton) (classes : List ℕ) : Type 0 where
  pub flags : (j k : ℕ) → j < length a.accept → k < length a.accept → slice_index classes j ≡ slice_index classes k
      → is_final a j ≡ is_final a k
  pub rows : (j k letter : ℕ) → j < length a.accept → k < length a.accept → letter < width a
      → slice_index classes j ≡ slice_index classes k
      → slice_index classes (next_state a j letter) ≡ slice_index classes (next_state a k letter)

-- a partition that respects flags and rows, whose classes are distinguished by words; so each other such partition is finer
pub record IsCoarsest (a : Automaton) (classes : List ℕ) (count : ℕ) : Type 0 where
  pub partition : IsPartition (length a.accept) classes count
  pub respects : Respects a classes
  pub apart : (j k : ℕ) → j < length a.accept → k < length a.accept → slice_index classes j ≢ slice_index classes k
      → ToldApart a j k

-- two states in one class of some partition that respects flags and rows are in one class of the coarsest
abbrev pub CoarsestIsCoarser : Type 0
CoarsestIsCoarser =
    (a : Automaton) (classes other : List ℕ) (count : ℕ) → IsAutomaton a → IsCoarsest a classes count → Respects a other
    → (j k : ℕ) → j < length a.accept → k < length a.accept → slice_index other j ≡ slice_index other k
    → slice_index classes j ≡ slice_index classes k
