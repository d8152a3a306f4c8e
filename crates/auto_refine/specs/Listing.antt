-- For each class a list that contains all its states.
use Rattle.std.specs.Prelude.{◌≡◌, ◌⊎◌, ℕ, ◌<◌, List, [], ◌∷◌, ◌++◌, length, Contains, slice_index, slice_index_or, slice_set, map, Vec}
use Rattle.std.specs.declared.alloc.Global.{Global}
use Rattle.auto_refine.specs.Coarsest.{AreMembers}
use Rattle.auto_refine.specs.declared.classes.Partition.{Partition}

-- the entries are states below a bound
abbrev pub AreBelow : List (List ℕ) → ℕ → Type 0
AreBelow lists bound = (class state : ℕ) → Contains (slice_index_or lists class []) state → state < bound

-- for each class a representative, and a list that contains all states of the class
pub record IsListing (classes : List ℕ) (count : ℕ) (representatives : List ℕ) (lists : List (List ℕ)) : Type 0 where
  pub members : AreMembers classes count representatives
  pub size : length lists ≡ count
  pub within : AreBelow lists (length classes)
  pub listed : (state : ℕ) → state < length classes
      → Contains (slice_index_or lists (slice_index classes state) []) state

-- vectors as lists
abbrev pub lists_of : List (Vec ℕ Global) → List (List ℕ)
lists_of lists = map (λ list. list.items) lists

-- for each class of a partition a representative, and a list that contains all its states
abbrev pub AreLists : Partition → List ℕ → List (Vec ℕ Global) → Type 0
AreLists p representatives lists = IsListing p.classes.items p.count representatives (lists_of lists)

-- a state appended to the list of a class
abbrev pub IsPutInto : List (List ℕ) → ℕ → ℕ → List (List ℕ) → Type 0
IsPutInto old class state new = new ≡ slice_set old class (slice_index_or old class [] ++ state ∷ [])

-- states appended to the lists of their classes
pub record AreListed (old : List (List ℕ)) (states classes : List ℕ) (new : List (List ℕ)) : Type 0 where
  pub size : length new ≡ length old
  pub kept : (class state : ℕ) → Contains (slice_index_or old class []) state
      → Contains (slice_index_or new class []) state
  pub added : (turn : ℕ) → turn < length states
      → Contains (slice_index_or new (slice_index classes turn) []) (slice_index states turn)
  pub only : (class state : ℕ) → Contains (slice_index_or new class []) state
      → Contains (slice_index_or old class []) state ⊎ Contains states state

-- those of some states that are in a class
pub record AreStillIn (classes : List ℕ) (class : ℕ) (states kept : List ℕ) : Type 0 where
  pub fewer : (state : ℕ) → Contains kept state → Contains states state
  pub stays : (state : ℕ) → Contains states state → slice_index classes state ≡ class → Contains kept state
  pub only : (state : ℕ) → Contains kept state → slice_index classes state ≡ class

-- lists without some states that are in other classes
pub record ArePruned (classes : List ℕ) (old new : List (List ℕ)) : Type 0 where
  pub size : length new ≡ length old
  pub fewer : (class state : ℕ) → Contains (slice_index_or new class []) state
      → Contains (slice_index_or old class []) state
  pub kept : (class state : ℕ) → Contains (slice_index_or old class []) state → slice_index classes state ≡ class
      → Contains (slice_index_or new class []) state

-- the lists of the classes of a partition are pruned
abbrev pub WerePruned : Partition → List (Vec ℕ Global) → List (Vec ℕ Global) → Type 0
WerePruned p old new = ArePruned p.classes.items (lists_of old) (lists_of new)

-- each state in the list of a class is in that class
abbrev pub ListsOnly : Partition → ℕ → List (Vec ℕ Global) → Type 0
ListsOnly p class lists =
    (state : ℕ) → Contains (slice_index_or (lists_of lists) class []) state → slice_index p.classes.items state ≡ class
