-- Numbered sets, each as its elements in ascending order.
use Rattle.std.specs.Prelude.{◌≡◌, ◌≤◌, ◌<◌, ◌⊎◌, ◌↔◌, ℕ, List, [], ◌∷◌, ◌++◌, length, slice_get, slice_index_or, Some, Contains}
use Rattle.std.specs.List.{fold}
use Rattle.letter_diagram.specs.Probing.{spread_of}

-- the hash of a set: it depends on the number of elements and on each of them
abbrev pub start_of : List ℕ → ℕ
start_of set = fold spread_of (length set) set

-- the set of a number
abbrev pub set_at : List (List ℕ) → ℕ → List ℕ
set_at sets number = slice_index_or sets number []

-- the sets stay, or a new set is appended
abbrev pub NumbersSet : List (List ℕ) → List (List ℕ) → List ℕ → Type 0
NumbersSet old new set = (new ≡ old) ⊎ ((new ≡ old ++ set ∷ []) × (Contains old set → ⊥))

-- existing sets keep their numbers
pub record SetsKept (old new : List (List ℕ)) : Type 0 where
  pub longer : length old ≤ length new
  pub at : (number : ℕ) (set : List ℕ) → slice_get old number ≡ Some set → slice_get new number ≡ Some set

-- a list with the elements of either of two lists, and no others
abbrev pub HasElementsOfEither : List ℕ → List ℕ → List ℕ → Type 0
HasElementsOfEither xs ys both = (element : ℕ) → Contains both element ↔ (Contains xs element ⊎ Contains ys element)

-- a number whose set is the union of the sets of two numbers
pub record IsUnion (sets : List (List ℕ)) (x y number : ℕ) : Type 0 where
  pub known : number < length sets
  pub members : HasElementsOfEither (set_at sets x) (set_at sets y) (set_at sets number)

-- each new set is the union of the sets of two numbers
abbrev pub AddsOnlyUnion : List (List ℕ) → List (List ℕ) → ℕ → ℕ → Type 0
AddsOnlyUnion old new x y = (number : ℕ) → length old ≤ number → number < length new → IsUnion new x y number
