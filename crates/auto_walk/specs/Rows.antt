-- Places in the order in which they were numbered, and nodes that map letters to the numbers of places.
use Rattle.std.specs.Prelude.{◌≡◌, ◌≢◌, ℕ, ◌^◌, ◌<◌, ◌≤◌, Bool, List, length, All, AllPairs, slice_get, Some}
use Rattle.letter_diagram.specs.declared.diagrams.Shape.{Shape}
use Rattle.letter_diagram.specs.Diagram.{map_at, LooksBelow}
use Rattle.auto_walk.specs.Walker.{Walker, IsReached}

-- distinct places, each of which is reached by a word
pub record AreNumbered (w : Walker) (places : List (List ℕ)) : Type 0 where
  pub reached : All (IsReached w) places
  pub different : AllPairs (λ p q. p ≢ q) places

-- numbered places keep their numbers
pub record Extends (old new : List (List ℕ)) : Type 0 where
  pub kept : (number : ℕ) (place : List ℕ) → slice_get old number ≡ Some place → slice_get new number ≡ Some place

-- a letter that leads to the place of a number
pub record IsLed (w : Walker) (new : List (List ℕ)) (lead : ℕ → List ℕ) (number : ℕ) : Type 0 where
  pub letter : ℕ
  pub below : letter < 2 ^ length w.tracks
  pub leads : slice_get new number ≡ Some (lead letter)

-- the node's map gives each letter the number of its place, and each new place is the place of a letter
pub record IsRow (w : Walker) (shapes : List Shape) (old new : List (List ℕ)) (lead : ℕ → List ℕ) (node : ℕ) : Type
    0 where
  pub known : node < length shapes
  pub narrow : LooksBelow shapes node (length w.tracks)
  pub leads : (letter : ℕ) → letter < 2 ^ length w.tracks
      → slice_get new (map_at shapes node letter) ≡ Some (lead letter)
  pub different : AllPairs (λ p q. p ≢ q) new
  pub led : (number : ℕ) → length old ≤ number → number < length new → IsLed w new lead number

-- the row of the place of a number
pub record IsRowOf (w : Walker) (shapes : List Shape) (old new : List (List ℕ)) (number node : ℕ) : Type 0 where
  pub place : List ℕ
  pub is : slice_get old number ≡ Some place
  pub row : IsRow w shapes old new (w.next place) node

-- the first row of a walk; old is the walk before the row is computed, new the walk after it
abbrev pub IsFirstRowIn : {S : Type 0} → (S → Walker) → (S → List Shape) → (S → List (List ℕ)) → S → S → ℕ → Type 0
IsFirstRowIn walker shapes places old new node =
    IsRow (walker old) (shapes new) (places old) (places new) ((walker old).first) node

-- the row of a numbered place, of such a walk
abbrev pub IsNextRowIn : {S : Type 0} → (S → Walker) → (S → List Shape) → (S → List (List ℕ)) → S → S → ℕ → ℕ → Type 0
IsNextRowIn walker shapes places old new number node =
    IsRowOf (walker old) (shapes new) (places old) (places new) number node

-- the flag says whether the place of a number accepts
abbrev pub IsFlagOf : Walker → List (List ℕ) → ℕ → Bool → Type 0
IsFlagOf w places number flag = (place : List ℕ) × (slice_get places number ≡ Some place) × (flag ≡ w.final place)

-- the node's map gives each letter the number of the next place after the place of a number
pub record LeadsOn (w : Walker) (shapes : List Shape) (places : List (List ℕ)) (number node : ℕ) : Type 0 where
  pub place : List ℕ
  pub is : slice_get places number ≡ Some place
  pub known : node < length shapes
  pub narrow : LooksBelow shapes node (length w.tracks)
  pub leads : (letter : ℕ) → letter < 2 ^ length w.tracks
      → slice_get places (map_at shapes node letter) ≡ Some (w.next place letter)

-- a node for each of the first places, which maps each letter to the number of the next place
pub record AreRows (w : Walker) (shapes : List Shape) (places : List (List ℕ)) (rows : List ℕ) : Type 0 where
  pub lead : (number node : ℕ) → slice_get rows number ≡ Some node → LeadsOn w shapes places number node
