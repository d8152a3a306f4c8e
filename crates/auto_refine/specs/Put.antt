-- Values written at indices of a list.
use Rattle.std.specs.Prelude.{◌≡◌, ℕ, ◌<◌, List, length, Contains, slice_index, slice_index_or}

-- the entry at an index is one of the values written there
pub record WasPut {A : Type 0} (places : List ℕ) (values new : List A) (place : ℕ) : Type 0 where
  pub turn : ℕ
  pub within : turn < length places
  pub place_is : slice_index places turn ≡ place
  pub value_is : (default : A) → slice_index_or new place default ≡ slice_index_or values turn default

-- values written at their indices; other entries are unchanged
pub record IsPut {A : Type 0} (old : List A) (places : List ℕ) (values new : List A) : Type 0 where
  pub size : length new ≡ length old
  pub put : (place : ℕ) → place < length old → Contains places place → WasPut places values new place
  pub kept : (place : ℕ) → place < length old → ¬ Contains places place → (default : A)
      → slice_index_or new place default ≡ slice_index_or old place default
