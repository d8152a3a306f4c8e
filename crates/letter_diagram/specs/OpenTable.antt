-- Open-addressing hash tables: slots with the numbers of items, and their probe sequences.
use Rattle.std.specs.Prelude.{◌≡◌, ◌≢◌, ◌<◌, ◌-◌, ◌^◌, ℕ, List, length, slice_get, slice_index, Some}
use Rattle.letter_diagram.specs.Probing.{place_of}

-- the entry of a free slot
abbrev pub free : ℕ
free = 2 ^ 32 - 1

-- the entry of the slot after this many steps of the probe sequence of a hash
abbrev pub number_at : List ℕ → ℕ → ℕ → ℕ
number_at slots start step = slice_index slots (place_of (length slots) start step)

-- the probe sequence reaches the number before any free slot
pub record IsMet (slots : List ℕ) (start number : ℕ) : Type 0 where
  pub step : ℕ
  pub within : step < length slots
  pub at : number_at slots start step ≡ number
  pub before : (k : ℕ) → k < step → number_at slots start k ≢ free

-- each slot is free or has the number of an item, and each item's probe sequence reaches its number before any free slot
pub record IsHashed {Item : Type 0} (start_of : Item → ℕ) (slots : List ℕ) (items : List Item) : Type 0 where
  pub few : length items < 2 ^ 32
  pub known : (place : ℕ) → place < length slots → slice_index slots place ≢ free
      → slice_index slots place < length items
  pub met : (number : ℕ) (item : Item) → slice_get items number ≡ Some item → IsMet slots (start_of item) number

-- the slot with this number is the first free one of a probe sequence
pub record IsFirstFree (slots : List ℕ) (start place : ℕ) : Type 0 where
  pub step : ℕ
  pub early : step < length slots
  pub at : place ≡ place_of (length slots) start step
  pub within : place < length slots
  pub is_free : slice_index slots place ≡ free
  pub before : (k : ℕ) → k < step → number_at slots start k ≢ free
