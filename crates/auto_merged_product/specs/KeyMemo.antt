-- Keys of pairs of nodes in hash slots.
use Rattle.std.specs.Prelude.{◌≡◌, ◌⊎◌, ◌<◌, ℕ, List, Option, Some, None, Contains}
use Rattle.auto_merge.specs.declared.rows.Key.{Key}
use Rattle.auto_merge.specs.Graph.{mark_of}
use Rattle.auto_merged_product.specs.declared.key_memo.TheConstants.{FREE, EACH_ROW}
use Rattle.auto_merged_product.specs.declared.key_memo.KeySlot.{KeySlot}

-- the row of a slot: the number of a place, or each row
abbrev pub row_number : Option ℕ → ℕ
row_number None = EACH_ROW
row_number (Some number) = number

-- a row number that stands for this place (or for each row) only
pub record IsRowOf (own : Option ℕ) (row : ℕ) : Type 0 where
  pub is : row ≡ row_number own
  pub low : (number : ℕ) → own ≡ Some number → number < EACH_ROW

-- some slot has this node for a pair of nodes, in the row of a place or in each row
pub record AnswersKey (slots : List KeySlot) (own : Option ℕ) (spot : ℕ × ℕ) (node : ℕ) : Type 0 where
  pub row : ℕ
  pub row_is : IsRowOf own row
  pub held : Contains slots (record { left = spot.0; right = spot.1; node = node; row = row })

-- the key of a slot in a row
pub record IsKeyOfSlot (slot : KeySlot) (own : Option ℕ) (key : Key) : Type 0 where
  pub node : key.node ≡ slot.node
  pub row : IsRowOf (mark_of key.whole own) slot.row

-- each used slot was there before
pub record AreTakenFrom (old new : List KeySlot) : Type 0 where
  pub only : (slot : KeySlot) → Contains new slot → (slot.row ≡ FREE) ⊎ Contains old slot

-- each used slot was there before or is the new one
pub record LearnsSlot (old new : List KeySlot) (added : KeySlot) : Type 0 where
  pub only : (slot : KeySlot) → Contains new slot → (slot.row ≡ FREE) ⊎ (Contains old slot ⊎ (slot ≡ added))
