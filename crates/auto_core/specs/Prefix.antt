-- Values without some of their last bits.
use Rattle.std.specs.Prelude.{◌≡◌, ◌≢◌, ℕ, ℤ, pos, ◌+ℤ◌, ◌+◌, ◌*◌, ◌<◌, ◌≤◌, List, length, slice_index, slice_index_or, Bool, true, false}
use Rattle.std.specs.Int.{int_shr}

-- the state of the value read so far: the least number of last bits without which the value equals it, or 64
pub record IsPrefixState (value read : ℤ) (state : ℕ) : Type 0 where
  pub small : state ≤ 64
  pub found : state < 64 → int_shr value state ≡ read
  pub least : (k : ℕ) → k < state → int_shr value k ≢ read

-- the states after one more letter, for this many states
pub record ArePrefixRows (value : ℤ) (states : ℕ) (rows : List ℕ) : Type 0 where
  pub after : (state letter : ℕ) → state < states → letter < 2
      → IsPrefixState value (int_shr value state +ℤ int_shr value state +ℤ pos letter)
      (slice_index rows (state * 2 + letter))

-- the rows of all states; no letter leaves the last one
pub record AreAllPrefixRows (value : ℤ) (rows : List ℕ) : Type 0 where
  pub size : length rows ≡ 130
  pub prefixes : ArePrefixRows value 64 rows
  pub stays : (letter : ℕ) → letter < 2 → slice_index rows (128 + letter) ≡ 64

-- flags of 65 states, of which the first alone accepts
pub record IsFirstFlag (flags : List Bool) : Type 0 where
  pub size : length flags ≡ 65
  pub first : slice_index_or flags 0 false ≡ true
  pub others : (state : ℕ) → 0 < state → state < 65 → slice_index_or flags state false ≡ false
