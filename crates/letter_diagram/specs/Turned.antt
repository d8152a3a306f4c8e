-- Letters with the bit of one track flipped.
use Rattle.std.specs.Prelude.{ℕ, ◌^◌}
use Rattle.std.specs.Int.Bits.{bit_xor}

-- the letter with its bit on the track flipped
unfoldable pub turned : ℕ → ℕ → ℕ
turned track letter = bit_xor letter (2 ^ track)
