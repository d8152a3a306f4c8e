-- The probe sequences of open-addressing hash tables.
use Rattle.std.specs.Prelude.{ℕ, ◌+◌, ◌-◌, ◌*◌, ◌/◌, ◌%◌, ◌^◌, bit_and}

-- the hash of a pair of numbers
unfoldable pub spread_of : ℕ → ℕ → ℕ
spread_of left right =
    (left * 11400714819323198485 % 2 ^ 64 + right * 13925035116211876495 % 2 ^ 64) % 2 ^ 64 / 2 ^ 32

-- the slot number after this many steps of a probe sequence
unfoldable pub place_of : ℕ → ℕ → ℕ → ℕ
place_of slots number step = bit_and ((number + step) % 2 ^ 64) (slots - 1)
