-- The hash of a numbered pair.
use Rattle.std.specs.Prelude.{ℕ}
use Rattle.letter_diagram.specs.Probing.{spread_of}

-- the hash of a pair
abbrev pub start_of : ℕ × ℕ → ℕ
start_of pair = spread_of pair.0 pair.1
