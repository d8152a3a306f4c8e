-- The indices of a man's coordinates among those of a position.
use Rattle.std.specs.Prelude.{ℕ, zero, suc, length}
use Rattle.game_rules.specs.Game.{Position}
use Rattle.mask_sets.specs.Tuple.{tuple_to}

-- the number of coordinates before those of this man
abbrev pub coordinates_before : Position → ℕ → ℕ
coordinates_before p zero = 0
coordinates_before p (suc j) = length (tuple_to p j)
