-- Whose turn it is.
use Rattle.std.specs.Prelude.{ℕ}
use Rattle.game_rules.specs.declared.men.Side.{Side}
use Rattle.game_rules.specs.declared.men.Side.TheVariants.{White, Black}

-- the number of plies before the side's first turn, given the side that moves first
abbrev pub plies_before_turn : Side → Side → ℕ
plies_before_turn White White = 0
plies_before_turn Black Black = 0
plies_before_turn White Black = 1
plies_before_turn Black White = 1
