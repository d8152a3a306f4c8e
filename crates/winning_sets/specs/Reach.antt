-- Positions that are reached after n moves.
use Rattle.std.specs.Prelude.{◌≡◌, ℕ, zero, suc}
use Rattle.game_rules.specs.Game.{Position, Moves}

-- exactly n legal moves lead from p to q
abbrev pub Reach : Position → ℕ → Position → Type 0
Reach p zero q = q ≡ p
Reach p (suc ply) q = (before : Position) × Reach p ply before × Moves before q
