-- Sets in which one more move wins no more positions.
use Rattle.std.specs.Prelude.{ℕ, suc}
use Rattle.game_rules.specs.Game.{Position, Win}
use Rattle.game_rules.specs.declared.men.Side.{Side}

-- the positions of the set that are won within n + 1 moves are won within n
abbrev pub StopsAt : Side → (Position → Type 0) → ℕ → Type 0
StopsAt winner A n = (p : Position) → A p → Win winner (suc n) p → Win winner n p
