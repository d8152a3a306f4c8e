-- Lost, stated without mate.
use Rattle.std.specs.Prelude.{◌≡◌, ℕ, ◌⊎◌}
use Rattle.game_rules.specs.Game.{Position, HasMove, InCheck, Legal, Win, other}
use Rattle.game_rules.specs.declared.men.Side.{Side}
use Rattle.game_rules.specs.declared.men.Square.{Square}

-- it is the loser's turn, he is in check or has a legal move, and each legal move leads to a position with the property
abbrev pub FlatLostInto : Side → (Position → Type 0) → Position → Type 0
FlatLostInto winner W q =
    (q.turn ≡ other winner)
    × (InCheck q q.turn ⊎ HasMove q)
    × ((i : ℕ) (z : Square) (r : Position) → Legal q i z r → W r)

-- it is the loser's turn, he is in check or has a legal move, and after each legal move the winner mates within n moves
abbrev pub FlatLost : Side → ℕ → Position → Type 0
FlatLost winner n = FlatLostInto winner (Win winner n)
