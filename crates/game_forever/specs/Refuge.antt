-- Refuges: sets of positions in which the loser can avoid mate.
use Rattle.std.specs.Prelude.{◌≡◌, ◌⊎◌}
use Rattle.game_rules.specs.Game.{Moves, Position}
use Rattle.game_rules.specs.declared.men.Side.{Side}
use Rattle.game_laws.specs.Sets.{LeadsInto}
use Rattle.game_forever.specs.Sets.{IsStalemate}

-- the side to move is stalemated, or has a legal move into the set
abbrev pub Escapes : (Position → Type 0) → Position → Type 0
Escapes X q = IsStalemate q ⊎ LeadsInto X q

-- each legal move leaves the other side an escape into the set
abbrev pub LeavesEscapes : (Position → Type 0) → Position → Type 0
LeavesEscapes X p = (q : Position) → Moves p q → Escapes X q

-- after each move of the winner from a position of the set, the loser escapes into it
abbrev pub IsRefuge : Side → (Position → Type 0) → Type 0
IsRefuge winner X = (p : Position) → X p → p.turn ≡ winner → LeavesEscapes X p
