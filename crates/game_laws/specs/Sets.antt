-- Moves into sets of positions.
use Rattle.game_rules.specs.Game.{Moves, Position}

-- some legal move from p leads to a position of the set
abbrev pub LeadsInto : (Position → Type 0) → Position → Type 0
LeadsInto S p = (q : Position) × Moves p q × S q
