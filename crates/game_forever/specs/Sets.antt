-- Sets of positions that legal moves do not leave, and stalemate.
use Rattle.std.specs.Prelude.{List}
use Rattle.game_rules.specs.Game.{HasMove, InCheck, Moves, Position, Sound}
use Rattle.game_rules.specs.declared.men.Man.{Man}
use Rattle.game_laws.specs.Stock.{HasStock}

-- each legal move from a position of the set leads to one of the set
abbrev pub IsClosed : (Position → Type 0) → Type 0
IsClosed A = (p q : Position) → A p → Moves p q → A q

-- the sound positions of the stock, with its men on any squares, and any of them captured
abbrev pub IsOfStock : List Man → Position → Type 0
IsOfStock stock p = Sound p × HasStock stock p

-- the side to move is not in check and has no legal move (Article 5.2.1)
pub record IsStalemate (p : Position) : Type 0 where
  pub safe : InCheck p p.turn → ⊥
  pub stuck : HasMove p → ⊥
