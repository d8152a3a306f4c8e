-- Why a move is refused.
use Rattle.std.specs.Prelude.{◌≡◌, ℕ, None, IsSome, IsNone, IsSomeAnd}
use Rattle.game_rules.specs.Game.{Position, Goes, IsOccupiedBy, InCheck, Step, man_at, other, square_of}
use Rattle.game_rules.specs.declared.men.Square.{Square}
use Rattle.chess_game.specs.declared.moves.Illegal.{Illegal}
use Rattle.chess_game.specs.declared.moves.Illegal.TheVariants.{NoSuchMan, NotYours, Captured, OwnMan, NotReached, KingLeft}

-- this is the first reason against the move of man i to z, in the order of the variants
abbrev pub IsRefusal : Position → ℕ → Square → Illegal → Type 0
IsRefusal p i z NoSuchMan = man_at p i ≡ None
IsRefusal p i z NotYours = IsSomeAnd (man_at p i) (λ m. m.side ≡ other p.turn)
IsRefusal p i z Captured = IsSomeAnd (man_at p i) (λ m. (m.side ≡ p.turn) × IsNone (square_of m))
IsRefusal p i z OwnMan =
    IsSomeAnd (man_at p i) (λ m. (m.side ≡ p.turn) × IsSome (square_of m) × IsOccupiedBy p p.turn z)
IsRefusal p i z NotReached =
    IsSomeAnd (man_at p i)
    (λ m. (m.side ≡ p.turn) × IsSome (square_of m) × (IsOccupiedBy p p.turn z → ⊥) × (Goes p m z → ⊥))
IsRefusal p i z KingLeft = (q : Position) × Step p i z q × InCheck q p.turn
