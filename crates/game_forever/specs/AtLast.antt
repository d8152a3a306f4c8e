-- To force mate without a bound on the number of moves. On a board without edges the loser may have infinitely many replies,
-- and then no number of moves need be enough for all of them: whoever wins within some number of moves forces mate, but the
-- converse does not always hold.
use Rattle.std.specs.Prelude.{◌≡◌, ℕ}
use Rattle.game_rules.specs.Game.{HasMove, Legal, LostInto, Mate, Position}
use Rattle.game_rules.specs.declared.men.Side.{Side}
use Rattle.game_rules.specs.declared.men.Square.{Square}

-- the winner is to move, and has a move that mates, or a move after which the loser has a legal move and the winner forces
-- mate after each legal move
pub data ForcesMate (winner : Side) : Position → Type 0 where
  now : {p : Position} (i : ℕ) (z : Square) (q : Position) → p.turn ≡ winner → Legal p i z q → Mate q → ForcesMate winner p
  later : {p : Position} (i : ℕ) (z : Square) (q : Position) → p.turn ≡ winner → Legal p i z q → HasMove q
      → ((j : ℕ) (w : Square) (r : Position) → Legal q j w r → ForcesMate winner r) → ForcesMate winner p

-- the loser is to move, and is mate, or has a legal move and the winner forces mate after each of them
abbrev pub IsMatedAtLast : Side → Position → Type 0
IsMatedAtLast winner = LostInto winner (ForcesMate winner)
