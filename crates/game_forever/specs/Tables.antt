-- Tables of lost positions, by the number of moves that the winner needs.
use Rattle.std.specs.Prelude.{◌≡◌, ◌⊎◌, ℕ, ◌<◌}
use Rattle.game_rules.specs.Game.{HasMove, InCheck, Moves, Position, Sound, other}
use Rattle.game_rules.specs.declared.men.Side.{Side}
use Rattle.game_laws.specs.Sets.{LeadsInto}

-- the position is sound, the loser is to move, in check or able to move, and each legal move is answered by a legal move
-- into a set of a smaller number; no number is smaller than 0, so that at 0 there is no legal move
pub record IsLostInto (winner : Side) (L : ℕ → Position → Type 0) (n : ℕ) (q : Position) : Type 0 where
  pub sound : Sound q
  pub turn : q.turn ≡ other winner
  pub stale : InCheck q q.turn ⊎ HasMove q
  pub left : (r : Position) → Moves q r → (k : ℕ) × (k < n) × LeadsInto (L k) r

-- a set of positions for each number of moves, each of whose positions is lost into sets of smaller numbers
abbrev pub IsTable : Side → (ℕ → Position → Type 0) → Type 0
IsTable winner L = (n : ℕ) (q : Position) → L n q → IsLostInto winner L n q
