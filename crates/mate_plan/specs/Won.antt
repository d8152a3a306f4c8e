-- When a claim is won.
use Rattle.std.specs.Prelude.{◌≡◌, ◌⊎◌, ℕ, ◌+◌, Some}
use Rattle.auto_core.specs.Automaton.{Automaton}
use Rattle.auto_core.specs.Integers.{DecidesIntegers}
use Rattle.game_rules.specs.Game.{HasMove, InCheck, IsApart, Moves, Position, other}
use Rattle.game_rules.specs.declared.men.Side.{Side}
use Rattle.game_laws.specs.Sets.{LeadsInto}
use Rattle.mate_plan.specs.Claim.{Claim, IsClaimed, claimed_at}

-- the winner is to move and some legal move leads into the set of ply 1, or the loser is to move in a position of that
-- of ply 0
abbrev pub IsBegun : Side → Position → (ℕ → Position → Type 0) → Type 0
IsBegun winner p C = ((p.turn ≡ winner) × LeadsInto (C 1) p) ⊎ ((p.turn ≡ other winner) × C 0 p)

-- a set of positions for each ply of the loser is won: in its positions live men stand on distinct squares and the
-- winner is not in check, it is begun, each legal move is answered by a legal move into the set two plies later, and
-- the loser is in check or has a legal move; past the last ply there is no set, so that there is no legal move then
pub record IsWonBy (winner : Side) (p : Position) (C : ℕ → Position → Type 0) : Type 0 where
  pub same : (ply : ℕ) (q : Position) → C ply q → IsApart q
  pub guard : (ply : ℕ) (q : Position) → C ply q → InCheck q winner → ⊥
  pub first : IsBegun winner p C
  pub left : (ply : ℕ) (q r : Position) → C ply q → Moves q r → LeadsInto (C (ply + 2)) r
  pub stale : (ply : ℕ) (q : Position) → C ply q → InCheck q q.turn ⊎ HasMove q

-- the claimed sets decide sets of integers, and their positions are won
pub record Won (c : Claim) : Type 0 where
  pub sign : (ply mask : ℕ) (a : Automaton) → claimed_at c ply mask ≡ Some a → DecidesIntegers a
  pub positions : IsWonBy c.winner c.position (IsClaimed c)
