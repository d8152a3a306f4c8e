-- The statements about won claims.
use Rattle.std.specs.Prelude.{◌≡◌, ℕ, Some}
use Rattle.auto_core.specs.Automaton.{Automaton}
use Rattle.auto_core.specs.Integers.{DecidesIntegers}
use Rattle.game_rules.specs.Game.{Lost, Position, Value}
use Rattle.mate_plan.specs.Claim.{Claim, IsClaim, IsClaimed, claimed_at}
use Rattle.mate_plan.specs.PlanOf.{last_ply}
use Rattle.mate_plan.specs.Won.{Won}
use Rattle.winning_sets.specs.Kept.{Kept, moves_left}
use Rattle.winning_sets.specs.OfGame.{AreOfGame}
use Rattle.winning_sets.specs.Solve.{HasTuplesOf}

-- a claimed set contains exactly the coordinates of the claimed positions of its ply with its live men
abbrev pub SetsHaveClaimedTuples : Type 0
SetsHaveClaimedTuples =
    (c : Claim) (ply mask : ℕ) (a : Automaton) → IsClaim c → claimed_at c ply mask ≡ Some a
    → HasTuplesOf (IsClaimed c ply) mask a

-- the claimed positions of a won claim are sound, and it is the loser's turn at a ply of the loser
abbrev pub ClaimedAreOfGame : Type 0
ClaimedAreOfGame = (c : Claim) → IsClaim c → Won c → AreOfGame c.winner c.position c.moves (IsClaimed c)

-- the number of moves that the winner has left at a ply of a claim
abbrev pub left_at : Claim → ℕ → ℕ
left_at c ply = moves_left (last_ply c.winner c.position.turn c.moves) ply

-- in a won claim the loser is mated from each claimed position within the moves that the winner has left
abbrev pub ClaimedIsLost : Type 0
ClaimedIsLost =
    (c : Claim) (ply : ℕ) (q : Position) → IsClaim c → Won c → IsClaimed c ply q
    → Lost c.winner (left_at c ply) q

-- the winner mates in time if a claim is won
abbrev pub WonIsValue : Type 0
WonIsValue = (c : Claim) → IsClaim c → Won c → Value c.winner c.moves c.position

-- the automaton decides a set of integers, and contains the coordinates of the positions kept at the ply with the
-- mask's men
pub record IsKeptSet (c : Claim) (ply mask : ℕ) (a : Automaton) : Type 0 where
  pub sign : DecidesIntegers a
  pub kept : HasTuplesOf (Kept c.winner c.position c.moves ply) mask a

-- each claimed set is the kept set of its ply and mask
abbrev pub IsOfKept : Claim → Type 0
IsOfKept c = (ply mask : ℕ) (a : Automaton) → claimed_at c ply mask ≡ Some a → IsKeptSet c ply mask a

-- a claim of the kept sets is won if the winner mates in time
abbrev pub KeptClaimIsWon : Type 0
KeptClaimIsWon = (c : Claim) → IsClaim c → IsOfKept c → Value c.winner c.moves c.position → Won c
