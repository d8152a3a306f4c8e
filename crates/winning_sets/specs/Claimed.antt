-- Solutions with claimed sets, and which solutions are valid, by the origin of their sets.
use Rattle.std.specs.Prelude.{◌≡◌, ℕ, suc, ◌≤◌, List, [], ◌∷◌, ◌++◌, Some, None}
use Rattle.limits.specs.declared.numbers.TheConstants.{MOST_MOVES}
use Rattle.auto_core.specs.Automaton.{Automaton}
use Rattle.game_rules.specs.Game.{Position}
use Rattle.rule_formula.specs.Fits.{masks_of}
use Rattle.mate_plan.specs.Claim.{Claim, ClaimedSet, IsClaim, IsClaimed}
use Rattle.mate_plan.specs.Won.{Won}
use Rattle.winning_sets.specs.Kept.{Kept}
use Rattle.winning_sets.specs.Solve.{IsSetAt, IsSolution, Solution, kept_at, reach_at}
use Rattle.winning_sets.specs.declared.claimed.ClaimedSets.{ClaimedSets}
use Rattle.winning_sets.specs.declared.origin.Origin.{Origin}
use Rattle.winning_sets.specs.declared.origin.Origin.TheVariants.{Plan, Claim as Claimed}

-- the sets of a ply, each with its mask
abbrev pub sets_of_ply : ℕ → (masks : List ℕ) → List Automaton → List ClaimedSet
sets_of_ply ply [] sets = []
sets_of_ply ply (mask ∷ masks) [] = []
sets_of_ply ply (mask ∷ masks) (a ∷ sets) = record { ply = ply; mask = mask; set = a } ∷ sets_of_ply ply masks sets

-- the sets from a ply on
abbrev pub sets_from : ℕ → (masks : List ℕ) → List (List Automaton) → List ClaimedSet
sets_from ply masks [] = []
sets_from ply masks (sets ∷ plies) = sets_of_ply ply masks sets ++ sets_from (suc ply) masks plies

-- the sets of a solution as a claim
abbrev pub claim_of : Solution → Claim
claim_of s =
    record {
      position = s.position;
      winner = s.winner;
      moves = s.moves;
      sets = sets_from 0 (masks_of s.position) s.kept;
    }

-- a position with claimed sets, as a solution
abbrev pub solution_of : ClaimedSets → Solution
solution_of c =
    record {
      origin = Claimed;
      position = c.position;
      winner = c.winner;
      moves = c.moves;
      kept = c.plies.items;
      reach = [];
    }

-- the sets of the solution are those of a won claim, stored as the sets of a solution are; it has no reached sets
pub record IsWonClaim (s : Solution) : Type 0 where
  pub claim : IsClaim (claim_of s)
  pub won : Won (claim_of s)
  pub moves : s.moves ≤ MOST_MOVES
  pub formed : (ply mask : ℕ) (a : Automaton) → kept_at s ply mask ≡ Some a → IsSetAt s.position.men mask a
  pub unreached : (ply mask : ℕ) → reach_at s ply mask ≡ None

-- the property that the sets must have, by their origin
abbrev pub IsValidBy : Origin → Solution → Type 0
IsValidBy Plan s = IsSolution s
IsValidBy Claimed s = IsWonClaim s

abbrev pub IsValid : Solution → Type 0
IsValid s = IsValidBy s.origin s

-- the position is one that the winner's moves must reach at the ply: it is kept, or it is claimed
abbrev pub IsHeldFrom : Origin → Solution → ℕ → Position → Type 0
IsHeldFrom Plan s ply q = Kept s.winner s.position s.moves ply q
IsHeldFrom Claimed s ply q = IsClaimed (claim_of s) ply q

abbrev pub IsHeld : Solution → ℕ → Position → Type 0
IsHeld s ply q = IsHeldFrom s.origin s ply q
