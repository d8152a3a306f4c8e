-- Claimed sets whose claim's plan can be executed.
use Rattle.std.specs.Prelude.{◌≡◌, ℕ, ◌≤◌, List, length, Option, IsSome, Some}
use Rattle.limits.specs.declared.numbers.TheConstants.{MOST_MOVES, MOST_STATES}
use Rattle.auto_core.specs.Automaton.{Automaton}
use Rattle.auto_core.specs.Integers.{DecidesIntegers}
use Rattle.auto_core.specs.Reduced.{IsReduced}
use Rattle.lin_formula.specs.SetOf.{Member}
use Rattle.lin_formula.specs.declared.formula.SetId.{SetId}
use Rattle.rule_formula.specs.Fits.{IsGameMask, masks_of}
use Rattle.mask_sets.specs.Stock.{mask_of}
use Rattle.mask_sets.specs.Tuple.{tuple_of}
use Rattle.mate_plan.specs.Claim.{Claim, IsClaim, claimed_at, claimed_level}
use Rattle.mate_plan.specs.Levels.{level_in}
use Rattle.winning_sets.specs.Claimed.{claim_of, solution_of}
use Rattle.winning_sets.specs.declared.claimed.ClaimedSets.{ClaimedSets}

-- the claim of these sets
abbrev pub claim_in : ClaimedSets → Claim
claim_in s = claim_of (solution_of s)

-- they are a claim within at most 20 moves; each set is reduced and has at most as many states as the greatest budget
pub record IsReady (s : ClaimedSets) : Type 0 where
  pub masks : s.masks.items ≡ masks_of s.position
  pub moves : s.moves ≤ MOST_MOVES
  pub claim : IsClaim (claim_in s)
  pub reduced : (ply mask : ℕ) (a : Automaton) → claimed_at (claim_in s) ply mask ≡ Some a → IsReduced a
  pub few : (ply mask : ℕ) (a : Automaton) → claimed_at (claim_in s) ply mask ≡ Some a → length a.accept ≤ MOST_STATES

-- there is a claimed set at the ply for each mask of the game
abbrev pub AreThere : Claim → ℕ → Type 0
AreThere c ply = (mask : ℕ) → IsGameMask c.position mask → IsSome (claimed_at c ply mask)

-- each claimed set decides a set of integers
abbrev pub AreSigned : Claim → Type 0
AreSigned c = (ply mask : ℕ) (a : Automaton) → claimed_at c ply mask ≡ Some a → DecidesIntegers a

-- the starting position is claimed at ply 0
abbrev pub IsStartClaimed : Claim → Type 0
IsStartClaimed c = Member (claimed_level c 0 (mask_of c.position)) (tuple_of c.position)

-- the names in a table are those of what is claimed at the ply
abbrev pub AreNamesOf : ClaimedSets → ℕ → List Automaton → List (Option SetId) → Type 0
AreNamesOf s ply table names = level_in s.position table names ≡ claimed_level (claim_in s) ply
