-- The plies of the loser.
use Rattle.std.specs.Prelude.{ℕ, ◌+◌, ◌≤◌, List}
use Rattle.limits.specs.declared.numbers.TheConstants.{MOST_MOVES}
use Rattle.mate_plan.specs.Claim.{every_second}
use Rattle.claim_check.specs.declared.plies.Plies.{Plies}

-- they begin at one of the first two plies, and are at most 21
pub record AreFew (plies : Plies) : Type 0 where
  pub first : plies.first ≤ 1
  pub count : plies.count ≤ MOST_MOVES + 1

-- the plies in order
abbrev pub plies_in : Plies → List ℕ
plies_in plies = every_second plies.first plies.count
