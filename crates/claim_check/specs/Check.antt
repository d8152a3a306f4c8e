-- The results of the check of a claim.
use Rattle.std.specs.Prelude.{◌≡◌, ℕ, Some}
use Rattle.set_plan.specs.Outcome.{Ends, IsPlanError}
use Rattle.set_plan.specs.declared.stop.PlanError.{PlanError}
use Rattle.mate_plan.specs.Claim.{Claim}
use Rattle.mate_plan.specs.declared.names.PartName.{PartName}
use Rattle.winning_sets.specs.Claimed.{claim_of}
use Rattle.winning_sets.specs.Solve.{IsSolveError, Solution}
use Rattle.winning_sets.specs.declared.names.SolveError.TheVariants as solve_error
use Rattle.winning_sets.specs.declared.origin.Origin.TheVariants as origin
use Rattle.claim_plan.specs.CheckPlan.{check_plan}
use Rattle.mate_plan.specs.SameClaim.{IsSameClaim}
use Rattle.claim_check.specs.declared.error.CheckError.{CheckError}
use Rattle.claim_check.specs.declared.error.CheckError.TheVariants as check_error

-- the solution has the sets of the claim, possibly with other tables
pub record IsChecked (c : Claim) (s : Solution) : Type 0 where
  pub origin : s.origin ≡ origin.Claim
  pub same : IsSameClaim c (claim_of s)

-- the rule is the first one that fails, or the step is the first one of the plan that exceeds the budget
abbrev pub IsCheckError : Claim → ℕ → CheckError → Type 0
IsCheckError c budget (check_error.NotKept failed) = Ends (check_plan c) budget (Some failed)
IsCheckError c budget (check_error.Over step) = IsSolveError (check_plan c) c.moves budget (solve_error.Over step)
IsCheckError c budget check_error.Memory = Unit {0}

-- the plan of a claim of this number of moves does not end for this reason, and this is the error of the check
abbrev pub IsErrorFor : ℕ → PlanError PartName → CheckError → Type 0
IsErrorFor moves reason error =
    (c : Claim) (budget : ℕ) → c.moves ≡ moves → IsPlanError (check_plan c) budget reason → IsCheckError c budget error
