-- What the check answers of the reduced sets holds of the claim.
use Rattle.std.proofs.Common.{◌≡◌, ℕ, Some, refl, sym, ◌∙◌, subst}
use Rattle.set_plan.specs.Outcome.{Ends}
use Rattle.mate_plan.specs.Claim.{Claim}
use Rattle.winning_sets.specs.Claimed.{solution_of}
use Rattle.winning_sets.specs.Solve.{Solution}
use Rattle.winning_sets.specs.declared.claimed.ClaimedSets.{ClaimedSets}
use Rattle.claim_plan.specs.CheckPlan.{Finding, check_plan}
use Rattle.mate_plan.specs.SameClaim.{IsSameClaim}
use Rattle.claim_plan.specs.SameClaims.{AreCheckedAlike}
use Rattle.claim_plan.proofs.SameClaims.{same_claims_are_checked_alike}
use Rattle.claim_check.specs.Check.{IsCheckError, IsChecked}
use Rattle.claim_check.specs.Ready.{claim_in}
use Rattle.claim_check.specs.declared.error.CheckError.{CheckError}
use Rattle.claim_check.specs.declared.error.CheckError.TheVariants as check_error

pub checked : (c : Claim) (s : ClaimedSets) (solved : Solution) → IsSameClaim c (claim_in s) → solved ≡ solution_of s → IsChecked c solved
checked c s solved same is = subst (IsChecked c) (sym is) (record { origin = refl; same = same })

module _ (c d : Claim) (same : IsSameClaim c d) (budget : ℕ) where
  alike : AreCheckedAlike c d
  alike = same_claims_are_checked_alike c d same

  pub found_alike : (found : Finding) → Ends (check_plan d) budget found → Ends (check_plan c) budget found
  found_alike found h = (alike.ends budget found).1 h

  pub error_alike : (e : CheckError) → IsCheckError d budget e → IsCheckError c budget e
  error_alike (check_error.NotKept f) h = found_alike (Some f) h
  error_alike (check_error.Over step) h = (h.0 ∙ sym same.moves, (alike.stops budget (record { part = record { ply = step.ply; mask = step.mask; part = step.part }; at = step.at })).1 h.1)
  error_alike check_error.Memory h = tt
