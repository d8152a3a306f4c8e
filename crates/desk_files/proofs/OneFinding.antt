-- The plan that checks a claim ends in one way.
use Rattle.std.proofs.Common.{◌≡◌, ℕ, sym, ◌∙◌}
use Rattle.claim_plan.proofs.SameClaims.{check_ends_once}
use Rattle.claim_plan.specs.CheckPlan.{Finding, check_plan}
use Rattle.mate_plan.specs.Claim.{Claim}
use Rattle.set_plan.specs.Outcome as plan
use Rattle.winning_sets.specs.Solve.{IsSolveError}
use Rattle.winning_sets.specs.declared.names.SolveError.TheVariants as solve_error
use Rattle.winning_sets.specs.declared.names.StepName.{StepName}
use Rattle.desk_verdict.proofs.OneStep.{in_plan, same_step}

-- it exceeds a budget at one step, or finds one thing
module _ (c : Claim) (budget : ℕ) where
  abbrev ExceedsHere : StepName → Type 0
  ExceedsHere step = IsSolveError (check_plan c) c.moves budget (solve_error.Over step)

  pub found_once : (a b : Finding) → plan.Ends (check_plan c) budget a → plan.Ends (check_plan c) budget b → a ≡ b
  found_once a b = (check_ends_once c budget).one_end a b

  pub found_exceeds : (a : Finding) (step : StepName) → plan.Ends (check_plan c) budget a → ExceedsHere step → ⊥
  found_exceeds a step found over = (check_ends_once c budget).not_both a (in_plan step) found over.1

  pub check_exceeds_once : (x y : StepName) → ExceedsHere x → ExceedsHere y → x ≡ y
  check_exceeds_once x y a b = same_step x y (a.0 ∙ sym b.0) ((check_ends_once c budget).one_step (in_plan x) (in_plan y) a.1 b.1)
