-- The statements about the plan of a claim.
use Rattle.std.specs.Prelude.{◌≡◌, ◌↔◌, ℕ, List, Some, None}
use Rattle.set_plan.specs.Outcome.{Ends, Stops}
use Rattle.set_plan.specs.Program.{Entry, Takes}
use Rattle.set_plan.specs.declared.stop.PartStep.{PartStep}
use Rattle.mate_plan.specs.Claim.{Claim, IsClaim}
use Rattle.mate_plan.specs.Won.{Won}
use Rattle.mate_plan.specs.declared.names.PartName.{PartName}
use Rattle.winning_sets.specs.Solve.{IsWithin}
use Rattle.claim_plan.specs.CheckPlan.{Finding, check_plan}
use Rattle.claim_plan.specs.Checked.{IsFirstFailing, KeepsRule, rules_in_order}

-- the finding is the first rule that fails, in their order, or none
abbrev pub FindsFirst : Claim → Finding → Type 0
FindsFirst c found = IsFirstFailing (KeepsRule c) (rules_in_order c) found

-- the plan of a claim finds the first rule that fails
abbrev pub CheckFindsFirst : Type 0
CheckFindsFirst =
    (c : Claim) (entries : List (Entry PartName)) (found : Finding) → IsClaim c
    → Takes (check_plan c) entries (Some found) → FindsFirst c found

-- at most one finding is the first
abbrev pub OneIsFirst : Type 0
OneIsFirst = (c : Claim) (a b : Finding) → FindsFirst c a → FindsFirst c b → a ≡ b

-- no rule fails if and only if the claim is won
abbrev pub NoneFailsWhereWon : Type 0
NoneFailsWhereWon = (c : Claim) (found : Finding) → IsClaim c → FindsFirst c found → (found ≡ None) ↔ Won c

-- within a budget the plan of a claim has one end or stops at one step
pub record EndsOnce (c : Claim) (budget : ℕ) : Type 0 where
  pub one_end : (a b : Finding) → Ends (check_plan c) budget a → Ends (check_plan c) budget b → a ≡ b
  pub one_step : (x y : PartStep PartName) → Stops (check_plan c) budget x → Stops (check_plan c) budget y → x ≡ y
  pub not_both : (a : Finding) (x : PartStep PartName) → Ends (check_plan c) budget a → Stops (check_plan c) budget x
      → ⊥

abbrev pub CheckEndsOnce : Type 0
CheckEndsOnce = (c : Claim) (budget : ℕ) → EndsOnce c budget

-- within a budget the plan of a claim ends without a failing rule if and only if the claim is won and no step exceeds
-- the budget
abbrev pub EndsWhereWon : Type 0
EndsWhereWon =
    (c : Claim) (budget : ℕ) → IsClaim c
    → Ends (check_plan c) budget None ↔ (Won c × IsWithin (check_plan c) budget)
