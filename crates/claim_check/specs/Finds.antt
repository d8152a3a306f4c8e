-- Executions of a program that finds the first rule that fails.
use Rattle.std.specs.Prelude.{ℕ, Bool, Result}
use Rattle.set_plan.specs.Outcome.{Answers}
use Rattle.set_plan.specs.declared.stop.PlanError.{PlanError}
use Rattle.mate_plan.specs.Plan.{Program}
use Rattle.mate_plan.specs.declared.bench.PlanState.{PlanState}
use Rattle.mate_plan.specs.declared.names.PartName.{PartName}
use Rattle.claim_plan.specs.CheckPlan.{Finding, holds_by}
use Rattle.claim_plan.specs.declared.names.RuleAt.{RuleAt}

-- to its end, with its finding, or up to the first step that exceeds the budget; running out of memory aside
abbrev pub Finds : Program Finding → ℕ → Result Finding (PlanError PartName) → Type 0
Finds program budget result = Answers program budget (λ (found : Finding). found) result

-- the same within the budget of the state
abbrev pub FindsBy : PlanState → Program Finding → Result Finding (PlanError PartName) → Type 0
FindsBy work program result = Finds program work.memo.budget result

-- the same for any program
abbrev pub AnswersBy : {A B : Type 0} → PlanState → Program A → (B → A) → Result B (PlanError PartName) → Type 0
AnswersBy work program view result = Answers program work.memo.budget view result

-- the program that finds whether the rule is true has this finding, if it is executed to its end
abbrev pub IsJudgedBy : RuleAt → Result Bool (PlanError PartName) → Result Finding (PlanError PartName) → Type 0
IsJudgedBy rule answer result =
    (program : Program Bool) (budget : ℕ) → Answers program budget (λ (holds : Bool). holds) answer
    → Finds (holds_by rule program) budget result
