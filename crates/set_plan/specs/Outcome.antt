-- The result of a program under a budget.
use Rattle.std.specs.Prelude.{ℕ, List, Some, None, Result, Ok, Err}
use Rattle.set_plan.specs.Program.{Program, Entry, Takes}
use Rattle.set_plan.specs.Past.{Past}
use Rattle.set_plan.specs.declared.stop.PartStep.{PartStep}
use Rattle.set_plan.specs.declared.stop.PlanError.{PlanError}
use Rattle.set_plan.specs.declared.stop.PlanError.TheVariants as plan_error

-- the program ends with this value, and no step of it exceeds the budget
pub record Ends {P A : Type 0} (program : Program P A) (budget : ℕ) (value : A) : Type 0 where
  pub entries : List (Entry P)
  pub takes : Takes program entries (Some value)
  pub past : Past entries budget None

-- the step with this name is the first of the program that exceeds the budget
pub record Stops {P A : Type 0} (program : Program P A) (budget : ℕ) (name : PartStep P) : Type 0 where
  pub entries : List (Entry P)
  pub takes : Takes program entries None
  pub past : Past entries budget (Some name)

-- the named step is the first of the program that exceeds the budget
abbrev pub IsPlanError : {P A : Type 0} → Program P A → ℕ → PlanError P → Type 0
IsPlanError program budget (plan_error.Over name) = Stops program budget name
IsPlanError program budget plan_error.Memory = Unit {0}

-- a value that is returned unchanged
abbrev pub as_is : {A : Type 0} → A → A
as_is a = a

-- the value of the program, no step of which exceeds the budget, or the first step that does; an allocation failure is possible in
-- each case
abbrev pub Answers : {P A R : Type 0} → Program P A → ℕ → (R → A) → Result R (PlanError P) → Type 0
Answers program budget view (Ok r) = Ends program budget (view r)
Answers program budget view (Err e) = IsPlanError program budget e
