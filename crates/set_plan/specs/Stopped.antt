-- Why a formula in a part has no set.
use Rattle.std.specs.Prelude.{ℕ, ◌+◌, ◌-◌, ◌≤◌}
use Rattle.formula_auto.specs.declared.errors.CompileError.{CompileError}
use Rattle.formula_auto.specs.declared.errors.CompileError.TheVariants as compile_error
use Rattle.set_plan.specs.declared.stop.PartStep.{PartStep}
use Rattle.set_plan.specs.declared.stop.PlanError.{PlanError}
use Rattle.set_plan.specs.declared.stop.PlanError.TheVariants as plan_error

-- the step is one of this many, counted from 1; an allocation failure is possible in each case
abbrev pub IsStepOf : ℕ → CompileError → Type 0
IsStepOf count (compile_error.Over step) = (1 ≤ step) × (step ≤ count)
IsStepOf count compile_error.Memory = Unit {0}

-- the name of a step of a formula whose first step has this name
abbrev pub stopped_at : {P : Type 0} → PartStep P → CompileError → PlanError P
stopped_at from (compile_error.Over step) = plan_error.Over (record { part = from.part; at = from.at + step - 1 })
stopped_at from compile_error.Memory = plan_error.Memory
