-- The first step that exceeds a budget.
use Rattle.std.specs.Prelude.{◌≡◌, ◌⊎◌, ℕ, ◌+◌, List, [], ◌∷◌, ◌++◌, Option, Some, None}
use Rattle.lin_formula.specs.Tree.{Tree, steps}
use Rattle.lin_formula.specs.SetOf.{SetOf, members}
use Rattle.formula_auto.specs.Step.{Exceeds}
use Rattle.set_plan.specs.Program.{Entry}
use Rattle.set_plan.specs.declared.stop.PartStep.{PartStep}

-- a step with its name and the sets that its symbols denote
pub record Step (P : Type 0) : Type 0 where
  pub name : PartStep P
  pub formula : Tree
  pub sets : ℕ → SetOf

abbrev pub numbered : {P : Type 0} → P → ℕ → (ℕ → SetOf) → List Tree → List (Step P)
numbered part at sets [] = []
numbered part at sets (f ∷ fs) =
    record { name = record { part = part; at = at }; formula = f; sets = sets } ∷ numbered part (at + 1) sets fs

abbrev pub all_steps : {P : Type 0} → List (Entry P) → List (Step P)
all_steps [] = []
all_steps (entry ∷ entries) =
    numbered entry.part entry.at entry.item.sets (steps entry.item.formula) ++ all_steps entries

-- the name of the first step that needs more states than the budget, or none
abbrev pub PastStep : {P : Type 0} → List (Step P) → ℕ → Option (PartStep P) → Type 0
PastStep [] budget answer = answer ≡ None
PastStep (step ∷ rest) budget answer =
    (Exceeds step.formula (members step.sets) budget × (answer ≡ Some step.name))
    ⊎ ((¬ Exceeds step.formula (members step.sets) budget) × PastStep rest budget answer)

abbrev pub Past : {P : Type 0} → List (Entry P) → ℕ → Option (PartStep P) → Type 0
Past entries budget answer = PastStep (all_steps entries) budget answer
