-- The result of programs that continue from the value so far.
use Rattle.std.specs.Prelude.{ℕ, List, ◌∷◌, Result}
use Rattle.set_plan.specs.Outcome.{Answers}
use Rattle.set_plan.specs.Program.{Program, each}
use Rattle.set_plan.specs.declared.stop.PlanError.{PlanError}

-- the program of an item continues from the value so far in the old state, within the budget there; its result is the returned
-- value in the new state
abbrev pub AnswersOn : {P A S W X V : Type 0} → (S → W → V → A) → (S → W → ℕ) → (S → W → X → A → Program P A)
    → S → W → W → X → V → Result V (PlanError P) → Type 0
AnswersOn view budget program s old new item so_far result =
    Answers (program s old item (view s old so_far)) (budget s old) (view s new) result

-- the programs of all items of a list, in order
abbrev pub all_of : {P A S W X : Type 0} → (S → W → X → A → Program P A) → S → W → List X → A → Program P A
all_of program s work items = each items (program s work)

-- if the value so far fits the item and any items after it, the next value fits those after it
abbrev pub StillFits : {W V X : Type 0} → (W → V → List X → Type 0) → W → W → X → V → V → Type 0
StillFits {W} {V} {X} fits old new item so_far value =
    (rest : List X) → fits old so_far (item ∷ rest) → fits new value rest
