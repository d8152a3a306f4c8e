-- Steps none of which exceeds the budget.
use Rattle.std.proofs.Common.{ℕ, ◌+◌, List, [], ◌∷◌, ◌++◌, None, refl, sym, inl, inr}
use Rattle.lin_formula.specs.Tree.{Tree}
use Rattle.lin_formula.specs.Holds.{Sets}
use Rattle.formula_auto.specs.Step.{Exceeds, FirstOver}
use Rattle.formula_auto.proofs.FirstOvers.{none_some}

abbrev pub AreWithin : List Tree → Sets → ℕ → Type 0
AreWithin [] e budget = Unit {0}
AreWithin (step ∷ steps) e budget = (¬ Exceeds step e budget) × AreWithin steps e budget

pub within-append : (xs ys : List Tree) (e : Sets) (budget : ℕ) → AreWithin xs e budget → AreWithin ys e budget
    → AreWithin (xs ++ ys) e budget
within-append [] ys e budget h k = k
within-append (x ∷ xs) ys e budget h k = (h.0, within-append xs ys e budget h.1 k)

pub none-over : (xs : List Tree) (e : Sets) (budget from : ℕ) → AreWithin xs e budget → FirstOver xs e budget from None
none-over [] e budget from h = refl
none-over (x ∷ xs) e budget from h = inr (h.0, none-over xs e budget (from + 1) h.1)

pub over-none : (xs : List Tree) (e : Sets) (budget from : ℕ) → FirstOver xs e budget from None → AreWithin xs e budget
over-none [] e budget from h = tt
over-none (x ∷ xs) e budget from h = elim h [
  | inl (over, is) ↦ none_some (sym is)
  | inr (within, rest) ↦ (within, over-none xs e budget (from + 1) rest)
]
