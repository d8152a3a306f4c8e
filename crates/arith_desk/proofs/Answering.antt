-- What is answered of a formula, from what was found.
use Rattle.std.proofs.Common.{◌≡◌, ◌⊎◌, inl, inr, ℕ, List, [], ◌∷◌, ℤ, pos, Some, None, refl, sym, subst}
use Rattle.track_word.specs.declared.tracks.Var.{Var}
use Rattle.auto_core.specs.Automaton.{Automaton, IsAutomaton}
use Rattle.auto_core.specs.Integers.{IsAccepted}
use Rattle.auto_core.specs.Reduced.{IsReduced}
use Rattle.lin_formula.specs.Tree.{Tree, Ex, free_vars, steps}
use Rattle.lin_formula.specs.Free.{IsFree, IsOneOf}
use Rattle.lin_formula.proofs.FreeVars.{free_vars-free}
use Rattle.lin_formula.specs.SetOf.{tables}
use Rattle.formula_auto.specs.Decides.{Decides}
use Rattle.formula_auto.specs.Step.{FirstOver}
use Rattle.formula_auto.specs.Compiled.{IsCompileError}
use Rattle.formula_auto.specs.declared.errors.CompileError.{CompileError}
use Rattle.formula_auto.specs.declared.errors.CompileError.TheVariants as compile_error
use Rattle.auto_reduce.specs.Tables.{AcceptsNoWord}
use Rattle.arith_desk.specs.declared.deciding.Truth.{Truth}
use Rattle.arith_desk.specs.declared.deciding.Truth.TheVariants as truths
use Rattle.arith_desk.specs.Question.{IsQuestion}
use Rattle.arith_desk.specs.Truth.{Asks, HoldsWith, IsNearest, IsNearestFound, IsOver, IsTrueFormula, IsTruth, IsWithin, no_sets, with_zero}
use Rattle.arith_desk.proofs.TruthLemmas.{hit_holds, holds_hit, same_or_not, some_holds, some_word}

nearest_along : {P : ℤ → Type 0} (Q : ℤ → Type 0) {w : ℤ} → ((n : ℤ) → P n → Q n) → ((n : ℤ) → Q n → P n) → IsNearest P w → IsNearest Q w
nearest_along {P = P} Q {w} forth back is = record {
  holds = forth w is.holds;
  least = λ n h. is.least n (back n h);
  positive = λ n h same. is.positive n (back n h) same;
}

module _ (x : Var) (g : Tree) (question : IsQuestion (Ex x g)) (free : IsFree x g) (a : Automaton) (decides : Decides a (with_zero g) no_sets) where
  asks : Asks (Ex x g) x g
  asks = record { is = refl; free = free }

  pub seek_near : (w : ℤ) → IsNearestFound (λ n. IsAccepted a (n ∷ pos 0 ∷ [])) (Some w) → IsTruth (Ex x g) (truths.Witness w)
  seek_near w found =
      (x, g, asks, nearest_along (HoldsWith x g) (hit_holds x g question free a decides) (holds_hit x g question free a decides) found.0, found.1)

  pub seek_wide : IsReduced a → IsAutomaton a → (AcceptsNoWord a → ⊥) → IsNearestFound (λ n. IsAccepted a (n ∷ pos 0 ∷ [])) None → IsTruth (Ex x g) truths.WitnessWide
  seek_wide reduced valid some none =
      (x, g, asks, record { some = some_holds x g question free a decides (some_word reduced valid some); far = λ n h. none n (holds_hit x g question free a decides n h) })

-- a formula that asks for nothing
abbrev pub AsksNothing : Tree → Type 0
AsksNothing f = (x : Var) (g : Tree) → ¬ Asks f x g

-- the formula holds or not, and that is what the truth says
abbrev pub IsPlainTruth : Tree → Truth → Type 0
IsPlainTruth f truth = ((truth ≡ truths.True) × IsTrueFormula f) ⊎ ((truth ≡ truths.False) × (¬ IsTrueFormula f))

pub plain_within : (f : Tree) (budget : ℕ) → AsksNothing f → FirstOver (steps f) no_sets budget 1 None → IsWithin f budget
plain_within f budget nothing h = (f, inr (nothing, refl), h)

pub plain_over : (f : Tree) (budget : ℕ) (why : CompileError) → AsksNothing f → IsCompileError f (tables []) 0 budget why → IsOver f budget why
plain_over f budget why nothing h = (f, inr (nothing, refl), h)

pub asked_within : (x : Var) (g : Tree) (budget : ℕ) → IsFree x g → FirstOver (steps (with_zero g)) no_sets budget 1 None → IsWithin (Ex x g) budget
asked_within x g budget free h = (with_zero g, inl (x, g, record { is = refl; free = free }, refl), h)

pub asked_over : (x : Var) (g : Tree) (budget : ℕ) (why : CompileError) → IsFree x g → IsCompileError (with_zero g) (tables []) 0 budget why → IsOver (Ex x g) budget why
asked_over x g budget why free h = (with_zero g, inl (x, g, record { is = refl; free = free }, refl), h)

-- which formulas ask for nothing
pub bound_asks_nothing : (x : Var) (g : Tree) → ¬ IsFree x g → AsksNothing (Ex x g)
bound_asks_nothing x g bound y h asks =
    let var : x ≡ y = let is = asks.is in cc in
    let body : g ≡ h = let is = asks.is in cc in
    bound (subst (λ z. IsFree z g) (sym var) (subst (IsFree y) (sym body) asks.free))

one_or_not : (x : Var) (vars : List Var) → IsOneOf x vars ⊎ (IsOneOf x vars → ⊥)
one_or_not x [] = inr (λ h. h)
one_or_not x (y ∷ ys) = elim (same_or_not x y) [
  | inl is ↦ inl (inl is)
  | inr other ↦ elim (one_or_not x ys) [
    | inl there ↦ inl (inr there)
    | inr never ↦ inr (neither other never)
  ]
]
  where
    neither : (x ≡ y → ⊥) → (IsOneOf x ys → ⊥) → IsOneOf x (y ∷ ys) → ⊥
    neither other never (inl is) = other is
    neither other never (inr there) = never there

free_or_not : (x : Var) (g : Tree) → IsFree x g ⊎ (IsFree x g → ⊥)
free_or_not x g = elim (one_or_not x (free_vars g)) [
  | inl there ↦ inl ((free_vars-free g x).0 there)
  | inr never ↦ inr (λ free. never ((free_vars-free g x).1 free))
]

-- memory may run out before it is known whether a number is asked for
pub memory_over : (x : Var) (g : Tree) (budget : ℕ) → IsOver (Ex x g) budget compile_error.Memory
memory_over x g budget = elim (free_or_not x g) [
  | inl free ↦ asked_over x g budget compile_error.Memory free tt
  | inr bound ↦ plain_over (Ex x g) budget compile_error.Memory (bound_asks_nothing x g bound) tt
]
