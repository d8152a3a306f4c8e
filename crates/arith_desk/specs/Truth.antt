-- The result for a closed formula.
use Rattle.std.specs.Prelude.{◌≡◌, ◌⊎◌, ℕ, ◌^◌, ◌<◌, ◌≤◌, [], ℤ, pos, ◌≤ℤ◌, unsigned_abs, Option, None, MatchOption}
use Rattle.track_word.specs.declared.tracks.Var.{Var}
use Rattle.track_word.specs.Tracks.{Values}
use Rattle.lin_formula.specs.Tree.{Tree, And, Ex, Value, steps}
use Rattle.lin_formula.specs.Holds.{Holds, Sets, with_value}
use Rattle.lin_formula.specs.SetOf.{members, tables}
use Rattle.lin_formula.specs.Free.{IsFree}
use Rattle.formula_auto.specs.Step.{FirstOver}
use Rattle.formula_auto.specs.Compiled.{IsCompileError}
use Rattle.formula_auto.specs.declared.errors.CompileError.{CompileError}
use Rattle.arith_desk.specs.declared.deciding.Truth.{Truth}
use Rattle.arith_desk.specs.declared.deciding.Truth.TheVariants as truths

-- no named sets
abbrev pub no_sets : Sets
no_sets = members (tables [])

-- values for a formula without free variables
abbrev pub anyhow : Values
anyhow x = pos 0

abbrev pub IsTrueFormula : Tree → Type 0
IsTrueFormula f = Holds f no_sets anyhow

-- the formula is true with the number as the value of the variable, its only free one
abbrev pub HoldsWith : Var → Tree → ℤ → Type 0
HoldsWith x g n = Holds g no_sets (with_value anyhow x n)

-- of the numbers with the property this is the nearest to 0, and the positive one of two that are equally near
pub record IsNearest (P : ℤ → Type 0) (w : ℤ) : Type 0 where
  pub holds : P w
  pub least : (n : ℤ) → P n → unsigned_abs w ≤ unsigned_abs n
  pub positive : (n : ℤ) → P n → unsigned_abs n ≡ unsigned_abs w → n ≤ℤ w

-- some number has the property, but none from -2^64 to 2^64
pub record IsWide (P : ℤ → Type 0) : Type 0 where
  pub some : (n : ℤ) × P n
  pub far : (n : ℤ) → P n → 2 ^ 64 < unsigned_abs n

-- the formula is existential: its variable is free in its body
pub record Asks (f : Tree) (x : Var) (g : Tree) : Type 0 where
  pub is : f ≡ Ex x g
  pub free : IsFree x g

-- the result for a formula
abbrev pub IsTruth : Tree → Truth → Type 0
IsTruth f truths.False = ¬ IsTrueFormula f
IsTruth f truths.True = IsTrueFormula f × ((x : Var) (g : Tree) → ¬ Asks f x g)
IsTruth f (truths.Witness w) =
    (x : Var) × (g : Tree) × Asks f x g × IsNearest (HoldsWith x g) w × (unsigned_abs w ≤ 2 ^ 64)
IsTruth f truths.WitnessWide = (x : Var) × (g : Tree) × Asks f x g × IsWide (HoldsWith x g)

-- the formula is decided without a witness
abbrev pub IsPlainTruth : Tree → Truth → Type 0
IsPlainTruth f truth = ((truth ≡ truths.True) × IsTrueFormula f) ⊎ ((truth ≡ truths.False) × (¬ IsTrueFormula f))

-- the conjunction of the formula and of an additional variable's being 0
abbrev pub with_zero : Tree → Tree
with_zero g = And g (Value (record { 0 = 16 }) (pos 0))

-- The formula that is compiled: for an existential formula, its body with an additional variable that is 0, and otherwise the
-- formula itself.
abbrev pub IsCompiledFor : Tree → Tree → Type 0
IsCompiledFor f q =
    ((x : Var) × (g : Tree) × Asks f x g × (q ≡ with_zero g))
    ⊎ (((x : Var) (g : Tree) → ¬ Asks f x g) × (q ≡ f))

-- each of its steps is within the budget
abbrev pub IsWithin : Tree → ℕ → Type 0
IsWithin f budget = (q : Tree) × IsCompiledFor f q × FirstOver (steps q) no_sets budget 1 None

-- its step with this number is the first that exceeds the budget, or an allocation failed
abbrev pub IsOver : Tree → ℕ → CompileError → Type 0
IsOver f budget why = (q : Tree) × IsCompiledFor f q × IsCompileError q (tables []) 0 budget why

-- the number from -2^64 to 2^64 that is the nearest to 0, or none if there is none
abbrev pub IsNearestFound : (ℤ → Type 0) → Option ℤ → Type 0
IsNearestFound P found =
    MatchOption found ((n : ℤ) → P n → 2 ^ 64 < unsigned_abs n) (λ w. IsNearest P w × (unsigned_abs w ≤ 2 ^ 64))
