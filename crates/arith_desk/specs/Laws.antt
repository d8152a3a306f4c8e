-- A line is one formula, or is refused at one field; and a formula has one result.
use Rattle.std.specs.Prelude.{◌≡◌, ℕ, List}
use Rattle.lin_formula.specs.Tree.{Tree}
use Rattle.formula_auto.specs.declared.errors.CompileError.TheVariants.{Over}
use Rattle.arith_desk.specs.Reading.{IsFirstRefused, IsFormulaLine}
use Rattle.arith_desk.specs.Truth.{IsOver, IsTruth, IsWithin}
use Rattle.arith_desk.specs.declared.deciding.Truth.{Truth}

-- a line has at most one meaning
abbrev pub OneMeaning : Type 0
OneMeaning = (line : List ℕ) (f g : Tree) → IsFormulaLine line f → IsFormulaLine line g → f ≡ g

-- no field of a formula is refused
abbrev pub FormulaIsNotRefused : Type 0
FormulaIsNotRefused =
    (line : List ℕ) (f : Tree) (number : ℕ) → IsFormulaLine line f → IsFirstRefused line number → ⊥

-- a line is refused at one field at most
abbrev pub OneRefusal : Type 0
OneRefusal = (line : List ℕ) (m n : ℕ) → IsFirstRefused line m → IsFirstRefused line n → m ≡ n

-- a formula has one result
abbrev pub OneTruth : Type 0
OneTruth = (f : Tree) (one other : Truth) → IsTruth f one → IsTruth f other → one ≡ other

-- at most one step of the formula is the first that exceeds the budget
pub record ExceedsOnce (f : Tree) (budget : ℕ) : Type 0 where
  pub one_step : (m n : ℕ) → IsOver f budget (Over m) → IsOver f budget (Over n) → m ≡ n
  pub not_both : (n : ℕ) → IsWithin f budget → IsOver f budget (Over n) → ⊥

abbrev pub OneExcess : Type 0
OneExcess = (f : Tree) (budget : ℕ) → ExceedsOnce f budget
