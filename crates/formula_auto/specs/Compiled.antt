-- What a formula requires of the table of sets, and the result of compiling it.
use Rattle.std.specs.Prelude.{◌≡◌, ℕ, ◌+◌, ◌≤◌, List, length, All, Some, None, slice_get}
use Rattle.limits.specs.declared.numbers.TheConstants.{MOST_TRACKS}
use Rattle.auto_core.specs.Automaton.{Automaton}
use Rattle.auto_core.specs.Reduced.{AllReached, IsReduced}
use Rattle.auto_core.specs.Integers.{DecidesIntegers}
use Rattle.lin_formula.specs.Tree.{Tree, IsWellMade, HasStep, vars_of, steps, memberships}
use Rattle.lin_formula.specs.SetOf.{SetOf, members}
use Rattle.formula_auto.specs.Step.{FirstOver}
use Rattle.formula_auto.specs.Decides.{Decides}
use Rattle.formula_auto.specs.declared.errors.CompileError.{CompileError}
use Rattle.formula_auto.specs.declared.errors.CompileError.TheVariants as compile_error

-- a set of the table that decides a set of integer tuples of this length; each of its states is reached
pub record IsSetFor (sets : List Automaton) (number size : ℕ) : Type 0 where
  pub set : Automaton
  pub is_there : slice_get sets number ≡ Some set
  pub reached : AllReached set
  pub integers : DecidesIntegers set
  pub arity : length set.tracks ≡ size

-- each named set is in the table, with a track for each variable
abbrev pub HasSets : List Automaton → Tree → Type 0
HasSets sets f = All (λ m. IsSetFor sets m.0 (length m.1)) (memberships f)

-- well made, with few variables, and with a set for each name
pub record IsCompilable (f : Tree) (sets : List Automaton) : Type 0 where
  pub well_made : IsWellMade f
  pub few_vars : length (vars_of f) ≤ MOST_TRACKS
  pub has_sets : HasSets sets f

-- each state is reached, and there are at most as many states as the budget
pub record IsAccessible (budget : ℕ) (a : Automaton) : Type 0 where
  pub reached : AllReached a
  pub few : length a.accept ≤ budget

-- decides the formula, and no step exceeds the budget
pub record IsMade (f : Tree) (e : ℕ → SetOf) (before budget : ℕ) (a : Automaton) : Type 0 where
  pub decides : Decides a f (members e)
  pub within : FirstOver (steps f) (members e) budget (before + 1) None

-- in addition, it is minimal
pub record IsCompiled (f : Tree) (e : ℕ → SetOf) (before budget : ℕ) (a : Automaton) : Type 0 where
  pub reduced : IsReduced a
  pub decides : Decides a f (members e)
  pub within : FirstOver (steps f) (members e) budget (before + 1) None

-- decides the formula; each state is reached, and if there is a step, there are at most as many states as the budget
pub record IsCompiledOn (f : Tree) (e : ℕ → SetOf) (before budget : ℕ) (a : Automaton) : Type 0 where
  pub made : IsMade f e before budget a
  pub reached : AllReached a
  pub few : HasStep f → length a.accept ≤ budget

-- the step, counted with the steps before the formula, is the first that exceeds the budget
abbrev pub IsCompileError : Tree → (ℕ → SetOf) → ℕ → ℕ → CompileError → Type 0
IsCompileError f e before budget (compile_error.Over step) =
    FirstOver (steps f) (members e) budget (before + 1) (Some step)
IsCompileError f e before budget compile_error.Memory = Unit {0}
