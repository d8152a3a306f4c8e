-- The result of compiling a part of a formula, and the cache then.
use Rattle.std.specs.Prelude.{◌≡◌, ℕ, ◌+◌, ◌≤◌, length}
use Rattle.auto_core.specs.Automaton.{Automaton}
use Rattle.lin_formula.specs.Tree.{Tree, steps}
use Rattle.lin_formula.specs.SetOf.{SetOf}
use Rattle.formula_auto.specs.Compiled.{IsMade, IsCompileError}
use Rattle.formula_auto.specs.Recalled.{recalled_within, recalled_parts}
use Rattle.formula_auto.specs.MemoState.{MemoState, IsMemoAfter}
use Rattle.formula_auto.specs.declared.standing.PartPosition.{PartPosition}
use Rattle.formula_auto.specs.declared.errors.CompileError.{CompileError}
use Rattle.formula_auto.specs.declared.errors.CompileError.TheVariants as compile_error

-- an automaton of the part, the number of its last step, and a cache that has processed all subformulas that are looked up
pub record IsRemembered (f : Tree) (e : ℕ → SetOf) (standing : PartPosition) (old new : MemoState) (a : Automaton)
    (last : ℕ) : Type 0 where
  pub counts : last ≡ standing.before + length (steps f)
  pub made : IsMade f e standing.before old.budget a
  pub after : IsMemoAfter old new (recalled_parts standing.recall f)

-- the cache after this many steps of the part, counted with the steps before it
pub record IsStopped (f : Tree) (standing : PartPosition) (old new : MemoState) (why : CompileError) : Type 0 where
  pub done : ℕ
  pub few : done ≤ length (steps f)
  pub number : (step : ℕ) → why ≡ compile_error.Over step → step ≡ standing.before + done + 1
  pub after : IsMemoAfter old new (recalled_within standing.recall f done)

-- why the part has no automaton, and the cache then
pub record IsInterrupted (f : Tree) (e : ℕ → SetOf) (standing : PartPosition) (old new : MemoState) (why : CompileError) : Type
    0 where
  pub error : IsCompileError f e standing.before old.budget why
  pub stopped : IsStopped f standing old new why
