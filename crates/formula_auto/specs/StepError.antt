-- Why a step has no automaton, with its number.
use Rattle.std.specs.Prelude.{ℕ}
use Rattle.auto_walk.specs.declared.grown.Grown.{Grown}
use Rattle.auto_walk.specs.declared.grown.Grown.TheVariants as grown
use Rattle.formula_auto.specs.declared.errors.CompileError.{CompileError}
use Rattle.formula_auto.specs.declared.errors.CompileError.TheVariants as compile_error

abbrev pub step_error : ℕ → Grown → CompileError
step_error step grown.Over = compile_error.Over step
step_error step grown.Memory = compile_error.Memory
