use Rattle.std.proofs.Common.{List, ◌∙◌, sym, subst}
use Rattle.auto_core.specs.Automaton.{Automaton}
use Rattle.formula_auto.specs.Compiled.{IsCompilable}
use Rattle.lin_formula.specs.TreeOf.{tree_of}
use Rattle.line_engine.proofs.MissLemmas.{plain_compilable}
use Rattle.line_engine.proofs.work.EngineState.plain.Goals as goal

pub compile_uncached-requires-clause-compilable : goal.compile_uncached-requires-clause-compilable
compile_uncached-requires-clause-compilable c =
    subst (λ (sets : List Automaton). IsCompilable (tree_of c.args.f.now) sets) (sym (c.meets-meets.ensures.sets ∙ c.new-none.ensures))
    (plain_compilable (tree_of c.args.f.now) c.requires.plain)
