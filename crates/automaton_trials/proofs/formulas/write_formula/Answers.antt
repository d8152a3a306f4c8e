use Rattle.arith_desk.proofs.TruthLemmas.{compilable, few_steps}
use Rattle.automaton_trials.proofs.formulas.write_formula.Goals as goal

pub compile-requires-clause-compilable : goal.compile-requires-clause-compilable
compile-requires-clause-compilable c = compilable c.new-sets.result c.in_ok-f.ensures

pub compile-requires-clause-few_steps : goal.compile-requires-clause-few_steps
compile-requires-clause-few_steps c = few_steps c.in_ok-f.ensures
