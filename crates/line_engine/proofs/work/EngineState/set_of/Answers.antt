use Rattle.std.proofs.Common.{arith}
use Rattle.lin_formula.specs.SetOf.{tables}
use Rattle.lin_formula.specs.TreeOf.{tree_of}
use Rattle.lin_formula.specs.Tree.{free_vars}
use Rattle.set_plan.specs.Sets.{item_of}
use Rattle.set_plan.proofs.Decided.{IsSetOf-decides}
use Rattle.set_plan.proofs.Makes.{Ends-make, not_made, step-of}
use Rattle.line_engine.proofs.SetLemmas.{filled_or_none, set_or_none}
use Rattle.line_engine.proofs.work.EngineState.set_of.Goals as goal

pub returns-in-Ok-clause-answers : goal.returns-in-Ok-clause-answers
returns-in-Ok-clause-answers c =
    let item = item_of c.args.sets.now (tree_of c.args.f.now) in
    let decides = rw c.meets-meets.ensures.sets at c.in-Ok.ensures.decides in
    let within = rw c.meets-meets.ensures.sets at c.in-Ok.ensures.within in
    let is = IsSetOf-decides (tree_of c.args.f.now) (tables c.args.sets.now) c.in-Ok.a decides in
    let set = set_or_none item c.in-Ok.a c.unless_empty.result is c.unless_empty.ensures.some c.unless_empty.ensures.none in
    rw (c.from.ensures, c.step_count-count.ensures)
    (Ends-make tt c.args.self.now.at item c.args.self.now.memo.budget c.requires.item.some set within)

pub returns-in-Ok-clause-set : goal.returns-in-Ok-clause-set
returns-in-Ok-clause-set c =
    filled_or_none (free_vars (tree_of c.args.f.now)) c.in-Ok.a c.unless_empty.result c.unless_empty.ensures.some
    (record {
      reached = c.in-Ok.ensures.reached;
      decides = record { integers = c.in-Ok.ensures.integers; tracks_are = c.in-Ok.ensures.decides.tracks };
      few = let states = c.in-Ok.ensures.few c.requires.item.item.some in let high = c.budget.ensures.valid.most in omega (arith, states, high);
    })

pub stopped-requires-clause-step : goal.stopped-requires-clause-step
stopped-requires-clause-step c =
    let over = rw c.meets-meets.ensures.sets at c.in-Err.ensures.over in
    step-of (tt {0}) c.args.self.now.at (item_of c.args.sets.now (tree_of c.args.f.now)) c.args.self.now.memo.budget c.in-Err.why c.requires.item.item.few over

pub returns-clause-answers : goal.returns-clause-answers
returns-clause-answers c =
    let over = rw c.meets-meets.ensures.sets at c.in-Err.ensures.over in
    rw c.stopped.ensures
    (not_made tt c.args.self.now.at (item_of c.args.sets.now (tree_of c.args.f.now)) c.args.self.now.memo.budget c.in-Err.why c.requires.item.some over)
