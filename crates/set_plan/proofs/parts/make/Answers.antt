use Rattle.std.proofs.Common.{arith}
use Rattle.lin_formula.specs.SetOf.{members, tables}
use Rattle.lin_formula.specs.TreeOf.{tree_of}
use Rattle.formula_auto.proofs.Rooms.{ready}
use Rattle.formula_auto.proofs.StillKept.{keeps-after, keeps-stopped}
use Rattle.set_plan.specs.Sets.{item_of}
use Rattle.set_plan.proofs.Decided.{DecidesIntegers-decides, IsSetOf-decides}
use Rattle.set_plan.proofs.FewStates.{few_states}
use Rattle.set_plan.proofs.Makes.{Ends-make, not_made, step-of}
use Rattle.set_plan.proofs.parts.make.Goals as goal

pub lacks_a_set-requires : goal.lacks_a_set-requires
lacks_a_set-requires g c = ready c.requires.compilable

pub returns-in-Ok-clause-answers : goal.returns-in-Ok-clause-answers
returns-in-Ok-clause-answers g c =
    let is = IsSetOf-decides (tree_of c.args.f.now) (tables c.args.sets.now) c.in-Ok.a c.in-Ok.ensures.decides in
    rw c.step_count-count.ensures
    (Ends-make c.args.part c.args.at (item_of c.args.sets.now (tree_of c.args.f.now)) c.args.memo.now.budget c.if-lacks_a_set.ensures.none is c.in-Ok.ensures.within)

pub returns-in-Ok-clause-set : goal.returns-in-Ok-clause-set
returns-in-Ok-clause-set g c = record {
  reduced = c.in-Ok.ensures.reduced;
  decides = record {
    integers = DecidesIntegers-decides (tree_of c.args.f.now) (tables c.args.sets.now) c.in-Ok.a c.in-Ok.ensures.decides;
    tracks_are = c.in-Ok.ensures.decides.tracks;
  };
  few = λ some.
      let high = c.budget.ensures.valid.most in
      let states =
      few_states (members (tables c.args.sets.now)) c.args.memo.now.budget 1 some c.in-Ok.ensures.decides
      c.in-Ok.ensures.reduced c.in-Ok.ensures.within in
      omega (arith, states, high, c.budget.ensures.is);
}

pub stopped-requires-clause-step : goal.stopped-requires-clause-step
stopped-requires-clause-step g c =
    step-of c.args.part c.args.at (item_of c.args.sets.now (tree_of c.args.f.now)) c.args.memo.now.budget c.in-Err.why c.requires.few c.in-Err.ensures.over

pub returns-in-Err-clause-answers : goal.returns-in-Err-clause-answers
returns-in-Err-clause-answers g c =
    rw c.stopped.ensures
    (not_made c.args.part c.args.at (item_of c.args.sets.now (tree_of c.args.f.now)) c.args.memo.now.budget c.in-Err.why c.if-lacks_a_set.ensures.none c.in-Err.ensures.over)

pub returns-in-Ok-clause-kept : goal.returns-in-Ok-clause-kept
returns-in-Ok-clause-kept g c = keeps-after c.in-Ok.ensures.after

pub returns-in-Err-clause-kept : goal.returns-in-Err-clause-kept
returns-in-Err-clause-kept g c = keeps-stopped (tree_of c.args.f.now) _ _ c.in-Err.why c.in-Err.ensures.stopped
