use Rattle.std.proofs.Common.{All, arith, get_or, subst, sym}
use Rattle.std.proofs.lemmas.List.{take_all}
use Rattle.strategy_writer.proofs.LargestSets.{KeepsAtMost, sets_more}
use Rattle.strategy_writer.specs.declared.kept_claim.KeptSet.{KeptSet}
use Rattle.strategy_writer.proofs.largest.largest_of.Goals as goal

pub loop-kept-preserved : goal.loop-kept-preserved
loop-kept-preserved c =
    let sets = c.args.sets.now in
    let k = c.loop-kept.kept-index in
    let states = c.states.ensures.states in
    record {
      within =
          let here : KeepsAtMost c.states.result (get_or sets k c.kept-item.result) =
          subst (λ (x : KeptSet). KeepsAtMost c.states.result x) c.kept-item.is (omega (arith, states)) in
          sets_more sets k c.kept-item.result c.loop-kept.most c.states.result c.max-most.result c.loop-kept-test.true c.loop-kept.invariant.within here
          c.max-most.ensures;
      least = λ n all.
          let so_far = c.loop-kept.invariant.least n all in
          let item : KeepsAtMost n (get_or sets k c.kept-item.result) = all k c.kept-item.result c.loop-kept-test.true in
          let here : KeepsAtMost n c.kept-item.result = subst (KeepsAtMost n) (sym c.kept-item.is) item in
          omega (arith, so_far, here, states, c.max-most.ensures);
    }

pub returns-clause-within : goal.returns-clause-within
returns-clause-within c =
    subst (All (KeepsAtMost c.loop-kept.most)) (take_all c.loop-kept.kept-index c.args.sets.now c.loop-kept-test.false) c.loop-kept.invariant.within
