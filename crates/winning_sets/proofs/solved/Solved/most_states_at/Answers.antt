use Rattle.std.proofs.Common.{get_or, arith}
use Rattle.winning_sets.specs.Solve.{kept_at, states_of}
use Rattle.winning_sets.proofs.MostStates.{ply_within, within_more}
use Rattle.winning_sets.proofs.solved.Solved.most_states_at.Goals as goal

pub loop-mask-preserved : goal.loop-mask-preserved
loop-mask-preserved c =
    let s = c.args.self.now in
    let masks = c.masks-mask-items.result.now in
    let k = c.loop-mask.mask-index in
    record {
      within =
          within_more (λ j. states_of (kept_at s c.args.ply (get_or masks j 0))) k c.loop-mask.most c.states.result c.max-most.result
          c.loop-mask.invariant.within (omega (arith, c.states.ensures)) c.max-most.ensures;
      least = λ n all.
          let so_far = c.loop-mask.invariant.least n all in
          let here = all (get_or masks k 0) in
          omega (arith, so_far, here, c.states.ensures, c.max-most.ensures);
    }

pub returns-clause-within : goal.returns-clause-within
returns-clause-within c =
    let masks = c.masks-mask-items in
    ply_within c.args.self.now masks.ensures.valid masks.result.now masks.ensures.masks c.args.ply c.loop-mask.most (λ j less. c.loop-mask.invariant.within j (omega (arith, less)))
