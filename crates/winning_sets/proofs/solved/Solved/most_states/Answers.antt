use Rattle.std.proofs.Common.{arith}
use Rattle.winning_sets.specs.Solve.{kept_at, states_of}
use Rattle.winning_sets.proofs.MostStates.{most_few, most_is, within_more}
use Rattle.winning_sets.proofs.solved.Solved.most_states.Goals as goal

pub loop-ply-preserved : goal.loop-ply-preserved
loop-ply-preserved c =
    let s = c.args.self.now in
    let at = c.most_states_at in
    record {
      within = λ i less mask.
          within_more (λ j. states_of (kept_at s j mask)) c.loop-ply.ply c.loop-ply.most at.result c.max-most.result
          (λ j before. c.loop-ply.invariant.within j before mask) (at.ensures.within mask) c.max-most.ensures i less;
      least = λ n all.
          let so_far = c.loop-ply.invariant.least n all in
          let here = at.ensures.least n (all c.loop-ply.ply) in
          omega (arith, so_far, here, c.max-most.ensures);
    }

pub returns : goal.returns
returns c =
    let plies = c.plies-ply-end.ensures in
    let most =
    most_is c.args.self.now plies.valid c.loop-ply.most
    (λ i less. c.loop-ply.invariant.within i (omega (arith, less, plies.plies, c.loop-ply-test.false)))
    c.loop-ply.invariant.least in
    record { most = most; few = most_few plies.valid most }
