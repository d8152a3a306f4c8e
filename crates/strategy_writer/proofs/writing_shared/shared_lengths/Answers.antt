use Rattle.std.proofs.Common.{arith}
use Rattle.strategy_writer.proofs.SharedWriting.{counts_next, counts_none}
use Rattle.strategy_writer.proofs.writing_shared.shared_lengths.Goals as goal

pub loop-kept-init : goal.loop-kept-init
loop-kept-init c = record { total = counts_none; bound = omega arith }

pub loop-kept-preserved : goal.loop-kept-preserved
loop-kept-preserved c =
    let more = c.in_ok-size.ensures.bound in
    let so_far = c.loop-kept.invariant.bound in
    record {
      total =
          counts_next c.args.sets.now c.loop-kept.kept-index c.kept-item.result _ c.loop-kept.total c.in_ok-size.size c.loop-kept-test.true c.kept-item.is c.loop-kept.invariant.total
          c.in_ok-size.ensures.length;
      bound = omega (arith, more, so_far);
    }
