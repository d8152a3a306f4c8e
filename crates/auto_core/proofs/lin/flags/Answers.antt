use Rattle.std.proofs.Common.{arith, pos, ◌+ℤ◌, ◌≤ℤ◌}
use Rattle.std.proofs.lemmas.Int.{ints}
use Rattle.auto_core.proofs.Assembled.{AreFlagsOf-push, flag-is}
use Rattle.auto_core.proofs.lin.flags.Goals as goal

pub loop-state-preserved : goal.loop-state-preserved
loop-state-preserved c =
    let inv = c.loop-state.invariant in
    let below = c.loop-state-test.true in
    let count = c.states-state-end.ensures in
    let within : (c.args.span.low +ℤ pos c.loop-state.state) ≤ℤ c.args.span.high = omega (arith, ints, below, count) in
    record {
      count = let l = c.in_ok-push.ensures.len in let n = inv.count in omega (arith, l, n);
      tells =
          rw c.in_ok-push.ensures.items
          (AreFlagsOf-push _ _ inv.count inv.tells
          (flag-is _ _ c.loop-state.state c.value_of.result _ c.requires within c.value_of.ensures c.compares.ensures));
    }
