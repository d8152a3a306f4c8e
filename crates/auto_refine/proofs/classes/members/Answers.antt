use Rattle.std.proofs.Common.{◌≡◌, length, rules, arith}
use Rattle.auto_refine.proofs.Standing.{AreMembers-from}
use Rattle.auto_refine.proofs.classes.members.Goals as goal

pub returns : goal.returns
returns c =
    let size : length c.loop-state.members.items ≡ c.args.partition.now.count = search rules in
    record {
      of_each = AreMembers-from _ c.requires.partition size c.loop-state.invariant.within (λ k h. c.loop-state.invariant.has k (omega arith) h);
      first = λ k h. c.loop-state.invariant.first k (omega arith) h;
    }
