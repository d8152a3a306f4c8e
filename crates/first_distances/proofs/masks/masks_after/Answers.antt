use Rattle.std.proofs.Common.{arith}
use Rattle.first_distances.proofs.MaskLemmas.{captures_next, few_masks}
use Rattle.first_distances.proofs.masks.masks_after.Goals as goal

pub loop-n-preserved : goal.loop-n-preserved
loop-n-preserved c = captures_next c.args.p.now c.loop-n.n c.loop-n.all.items _ c.loop-n.invariant c.in_ok-push_capture.ensures

pub returns-clause-few : goal.returns-clause-few
returns-clause-few c =
    let last = c.loop-n.auto.n-end in
    let most = c.count-n-end.ensures.most in
    few_masks c.args.p.now c.loop-n.n c.loop-n.all.items c.loop-n.invariant (omega (arith, last, most))
