use Rattle.std.proofs.Common.{arith, ◌≡◌, ◌+◌, suc}
use Rattle.mask_sets.specs.Stock.{mask_of}
use Rattle.rule_formula.proofs.mask_list.list.Goals as goal

pub loop-mask-preserved : goal.loop-mask-preserved
loop-mask-preserved c =
    let next : c.loop-mask.mask + 1 ≡ suc c.loop-mask.mask = omega arith in
    rw next (rw c.loop-mask.invariant at c.in_ok-push_mask.ensures)

pub returns : goal.returns
returns c =
    let last : c.loop-mask.mask ≡ mask_of c.args.p.now = omega (arith, c.loop-mask.auto.mask-end, c.loop-mask-test.false, c.live_mask-live.ensures) in
    let next : mask_of c.args.p.now + 1 ≡ suc (mask_of c.args.p.now) = omega arith in
    rw next (rw (c.loop-mask.invariant, last, c.live_mask-live.ensures) at c.in_ok-push_mask-2.ensures)
