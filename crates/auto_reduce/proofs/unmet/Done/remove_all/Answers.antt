use Rattle.std.proofs.Common.{arith}
use Rattle.auto_reduce.proofs.Orders.{place_in}
use Rattle.auto_reduce.proofs.unmet.Done.remove_all.Goals as goal

pub returns : goal.returns
returns c = λ node there.
    let kept = c.loop-node.invariant node there in
    let end = c.loop-node-test.false in
    (kept.0, λ among. let p = place_in c.args.nodes.now node among in let w = p.1 in kept.1 p.0 (omega (arith, w, end)) p.2)
