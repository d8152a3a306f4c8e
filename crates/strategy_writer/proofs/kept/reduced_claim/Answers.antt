use Rattle.strategy_writer.proofs.KeptClaims.{reduced_few, reduced_next}
use Rattle.strategy_writer.proofs.kept.reduced_claim.Goals as goal

pub loop-claimed-preserved : goal.loop-claimed-preserved
loop-claimed-preserved c =
    rw c.in_ok-push.ensures.items
    (reduced_next c.args.claim.now.sets.items c.as_slice-claimed-items.result.now c.loop-claimed.claimed-index c.loop-claimed.sets.items c.claimed-item.result _ c.in_ok-reduced_set.field-0
    c.as_slice-claimed-items.ensures.value c.loop-claimed-test.true c.claimed-item.is c.in_ok-reduced_set.ensures c.loop-claimed.invariant)

pub invariant_of-result : goal.invariant_of-result
invariant_of-result c = record { few = reduced_few c.args.claim.now c.requires c.loop-claimed.claimed-index c.loop-claimed.sets.items c.loop-claimed.invariant }
