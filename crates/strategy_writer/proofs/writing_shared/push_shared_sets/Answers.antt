use Rattle.std.proofs.Common.{sym, subst}
use Rattle.strategy_writer.specs.KeptClaims.{as_set}
use Rattle.strategy_writer.specs.SharedWritten.{HasFewNodes}
use Rattle.strategy_writer.specs.declared.kept_claim.KeptSet.{KeptSet}
use Rattle.strategy_writer.proofs.SharedWriting.{adds_next, adds_none}
use Rattle.strategy_writer.proofs.writing_shared.push_shared_sets.Goals as goal

pub loop-kept-init : goal.loop-kept-init
loop-kept-init c = adds_none c.args.out.now.items

pub loop-kept-preserved : goal.loop-kept-preserved
loop-kept-preserved c =
    adds_next c.args.sets.now c.loop-kept.kept-index c.kept-item.result _ c.args.out.now.items c.loop-kept.out.items _ c.loop-kept-test.true c.kept-item.is c.loop-kept.invariant
    c.in_ok-push_shared_set.ensures

pub push_shared_set-requires : goal.push_shared_set-requires
push_shared_set-requires c = subst (λ (k : KeptSet). HasFewNodes (as_set k)) (sym c.kept-item.is) (c.requires c.loop-kept.kept-index _ c.loop-kept-test.true)
