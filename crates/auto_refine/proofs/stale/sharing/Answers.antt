use Rattle.std.proofs.Common.{arith, map}
use Rattle.auto_refine.proofs.Stales.{sorted_all}
use Rattle.auto_refine.proofs.stale.sharing.Goals as goal

pub returns-clause-all : goal.returns-clause-all
returns-clause-all c =
    let end = c.loop-state.auto.state-index-end in
    sorted_all c.args.states.now c.loop-state.sharing.items c.args.partition.now.classes.items c.args.partition.now.count c.args.listing.now.representatives.items
    (map (λ list. list.items) c.args.listing.now.lists.items) c.requires.listing c.requires.within
    (λ turn less. c.loop-state.invariant.sorted turn (omega (arith, less, end, c.loop-state-test.false)))
