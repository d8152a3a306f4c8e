use Rattle.std.proofs.Common.{length, get_or, ◌<◌}
use Rattle.std.proofs.lemmas.List.{get_or_default}
use Rattle.auto_merge.proofs.Flags.{AreClassFlags-more}
use Rattle.auto_merge.proofs.Mergings.{owner_known}
use Rattle.auto_merge.proofs.class_states.class_flags.Goals as goal

pub is_final-requires-clause-known : goal.is_final-requires-clause-known
is_final-requires-clause-known g c =
    let value = c.as_slice-owner-items.ensures.value in
    rw value (owner_known c.requires.merging.classes c.loop-owner.owner-index (rw value at c.loop-owner-test.true))

pub loop-owner-preserved : goal.loop-owner-preserved
loop-owner-preserved g c =
    let value = c.as_slice-owner-items.ensures.value in
    let owners = c.args.merging.now.owners.items in
    let i = c.loop-owner.owner-index in
    let below : c.loop-owner.owner-index < length c.args.merging.now.owners.items = rw value at c.loop-owner-test.true in
    rw c.in_ok-push.ensures.items
    (AreClassFlags-more (g.R.RowSource.graph c.args.rows.now).walker (g.R.RowSource.places c.args.rows.now c.args.merging.now.led.seen) owners i (get_or owners i 0) c.is_final.result below
    (get_or_default owners i 0 (get_or owners i 0) below) (rw value at c.is_final.ensures) c.loop-owner.invariant)
