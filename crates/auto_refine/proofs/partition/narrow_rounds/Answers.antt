use Rattle.std.proofs.Common.{rules, ◌<◌, length, subst, sym}
use Rattle.std.specs.List.{Contains}
use Rattle.auto_refine.specs.Refining.{IsRefined}
use Rattle.auto_refine.proofs.Rounds.{count_le-size}
use Rattle.auto_refine.proofs.Refinings.{IsRefined-stale, fewer_left}
use Rattle.auto_refine.proofs.partition.narrow_rounds.Goals as goal

pub next_round-requires-clause-refined : goal.next_round-requires-clause-refined
next_round-requires-clause-refined c =
    let a = c.args.a.now in
    let r = c.loop-alloc.refining in
    let moved = c.loop-alloc.moved.items in
    let stale = c.in_ok-stale.stale.items in
    subst (λ all. IsRefined a r (Contains all)) (sym c.as_slice-in-loop-alloc.ensures.value)
    (IsRefined-stale moved stale c.loop-alloc.invariant.refined (rw c.as_slice.ensures.value at c.in_ok-stale.ensures))

pub loop-alloc-smaller : goal.loop-alloc-smaller
loop-alloc-smaller c =
    let round = c.in_ok-moved.ensures in
    let some : 0 < length c.loop-alloc.moved.items = search rules in
    fewer_left (length c.args.a.now.accept) c.loop-alloc.refining.partition.count c.next_round.new.refining.partition.count
    (length c.loop-alloc.moved.items) (length c.in_ok-moved.moved.items) some round.count.kept
    (count_le-size _ _ _ round.refined.sound.partition) round.count.grown
