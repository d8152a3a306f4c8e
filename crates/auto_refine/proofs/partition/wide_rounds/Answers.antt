use Rattle.std.proofs.Common.{rules, arith, ◌≡◌, ◌<◌, length, subst, sym}
use Rattle.std.specs.List.{Contains}
use Rattle.auto_refine.specs.Refining.{LeadsInto, IsRefined}
use Rattle.auto_refine.proofs.Rounds.{count_le-size}
use Rattle.auto_refine.proofs.Stales.{AreSettled-first}
use Rattle.auto_refine.proofs.Refinings.{IsRefined-fewer, fewer_left}
use Rattle.auto_refine.proofs.partition.wide_rounds.Goals as goal

pub round-requires-clause-settled : goal.round-requires-clause-settled
round-requires-clause-settled c =
    let r = c.args.refining.now in
    let led = c.requires.led in
    let led_size = led.size in
    let nodes : c.len.result ≡ length r.led.items = search rules in
    let size = c.in_ok-stale.ensures.size in
    let states : length c.in_ok-stale.stale.items ≡ length c.args.a.now.accept = omega (arith, nodes, size, led_size) in
    rw c.as_slice.ensures.value
    (AreSettled-first r.partition.classes.items r.listing.representatives.items r.led.items c.in_ok-stale.stale.items (length c.args.a.now.accept) led.classes_size states
    (λ state within. c.in_ok-stale.ensures.each state (omega (arith, within, states, size))))

pub next_round-requires-clause-refined : goal.next_round-requires-clause-refined
next_round-requires-clause-refined c =
    let a = c.args.a.now in
    let r = c.loop-alloc.refining in
    let before = c.loop-alloc.invariant.refined in
    let states = before.sound.partition.states in
    let stale = c.in_ok-stale-2.stale.items in
    subst (λ all. IsRefined a r (Contains all)) (sym c.as_slice-in-loop-alloc.ensures.value)
    (IsRefined-fewer (Contains stale) before (λ state known shared _. c.in_ok-stale-2.ensures.all state (omega (arith, known, states)) shared))

pub loop-alloc-smaller : goal.loop-alloc-smaller
loop-alloc-smaller c =
    let round = c.in_ok-moved-2.ensures in
    let len : length c.loop-alloc.moved.items ≡ c.loop-alloc.moved.len = search rules in
    let some : 0 < length c.loop-alloc.moved.items = omega (arith, len, c.len-in-loop-alloc.ensures, c.loop-alloc-test.true) in
    fewer_left (length c.args.a.now.accept) c.loop-alloc.refining.partition.count c.next_round.new.refining.partition.count
    (length c.loop-alloc.moved.items) (length c.in_ok-moved-2.moved.items) some round.count.kept
    (count_le-size _ _ _ round.refined.sound.partition) round.count.grown
