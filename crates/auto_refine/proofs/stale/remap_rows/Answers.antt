use Rattle.std.proofs.Common.{ℕ, ◌<◌, length}
use Rattle.letter_diagram.specs.Diagram.{map_at}
use Rattle.auto_refine.proofs.Stales.{AreLedAgain-from, All-picked}
use Rattle.auto_refine.proofs.stale.remap_rows.Goals as goal

pub picked-requires : goal.picked-requires
picked-requires c = rw c.requires.rows.size c.requires.states

pub mapped_nodes-requires-clause-known : goal.mapped_nodes-requires-clause-known
mapped_nodes-requires-clause-known c =
    rw (c.diagrams.ensures.shapes, c.as_slice.ensures.value)
    (All-picked (λ node. node < length c.args.a.now.shapes) c.in_ok-picked.picked.items c.in_ok-picked.ensures
    (rw c.requires.rows.size c.requires.states) c.requires.rows.known)

pub mapped_nodes-requires-clause-leaves : goal.mapped_nodes-requires-clause-leaves
mapped_nodes-requires-clause-leaves c =
    rw (c.diagrams.ensures.shapes, c.as_slice.ensures.value, c.requires.classes)
    (All-picked (λ node. (letter : ℕ) → map_at c.args.a.now.shapes node letter < length c.args.a.now.accept) {rows = c.args.rows.now} {order = c.args.states.now}
    c.in_ok-picked.picked.items c.in_ok-picked.ensures (rw c.requires.rows.size c.requires.states) c.requires.rows.within)

pub returns-clause-led : goal.returns-clause-led
returns-clause-led c =
    let led = rw (c.diagrams.ensures.shapes, c.as_slice.ensures.value) at c.in_ok-nodes.ensures.led in
    let put = rw c.as_slice-2.ensures.value at c.put.ensures in
    AreLedAgain-from c.args.a.now _ c.args.rows.now c.in_ok-picked.picked.items c.in_ok-nodes.nodes.items c.args.states.now c.args.classes.now
    c.requires.rows c.requires.led c.in_ok-picked.ensures led put c.requires.states
