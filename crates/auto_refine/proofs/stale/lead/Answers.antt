use Rattle.auto_refine.proofs.Stales.{AreLedRows-first}
use Rattle.auto_refine.proofs.stale.lead.Goals as goal

pub mapped_nodes-requires-clause-known : goal.mapped_nodes-requires-clause-known
mapped_nodes-requires-clause-known c = rw c.diagrams.ensures.shapes c.requires.rows.known

pub mapped_nodes-requires-clause-leaves : goal.mapped_nodes-requires-clause-leaves
mapped_nodes-requires-clause-leaves c = rw (c.diagrams.ensures.shapes, c.as_slice.ensures.value, c.requires.partition.states) c.requires.rows.within

pub returns : goal.returns
returns c =
    let led = rw (c.diagrams.ensures.shapes, c.as_slice.ensures.value) at c.in_ok-led.ensures.led in
    AreLedRows-first _ c.args.partition.now.classes.items c.requires.rows c.requires.partition.states led
