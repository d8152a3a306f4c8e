use Rattle.auto_core.proofs.Renamed.{AreRenamed-brought}
use Rattle.auto_core.proofs.Restricted.{all_narrow}
use Rattle.auto_project.proofs.WideRows.{HasWideRows-renamed}
use Rattle.auto_project.proofs.rows.wide_rows.Goals as goal

pub bring_relabelled-requires-clause-narrow : goal.bring_relabelled-requires-clause-narrow
bring_relabelled-requires-clause-narrow c =
    rw (c.diagrams-2.ensures.shapes, c.as_slice.ensures.value, c.in_ok-nodes.ensures.nodes, c.as_slice-2.ensures.value, c.in_ok-places.ensures, c.tracks.ensures.tracks)
    (all_narrow c.args.tracks.now c.in_ok-nodes.ensures.over)

pub returns : goal.returns
returns c =
    let brought =
    rw (
      c.diagrams-2.ensures.shapes,
      c.as_slice.ensures.value,
      c.in_ok-nodes.ensures.nodes,
      c.as_slice-2.ensures.value,
      c.in_ok-places.ensures,
      c.tracks.ensures.tracks,
    )
    at c.in_ok-rows.ensures.brought in
    record { rows = HasWideRows-renamed _ c.tracks.ensures.valid c.in_ok-nodes.ensures.over _ (AreRenamed-brought _ _ _ _ _ _ brought c.remove-first.ensures.value c.remove-first.ensures.items) }
