use Rattle.std.proofs.Common.{rules, ◌≡◌, ◌∙◌}
use Rattle.auto_compact.proofs.Compacted.{AreBrought-carried, AreRows-brought, HasSameTables-brought}
use Rattle.auto_compact.proofs.compacting.over_led_nodes.Goals as goal

pub from_diagrams-requires : goal.from_diagrams-requires
from_diagrams-requires c =
    let tracks : c.in_ok-tracks.tracks.items ≡ c.tracks.result.now = search rules in
    let accept : c.in_ok-accept.accept.items ≡ c.args.a.now.accept = search rules in
    let carried = rw (c.diagrams.ensures.shapes, c.as_slice.ensures.value, c.in_ok-nodes.ensures.nodes) at c.in_ok-rows.ensures.brought in
    rw (tracks, c.tracks.ensures.tracks, accept)
    (AreRows-brought c.diagrams.ensures.nodes (AreBrought-carried _ _ _ _ _ carried c.remove-first.ensures.value c.remove-first.ensures.items))

pub returns : goal.returns
returns c =
    let made = c.from_diagrams.ensures in
    let tracks : c.in_ok-tracks.tracks.items ≡ c.tracks.result.now = search rules in
    let accept : c.in_ok-accept.accept.items ≡ c.args.a.now.accept = search rules in
    let carried = rw (c.diagrams.ensures.shapes, c.as_slice.ensures.value, c.in_ok-nodes.ensures.nodes) at c.in_ok-rows.ensures.brought in
    let brought = AreBrought-carried c.args.a.now _ _ _ _ carried c.remove-first.ensures.value c.remove-first.ensures.items in
    let first = rw (tracks, c.tracks.ensures.tracks) at made.first in
    let next = rw (tracks, c.tracks.ensures.tracks) at made.next in
    HasSameTables-brought c.from_diagrams.result c.diagrams.ensures.nodes (rw (made.shapes, made.first_node, made.row_nodes) brought)
    (made.tracks ∙ tracks ∙ c.tracks.ensures.tracks) (rw (made.shapes, made.first_node) first) (rw (made.shapes, made.row_nodes) next) (made.accept ∙ accept)
