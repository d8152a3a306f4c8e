use Rattle.std.proofs.Common.{◌∙◌}
use Rattle.auto_shift.proofs.ShiftRows.{HasNodes-copied, HasNodes-kept, AreTurned-made, AreTurned-kept, rows_known}
use Rattle.auto_shift.proofs.pair_walk.ShiftPairs.new.Goals as goal

pub flip_track_all-requires-clause-known : goal.flip_track_all-requires-clause-known
flip_track_all-requires-clause-known c =
    let copied = HasNodes-copied _ (c.in_ok-diagrams.ensures ∙ c.diagrams.ensures.shapes) c.tracks.ensures.valid c.diagrams.ensures.nodes in
    rw c.row_nodes.ensures (rows_known _ _ copied)

pub first_moved-requires-clause-nodes : goal.first_moved-requires-clause-nodes
first_moved-requires-clause-nodes c =
    let copied = HasNodes-copied _ (c.in_ok-diagrams.ensures ∙ c.diagrams.ensures.shapes) c.tracks.ensures.valid c.diagrams.ensures.nodes in
    HasNodes-kept c.in_ok-turned.ensures.grows copied

pub first_moved-requires-clause-turned : goal.first_moved-requires-clause-turned
first_moved-requires-clause-turned c =
    let copied = HasNodes-copied _ (c.in_ok-diagrams.ensures ∙ c.diagrams.ensures.shapes) c.tracks.ensures.valid c.diagrams.ensures.nodes in
    let has_nodes = HasNodes-kept c.in_ok-turned.ensures.grows copied in
    rw c.as_slice.ensures.value (AreTurned-made _ _ has_nodes c.args.track c.requires (rw c.row_nodes.ensures at c.in_ok-turned.ensures.turned))

pub invariant_of-result : goal.invariant_of-result
invariant_of-result c =
    let copied = HasNodes-copied _ (c.in_ok-diagrams.ensures ∙ c.diagrams.ensures.shapes) c.tracks.ensures.valid c.diagrams.ensures.nodes in
    let has_nodes = HasNodes-kept c.in_ok-turned.ensures.grows copied in
    let turned = AreTurned-made _ _ has_nodes c.args.track c.requires (rw c.row_nodes.ensures at c.in_ok-turned.ensures.turned) in
    let grows = c.in_ok-moved.ensures.grows in
    record {
      is_shifted =
          rw c.in_ok-product.ensures.shapes
          (record {
            track_low = c.requires;
            has_nodes = HasNodes-kept grows has_nodes;
            first_moved = c.in_ok-moved.ensures.moved;
            are_turned = AreTurned-kept grows turned;
          });
      absorbs_nothing = rw c.in_ok-product.ensures.absorbing (record { left = c.nothing.ensures.left; right = c.nothing.ensures.right });
    }
