use Rattle.auto_shift.proofs.ShiftRows.{IsFirstMoved-parts}
use Rattle.auto_shift.proofs.first_row.first_moved.Goals as goal

pub returns-clause-moved : goal.returns-clause-moved
returns-clause-moved c =
    IsFirstMoved-parts c.args.track c.args.up c.args.turned.now c.in_ok-longer.longer c.in_ok-as_long.as_long (record {
      has_nodes = c.requires.nodes;
      track_low = c.requires.track;
      are_turned = c.requires.turned;
      to_first = c.in_ok-longer.ensures.grows;
      to_second = c.in_ok-as_long.ensures.grows;
      composed = rw c.first_node-first.ensures.is at c.in_ok-longer.ensures.composed;
      as_long_known = c.in_ok-as_long.ensures.known;
      turns = rw c.first_node-first.ensures.is at c.in_ok-as_long.ensures.map;
      by_bit = c.by_bit-low.ensures;
      known = c.in_ok-node.ensures.known;
      chooses = c.in_ok-node.ensures.map;
    })
