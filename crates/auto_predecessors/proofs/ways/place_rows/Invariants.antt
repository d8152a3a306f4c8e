use Rattle.std.proofs.Common.{◌≡◌, ◌<◌, ℕ, length, vec_len, get_or}
use Rattle.auto_predecessors.specs.Ways.{RemembersPlaced, IsPlaced}
use Rattle.auto_predecessors.proofs.ways.place_rows.Given as goal

abbrev pub invariant-loop-node : goal.invariant-loop-node
invariant-loop-node l = record {
  size : vec_len l.found ≡ l.node-index;
  remembered : RemembersPlaced (length l.a.accept) l.a.shapes l.ways.items l.places.items;
  placed : (k : ℕ) → k < l.node-index → IsPlaced l.a.shapes l.ways.items (get_or l.rows k 0) (get_or l.found.items k 0);
}
