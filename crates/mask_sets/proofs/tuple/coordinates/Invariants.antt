use Rattle.std.proofs.Common.{◌≡◌, ◌*◌, ◌≤◌, length}
use Rattle.mask_sets.specs.Tuple.{tuple_to}
use Rattle.mask_sets.proofs.tuple.coordinates.Given as goal

abbrev pub invariant-loop-n : goal.invariant-loop-n
invariant-loop-n l = (l.tuple.items ≡ tuple_to l.p l.n) × (length l.tuple.items ≤ 2 * l.n)
