use Rattle.std.proofs.Common.{◌≡◌, ◌*◌, ◌≤◌, length}
use Rattle.mask_sets.specs.Tuple.{tuple_to}
use Rattle.mask_sets.proofs.tuple.place_of_man.Given as goal

abbrev pub invariant-loop-n : goal.invariant-loop-n
invariant-loop-n l = (l.place ≡ length (tuple_to l.p l.n)) × (l.place ≤ 2 * l.n)
