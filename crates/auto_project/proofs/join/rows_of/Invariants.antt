use Rattle.std.proofs.Common.{◌≡◌, map, take, slice_index}
use Rattle.auto_project.proofs.join.rows_of.Given as goal

abbrev pub invariant-loop-state : goal.invariant-loop-state
invariant-loop-state l = l.picked.items ≡ map (slice_index l.rows) (take l.state-index l.set)
