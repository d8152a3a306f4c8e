use Rattle.std.proofs.Common.{◌<◌, ℕ, slice_index}
use Rattle.auto_search.specs.Marks.{HasCellFrom}
use Rattle.auto_search.proofs.marks.empty_cells.Given as goal

abbrev pub invariant-loop-cell : goal.invariant-loop-cell
invariant-loop-cell l = (k : ℕ) → 0 < slice_index l.failed k → HasCellFrom l.cells l.cell-index k
