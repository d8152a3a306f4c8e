use Rattle.std.proofs.Common.{◌+◌, ◌*◌}
use Rattle.lin_formula.specs.TreeOf.{tree_of}
use Rattle.formula_auto.proofs.Connections.{nodes}
use Rattle.formula_auto.proofs.memo.Memo.+compiled.Given as goal

abbrev pub decreases-compiled : goal.decreases-compiled
decreases-compiled l = 5 * nodes (tree_of l.f.now) + 3

abbrev pub decreases-recalled : goal.decreases-recalled
decreases-recalled l = 5 * nodes (tree_of l.f.now) + 2

abbrev pub decreases-entered : goal.decreases-entered
decreases-entered l = 5 * nodes (tree_of l.f.now) + 1

abbrev pub decreases-shared : goal.decreases-shared
decreases-shared l = 5 * nodes (tree_of l.f.now) + 1

abbrev pub decreases-paired : goal.decreases-paired
decreases-paired l = 5 * nodes (tree_of l.f.now) + 1

abbrev pub decreases-from_parts : goal.decreases-from_parts
decreases-from_parts l = 5 * nodes (tree_of l.f.now)

abbrev pub decreases-both : goal.decreases-both
decreases-both l = 5 * (nodes (tree_of l.pair.left.now) + nodes (tree_of l.pair.right.now)) + 4

abbrev pub decreases-chained : goal.decreases-chained
decreases-chained l = 5 * (nodes (tree_of l.extension.left.now) + nodes (tree_of l.extension.right.now)) + 6

abbrev pub decreases-linked : goal.decreases-linked
decreases-linked l = 5 * (nodes (tree_of l.extension.left.now) + nodes (tree_of l.extension.right.now)) + 5

abbrev pub decreases-begun : goal.decreases-begun
decreases-begun l = 5 * nodes (tree_of l.f.now) + 4
