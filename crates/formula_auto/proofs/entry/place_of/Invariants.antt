use Rattle.std.proofs.Common.{take}
use Rattle.lin_formula.specs.TreeOf.{tree_of}
use Rattle.formula_auto.proofs.Entries.{None_of}
use Rattle.formula_auto.proofs.entry.place_of.Given as goal

abbrev pub invariant-loop-place : goal.invariant-loop-place
invariant-loop-place l = None_of (tree_of l.f) (take l.place l.entries)
