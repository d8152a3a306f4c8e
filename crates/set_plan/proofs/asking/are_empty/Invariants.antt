use Rattle.std.proofs.Common.{◌≡◌, ◌≤◌, ◌+◌, ◌*◌, map, drop}
use Rattle.lin_formula.specs.TreeOf.{tree_of}
use Rattle.formula_auto.specs.MemoState.{KeepsEntries}
use Rattle.set_plan.specs.Sets.{item_of}
use Rattle.set_plan.specs.Unite as plan
use Rattle.set_plan.proofs.Composition.{LeadsTo}
use Rattle.set_plan.proofs.asking.are_empty.Given as goal

-- what is left leads to the whole, over one table
abbrev pub invariant-loop-f : goal.invariant-loop-f
invariant-loop-f g l = record {
  room : l.at ≤ 1 + l.f-index * 1001;
  budget : l.memo.budget ≡ l.initial.memo.budget;
  kept : KeepsEntries l.initial.memo l.memo;
  sets : l.meets.sets ≡ l.sets;
  meets_budget : l.meets.budget ≡ l.initial.memo.budget;
  left : LeadsTo (plan.are_empty l.fn.part l.at (map (item_of l.sets) (map tree_of (drop l.f-index l.formulas))))
      (plan.are_empty l.fn.part 1 (map (item_of l.sets) (map tree_of l.formulas))) l.initial.memo.budget;
}
