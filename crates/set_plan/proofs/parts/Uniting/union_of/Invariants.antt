use Rattle.std.proofs.Common.{◌≡◌, ◌≤◌, ◌+◌, ◌*◌, IfSome}
use Rattle.lin_formula.specs.SetOf.{Nothing}
use Rattle.formula_auto.specs.MemoState.{KeepsEntries}
use Rattle.set_plan.specs.Sets.{IsReachedOn, made_of}
use Rattle.set_plan.proofs.Folds.{IsAfter}
use Rattle.set_plan.proofs.Unions.{with_formula}
use Rattle.set_plan.proofs.parts.Uniting.union_of.Given as goal

-- what is left leads to the whole, over one table
abbrev pub invariant-loop-f : goal.invariant-loop-f
invariant-loop-f g l = record {
  room : l.made.at ≤ l.fn.at + l.f-index * 1001;
  set : IfSome l.made.set (IsReachedOn l.self.tracks.now);
  budget : l.memo.budget ≡ l.initial.memo.budget;
  kept : KeepsEntries l.initial.memo l.memo;
  sets : l.meets.sets ≡ l.initial.meets.sets;
  meets_budget : l.meets.budget ≡ l.initial.meets.budget;
  left : IsAfter l.formulas (with_formula l.self.tracks.now l.self.part l.initial.meets.sets) (Nothing, l.fn.at) l.initial.memo.budget l.f-index (made_of l.made);
}
