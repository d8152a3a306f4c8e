use Rattle.std.proofs.Common.{◌≡◌, drop}
use Rattle.auto_core.specs.Automaton.{Automaton}
use Rattle.lin_formula.specs.SetOf.{tables}
use Rattle.formula_auto.specs.Compiled.{IsAccessible}
use Rattle.formula_auto.specs.MemoState.{KeepsEntries}
use Rattle.shift_image.specs.Read.{trees}
use Rattle.shift_image.specs.LeftOut.{AreLeftByTurns}
use Rattle.shift_image.proofs.leaving.left_in_turn.Given as goal

abbrev pub invariant-loop-f : goal.invariant-loop-f
invariant-loop-f l =
    record {
      budget : l.memo.budget ≡ l.fn.memo.budget;
      kept : KeepsEntries l.fn.memo l.memo;
      tracks : l.auto'.tracks ≡ l.fn.set.tracks;
      rest : (b : Automaton) → AreLeftByTurns (tables l.scope.sets.now) l.fn.memo.budget l.scope.each (drop l.f-index (trees l.formulas)) l.auto' b
          → AreLeftByTurns (tables l.scope.sets.now) l.fn.memo.budget l.scope.each (trees l.formulas) l.fn.set b;
      accessible : IsAccessible l.scope.each l.fn.set → IsAccessible l.scope.each l.auto';
    }
