use Rattle.std.proofs.Common.{◌≡◌, ◌<◌, drop}
use Rattle.auto_core.specs.Automaton.{Automaton}
use Rattle.auto_core.specs.Integers.{DecidesIntegers}
use Rattle.formula_auto.specs.Compiled.{IsAccessible}
use Rattle.shift_image.specs.Laws.{IsMovedBy}
use Rattle.shift_image.proofs.shifting.moved.Given as goal

abbrev pub invariant-loop-shift : goal.invariant-loop-shift
invariant-loop-shift l =
    record {
      integers : DecidesIntegers l.auto';
      tracks : l.auto'.tracks ≡ l.fn.set.tracks;
      rest : (b : Automaton) → IsMovedBy (drop l.shift-index l.shifts) l.auto' b → IsMovedBy l.shifts l.fn.set b;
      accessible : 0 < l.shift-index → IsAccessible l.each l.auto';
    }
