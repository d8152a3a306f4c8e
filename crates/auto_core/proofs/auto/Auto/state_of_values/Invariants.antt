use Rattle.std.proofs.Common.{◌-◌, ◌<◌, length, All}
use Rattle.track_word.specs.Word.{FitsBelow}
use Rattle.auto_core.specs.Integers.{IsLeft}
use Rattle.auto_core.proofs.auto.Auto.state_of_values.Given as goal

abbrev pub invariant-loop-read : goal.invariant-loop-read
invariant-loop-read l = record {
  left : IsLeft l.self l.values (63 - l.read) l.state;
  fits : All (FitsBelow 63) l.values;
  within : l.state < length l.self.accept;
}
