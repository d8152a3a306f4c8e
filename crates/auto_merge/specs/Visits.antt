-- Rows mapped to classes, where places get a class on the way.
use Rattle.std.specs.Prelude.{Result, Ok, Err}
use Rattle.auto_merge.specs.declared.keys.NoKey.{NoKey}
use Rattle.auto_merge.specs.declared.keys.NoKey.TheVariants.{Unclassed, Over, Memory}

-- the property is true if a row was mapped completely, or up to a place without a class
abbrev pub OnLed : {T : Type 0} → Result T NoKey → Type 0 → Type 0
OnLed (Ok made) P = P
OnLed (Err (Unclassed number)) P = P
OnLed (Err Over) P = Unit {0}
OnLed (Err Memory) P = Unit {0}
