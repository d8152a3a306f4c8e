-- The results for the numbers in a set depend on the set only.
use Rattle.std.specs.Prelude.{◌≡◌, ℕ, Option}
use Rattle.auto_core.specs.Automaton.{Automaton}
use Rattle.auto_numbers.specs.declared.largest.Greatest.{Greatest}
use Rattle.auto_numbers.specs.Numbers.{Has, IsNextFound, IsGreatest}

abbrev pub OneNext : Type 0
OneNext = (a : Automaton) (low : ℕ) (m n : Option ℕ) → IsNextFound (Has a) low m → IsNextFound (Has a) low n → m ≡ n

abbrev pub OneGreatest : Type 0
OneGreatest = (a : Automaton) (g h : Greatest) → IsGreatest (Has a) g → IsGreatest (Has a) h → g ≡ h
