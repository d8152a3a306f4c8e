-- Errors for the set of an automaton that has no description.
use Rattle.std.specs.Prelude.{ℕ, ◌^◌, ◌<◌, ◌≤◌}
use Rattle.auto_core.specs.Automaton.{Automaton}
use Rattle.auto_numbers.specs.Numbers.{Has}
use Rattle.auto_numbers.specs.declared.bits.TheConstants.{GREATEST_BITS}
use Rattle.period_sets.specs.declared.errors.PeriodError.{PeriodError}
use Rattle.period_sets.specs.declared.errors.PeriodError.TheVariants.{Over, NoPeriod, Far, Many, Memory}
use Rattle.period_sets.specs.declared.periodic.TheConstants.{MOST_PERIOD, MOST_RUNS}
use Rattle.period_sets.specs.declared.periodic.PeriodStart.{PeriodStart}
use Rattle.period_sets.specs.Period.{Repeats, IsPeriod, IsLeastPeriod, IsLeastStart, HasMoreRuns}
use Rattle.period_sets.specs.Question.{StaysWithin, IsFirstPast}

-- no tried number is a period, and no step of their formulas exceeds the budget
pub record HasNoPeriod (S : ℕ → Type 0) (a : Automaton) (budget : ℕ) : Type 0 where
  pub none : (q : ℕ) → q ≤ MOST_PERIOD → ¬ IsPeriod S q
  pub within : StaysWithin a budget MOST_PERIOD

-- there is a least period, and the set repeats only from a number beyond 2^100 on
pub record IsTooFar (S : ℕ → Type 0) (a : Automaton) (budget : ℕ) : Type 0 where
  pub period : ℕ
  pub is_least : IsLeastPeriod S period
  pub far : (from : ℕ) → 1 ≤ from → Repeats S period from → 2 ^ GREATEST_BITS < from
  pub within : StaysWithin a budget period

-- the least period, and the least number from which on the set repeats, at most 2^100
pub record IsFound (S : ℕ → Type 0) (a : Automaton) (budget : ℕ) (start : PeriodStart) : Type 0 where
  pub period : IsLeastPeriod S start.period
  pub from : IsLeastStart S start.period start.from
  pub near : start.from ≤ 2 ^ GREATEST_BITS
  pub within : StaysWithin a budget start.period

-- these exist, but there are more runs below than can be listed
pub record HasTooMany (S : ℕ → Type 0) (a : Automaton) (budget : ℕ) : Type 0 where
  pub start : PeriodStart
  pub found : IsFound S a budget start
  pub many : HasMoreRuns S 1 start.from MOST_RUNS

abbrev pub IsPeriodError : Automaton → ℕ → PeriodError → Type 0
IsPeriodError a budget (Over step) = IsFirstPast (Has a) a budget step
IsPeriodError a budget NoPeriod = HasNoPeriod (Has a) a budget
IsPeriodError a budget Far = IsTooFar (Has a) a budget
IsPeriodError a budget Many = HasTooMany (Has a) a budget
IsPeriodError a budget Memory = Unit {0}
