-- The set of an automaton has one least period, one least start of its repetition, and one description. For a budget it has that,
-- or one error; an allocation failure is possible in each case.
use Rattle.std.specs.Prelude.{◌≡◌, ◌≢◌, ◌⊎◌, ◌↔◌, ℕ, ◌%◌, ◌<◌, ◌≤◌, List, [], ◌∷◌}
use Rattle.std.specs.Int.{bit_at}
use Rattle.auto_core.specs.Automaton.{Automaton}
use Rattle.auto_numbers.specs.Numbers.{Has}
use Rattle.period_sets.specs.declared.errors.PeriodError.{PeriodError}
use Rattle.period_sets.specs.declared.errors.PeriodError.TheVariants.{Memory}
use Rattle.period_sets.specs.declared.periodic.Periodic.{Periodic}
use Rattle.period_sets.specs.declared.periodic.Run.{Run}
use Rattle.period_sets.specs.Period.{IsLeastPeriod, IsLeastStart, IsPeriodic}
use Rattle.period_sets.specs.Question.{StaysWithin}
use Rattle.period_sets.specs.Description.{IsPeriodError}

abbrev pub OneLeastPeriod : Type 0
OneLeastPeriod = (a : Automaton) (q r : ℕ) → IsLeastPeriod (Has a) q → IsLeastPeriod (Has a) r → q ≡ r

abbrev pub OneLeastStart : Type 0
OneLeastStart = (a : Automaton) (q m n : ℕ) → IsLeastStart (Has a) q m → IsLeastStart (Has a) q n → m ≡ n

-- the number is in one of the runs
abbrev pub IsInRuns : List Run → ℕ → Type 0
IsInRuns [] t = ⊥
IsInRuns (run ∷ runs) t = ((run.low ≤ t) × (t ≤ run.high)) ⊎ IsInRuns runs t

-- the number is in one of the runs, or from the start on its residue is listed
abbrev pub IsTold : Periodic → ℕ → Type 0
IsTold p t = ((t < p.from) × IsInRuns p.runs.items t) ⊎ ((p.from ≤ t) × (bit_at p.rests (t % p.period) ≡ 1))

abbrev pub TellsMembers : Type 0
TellsMembers = (a : Automaton) (p : Periodic) (t : ℕ) → IsPeriodic (Has a) p → 1 ≤ t → Has a t ↔ IsTold p t

-- two descriptions are equal
pub record SaysTheSame (p q : Periodic) : Type 0 where
  pub runs : p.runs.items ≡ q.runs.items
  pub from : p.from ≡ q.from
  pub period : p.period ≡ q.period
  pub rests : p.rests ≡ q.rests

abbrev pub OneDescription : Type 0
OneDescription = (a : Automaton) (p q : Periodic) → IsPeriodic (Has a) p → IsPeriodic (Has a) q → SaysTheSame p q

abbrev pub NoErrorBeside : Type 0
NoErrorBeside =
    (a : Automaton) (budget : ℕ) (p : Periodic) (why : PeriodError) → IsPeriodic (Has a) p
    → StaysWithin a budget p.period → IsPeriodError a budget why → why ≡ Memory

abbrev pub OneError : Type 0
OneError =
    (a : Automaton) (budget : ℕ) (why other : PeriodError) → why ≢ Memory → other ≢ Memory
    → IsPeriodError a budget why → IsPeriodError a budget other → why ≡ other
