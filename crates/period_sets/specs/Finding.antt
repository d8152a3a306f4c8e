-- How the period, the runs and the residues of a set are found.
use Rattle.std.specs.Prelude.{◌≡◌, ◌↔◌, ◌⊎◌, ℕ, ◌+◌, ◌-◌, ◌%◌, ◌^◌, ◌<◌, ◌≤◌, List, ◌++◌, Option, MatchOption}
use Rattle.std.specs.Int.{bit_at}
use Rattle.auto_numbers.specs.declared.bits.TheConstants.{GREATEST_BITS}
use Rattle.period_sets.specs.declared.errors.PeriodError.{PeriodError}
use Rattle.period_sets.specs.declared.errors.PeriodError.TheVariants.{Many, Memory}
use Rattle.period_sets.specs.declared.periodic.TheConstants.{MOST_PERIOD}
use Rattle.period_sets.specs.declared.periodic.Run.{Run}
use Rattle.period_sets.specs.declared.periodic.PeriodStart.{PeriodStart}
use Rattle.period_sets.specs.Period.{Repeats, AreFewRuns, HasMoreRuns}

-- t is positive, and exactly one of t and t + q is in the set
abbrev pub IsDifference : (ℕ → Type 0) → ℕ → ℕ → Type 0
IsDifference S q t = (1 ≤ t) × ((S t × (¬ S (t + q))) ⊎ ((¬ S t) × S (t + q)))

-- the first member from a number on and below an end
pub record IsFirstMember (S : ℕ → Type 0) (from end low : ℕ) : Type 0 where
  pub first : from ≤ low
  pub below : low < end
  pub member : S low
  pub before : (t : ℕ) → from ≤ t → t < low → ¬ S t

-- that member, or none if there is none
abbrev pub IsRunStart : (ℕ → Type 0) → ℕ → ℕ → Option ℕ → Type 0
IsRunStart S from end found = MatchOption found ((t : ℕ) → from ≤ t → t < end → ¬ S t) (IsFirstMember S from end)

-- the end, or the first number that is not a member
pub record IsRunEnd (S : ℕ → Type 0) (low end stop : ℕ) : Type 0 where
  pub some : low < stop
  pub within : stop ≤ end
  pub inside : (t : ℕ) → low ≤ t → t < stop → S t
  pub after : stop < end → ¬ S stop

-- the runs are appended to the existing ones
pub record AddsRuns (S : ℕ → Type 0) (from end room : ℕ) (old new : List Run) : Type 0 where
  pub added : List Run
  pub are : AreFewRuns S from end room added
  pub is : new ≡ old ++ added

-- there are more runs than this, or an allocation failed
abbrev pub IsRunsError : (ℕ → Type 0) → ℕ → ℕ → ℕ → PeriodError → Type 0
IsRunsError S from end room why = ((why ≡ Many) × HasMoreRuns S from end room) ⊎ (why ≡ Memory)

-- the set repeats from the start on, with a period that can be tried
pub record Repeating (S : ℕ → Type 0) (start : PeriodStart) : Type 0 where
  pub some : 1 ≤ start.period
  pub small : start.period ≤ MOST_PERIOD
  pub near : start.from ≤ 2 ^ GREATEST_BITS
  pub repeats : Repeats S start.period start.from

-- the bits of the residues from one residue on
pub record AreRestsFrom (S : ℕ → Type 0) (start : PeriodStart) (rest rests : ℕ) : Type 0 where
  pub small : rests < 2 ^ (start.period - rest)
  pub tells : (t : ℕ) → start.from ≤ t → rest ≤ t % start.period
      → S t ↔ (bit_at rests (t % start.period - rest) ≡ 1)
