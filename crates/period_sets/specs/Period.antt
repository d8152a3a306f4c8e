-- Sets of natural numbers that repeat from some number on.
use Rattle.std.specs.Prelude.{◌≡◌, ◌↔◌, ℕ, ◌+◌, ◌%◌, ◌^◌, ◌<◌, ◌≤◌, List, [], ◌∷◌, length}
use Rattle.std.specs.Int.{bit_at}
use Rattle.auto_numbers.specs.declared.bits.TheConstants.{GREATEST_BITS}
use Rattle.period_sets.specs.declared.periodic.TheConstants.{MOST_PERIOD, MOST_RUNS}
use Rattle.period_sets.specs.declared.periodic.Run.{Run}
use Rattle.period_sets.specs.declared.periodic.Periodic.{Periodic}

-- from a number on, t is in the set if and only if t + q is
abbrev pub Repeats : (ℕ → Type 0) → ℕ → ℕ → Type 0
Repeats S q from = (t : ℕ) → from ≤ t → S t ↔ S (t + q)

-- the set repeats with this period from some positive number on
pub record IsPeriod (S : ℕ → Type 0) (q : ℕ) : Type 0 where
  pub some : 1 ≤ q
  pub from : ℕ
  pub positive : 1 ≤ from
  pub repeats : Repeats S q from

-- the least period, if it can be tried
pub record IsLeastPeriod (S : ℕ → Type 0) (q : ℕ) : Type 0 where
  pub is : IsPeriod S q
  pub small : q ≤ MOST_PERIOD
  pub least : (r : ℕ) → IsPeriod S r → q ≤ r

-- the least positive number from which on the set repeats
pub record IsLeastStart (S : ℕ → Type 0) (q from : ℕ) : Type 0 where
  pub positive : 1 ≤ from
  pub repeats : Repeats S q from
  pub least : (m : ℕ) → 1 ≤ m → Repeats S q m → from ≤ m

-- the first maximal run of members, of the numbers from a number on and below an end
pub record IsFirstRun (S : ℕ → Type 0) (from end : ℕ) (run : Run) : Type 0 where
  pub first : from ≤ run.low
  pub order : run.low ≤ run.high
  pub below : run.high < end
  pub before : (t : ℕ) → from ≤ t → t < run.low → ¬ S t
  pub inside : (t : ℕ) → run.low ≤ t → t ≤ run.high → S t
  pub after : run.high + 1 < end → ¬ S (run.high + 1)

-- all maximal runs of members from a number on and below an end, in order
abbrev pub AreRuns : (ℕ → Type 0) → ℕ → ℕ → List Run → Type 0
AreRuns S from end [] = (t : ℕ) → from ≤ t → t < end → ¬ S t
AreRuns S from end (run ∷ runs) = IsFirstRun S from end run × AreRuns S (run.high + 1) end runs

-- these are all runs, and at most this many
abbrev pub AreFewRuns : (ℕ → Type 0) → ℕ → ℕ → ℕ → List Run → Type 0
AreFewRuns S from end most runs = AreRuns S from end runs × (length runs ≤ most)

-- there are more runs than this below some earlier end
pub record HasMoreRuns (S : ℕ → Type 0) (from end most : ℕ) : Type 0 where
  pub stop : ℕ
  pub within : stop ≤ end
  pub runs : List Run
  pub are : AreRuns S from stop runs
  pub many : most < length runs

-- for each residue a bit: whether the numbers with this residue, from a number on, are in the set
pub record AreRests (S : ℕ → Type 0) (from q rests : ℕ) : Type 0 where
  pub small : rests < 2 ^ q
  pub tells : (t : ℕ) → from ≤ t → S t ↔ (bit_at rests (t % q) ≡ 1)

-- the least period of the set, the least start of its repetition, at most 2^100, the runs of positive members below, which can be
-- listed, and the residues of the members from there on
pub record IsPeriodic (S : ℕ → Type 0) (p : Periodic) : Type 0 where
  pub period : IsLeastPeriod S p.period
  pub from : IsLeastStart S p.period p.from
  pub near : p.from ≤ 2 ^ GREATEST_BITS
  pub runs : AreFewRuns S 1 p.from MOST_RUNS p.runs.items
  pub rests : AreRests S p.from p.period p.rests
