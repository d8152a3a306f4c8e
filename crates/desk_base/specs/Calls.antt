-- Calls that fail on purpose.
use Rattle.std.specs.Prelude.{ℕ, ◌+◌, ◌-◌, ◌^◌, ◌<◌, List, min, Contains}

-- the number of calls so far, the numbers of those that fail, counted from 1, and the count of faults
pub record Calls : Type 0 where
  pub made : ℕ
  pub fail : List ℕ
  pub faults : ℕ

-- The next call has a number, and the list contains it. Calls after number 2^32 - 1 have none.
abbrev pub IsListed : Calls → Type 0
IsListed calls = (calls.made < 2 ^ 32 - 1) × Contains calls.fail (calls.made + 1)

-- before the first call
abbrev pub no_calls : List ℕ → Calls
no_calls fail = record { made = 0; fail = fail; faults = 0 }

-- after one more call
abbrev pub one_more : Calls → Calls
one_more calls = record { made = min (calls.made + 1) (2 ^ 32 - 1); fail = calls.fail; faults = calls.faults }

-- after one more call that failed
abbrev pub one_more_failed : Calls → Calls
one_more_failed calls =
    record { made = min (calls.made + 1) (2 ^ 32 - 1); fail = calls.fail; faults = min (calls.faults + 1) (2 ^ 64 - 1) }
