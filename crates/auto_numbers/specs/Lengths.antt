-- The maximum number of bits by which states reach acceptance.
use Rattle.std.specs.Prelude.{◌≡◌, ℕ, ◌+◌, ◌^◌, ◌<◌, ◌≤◌, max, nat_lt, if◌then◌else◌, Bool, true, false, List, length, slice_index_or}
use Rattle.std.specs.List.{count_by}
use Rattle.auto_core.specs.Automaton.{Automaton, next_state}
use Rattle.auto_numbers.specs.declared.length.TheConstants.{LONGEST}
use Rattle.auto_numbers.specs.declared.length.Length.{Length}
use Rattle.auto_numbers.specs.declared.length.Length.TheVariants.{Unknown, Nothing, UpTo, Long}
use Rattle.auto_numbers.specs.Reading.{LeadsNone, LeadsSome, LeadsMost}

-- some bits lead to acceptance
abbrev pub IsAlive : Automaton → ℕ → Type 0
IsAlive a state = (bits : ℕ) × LeadsSome a true state bits

-- at most this many bits lead to acceptance
abbrev pub IsWithin : Automaton → ℕ → ℕ → Type 0
IsWithin a state most = (bits : ℕ) → most < bits → LeadsNone a true state bits 0

-- this many bits lead to acceptance, and no more
pub record IsLongest (a : Automaton) (state most : ℕ) : Type 0 where
  pub some : LeadsSome a true state most
  pub within : IsWithin a state most

-- the maximum exists, and is greater than the represented ones
pub record IsLong (a : Automaton) (state : ℕ) : Type 0 where
  pub bits : ℕ
  pub many : LONGEST < bits
  pub some : LeadsSome a true state bits
  pub most : ℕ
  pub within : IsWithin a state most

-- what is known of a state; if nothing is known yet, some bits lead to acceptance
abbrev pub IsLength : Automaton → ℕ → Length → Type 0
IsLength a state Unknown = IsAlive a state
IsLength a state Nothing = (bits : ℕ) → LeadsNone a true state bits 0
IsLength a state (UpTo most) = (most ≤ LONGEST) × IsLongest a state most
IsLength a state Long = IsLong a state

pub record AreLengths (a : Automaton) (lengths : List Length) : Type 0 where
  pub size : length lengths ≡ length a.accept
  pub each : (state : ℕ) → state < length a.accept → IsLength a state (slice_index_or lengths state Unknown)

-- a bit leads from a state of unknown length to another one
pub record GoesOn (a : Automaton) (lengths : List Length) (state : ℕ) : Type 0 where
  pub bit : ℕ
  pub is_bit : bit < 2
  pub unknown : slice_index_or lengths (next_state a state bit) Unknown ≡ Unknown

-- this is so for each state of unknown length
pub record IsSettled (a : Automaton) (lengths : List Length) : Type 0 where
  pub on : (state : ℕ) → state < length a.accept → slice_index_or lengths state Unknown ≡ Unknown
      → GoesOn a lengths state

abbrev pub is_unknown : Length → Bool
is_unknown Unknown = true
is_unknown Nothing = false
is_unknown (UpTo most) = false
is_unknown Long = false

-- the number of states of unknown length
abbrev pub unknowns : List Length → ℕ
unknowns lengths = count_by is_unknown lengths

-- the greater of two known lengths
abbrev pub longer_of : Length → Length → Length
longer_of Unknown other = Unknown
longer_of Nothing other = other
longer_of (UpTo most) Unknown = Unknown
longer_of (UpTo most) Nothing = UpTo most
longer_of (UpTo most) (UpTo other) = UpTo (max most other)
longer_of (UpTo most) Long = Long
longer_of Long Unknown = Unknown
longer_of Long Nothing = Long
longer_of Long (UpTo other) = Long
longer_of Long Long = Long

-- the length with one bit added in front
abbrev pub after_one : Length → Length
after_one Unknown = Unknown
after_one Nothing = Nothing
after_one (UpTo most) = if nat_lt most LONGEST then UpTo (most + 1) else Long
after_one Long = Long

-- the length of a state, given its flag
abbrev pub with_flag : Bool → Length → Length
with_flag true Nothing = UpTo 0
with_flag true Unknown = Unknown
with_flag true (UpTo most) = UpTo most
with_flag true Long = Long
with_flag false length = length

-- a bit 1 followed by the greatest number of this many bits by which the state reaches acceptance
pub record IsGreatestAfterOne (a : Automaton) (state bits found : ℕ) : Type 0 where
  pub rest : ℕ
  pub is : found ≡ 2 ^ bits + rest
  pub most : LeadsMost a true state bits rest
