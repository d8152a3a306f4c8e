-- The numbers of bits by which states reach a flag, and the numbers that reach it from the start.
use Rattle.std.specs.Prelude.{◌≡◌, ℕ, ◌+◌, ◌^◌, ◌<◌, ◌≤◌, Bool, true, false, List, length, slice_index}
use Rattle.std.specs.Int.{bit_at}
use Rattle.auto_core.specs.Automaton.{Automaton}
use Rattle.auto_numbers.specs.Numbers.{Has}
use Rattle.auto_numbers.specs.Reading.{LeadsNone}

-- by the flag, the number is in the set or is not
abbrev pub IsSide : Automaton → Bool → ℕ → Type 0
IsSide a true t = Has a t
IsSide a false t = ¬ Has a t

-- a bit for each number of bits up to a maximum: whether some number of this many bits leads from the state to the flag
pub record IsMask (a : Automaton) (flag : Bool) (most state mask : ℕ) : Type 0 where
  pub small : mask < 2 ^ (most + 1)
  pub some : (bits : ℕ) → bits ≤ most → bit_at mask bits ≡ 1 → ¬ LeadsNone a flag state bits 0
  pub none : (bits : ℕ) → bits ≤ most → bit_at mask bits ≡ 0 → LeadsNone a flag state bits 0

-- the masks of the first states
pub record AreMasks (a : Automaton) (flag : Bool) (most count : ℕ) (masks : List ℕ) : Type 0 where
  pub size : length masks ≡ count
  pub each : (state : ℕ) → state < count → IsMask a flag most state (slice_index masks state)
