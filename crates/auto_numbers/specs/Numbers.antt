-- Natural numbers in the set of an automaton of one track.
use Rattle.std.specs.Prelude.{◌⊎◌, ℕ, ◌^◌, ◌<◌, ◌≤◌, [], ◌∷◌, pos, Option, MatchOption}
use Rattle.auto_core.specs.Automaton.{Automaton}
use Rattle.auto_core.specs.Integers.{IsAccepted}
use Rattle.auto_numbers.specs.declared.bits.TheConstants.{MOST_BITS, GREATEST_BITS}
use Rattle.auto_numbers.specs.declared.largest.Greatest.{Greatest}
use Rattle.auto_numbers.specs.declared.largest.Greatest.TheVariants.{Nothing, Number, Far, Endless}

-- the number is in the set
abbrev pub Has : Automaton → ℕ → Type 0
Has a t = IsAccepted a (pos t ∷ [])

abbrev pub IsInOrNot : Automaton → ℕ → Type 0
IsInOrNot a t = Has a t ⊎ (¬ Has a t)

-- the least number from a number on with the property, if it has few enough bits
pub record IsNext (P : ℕ → Type 0) (low found : ℕ) : Type 0 where
  pub from : low ≤ found
  pub small : found < 2 ^ MOST_BITS
  pub holds : P found
  pub least : (t : ℕ) → low ≤ t → P t → found ≤ t

-- that number, or none if no number of few enough bits has the property
abbrev pub IsNextFound : (ℕ → Type 0) → ℕ → Option ℕ → Type 0
IsNextFound P low found = MatchOption found ((t : ℕ) → low ≤ t → t < 2 ^ MOST_BITS → ¬ P t) (IsNext P low)

-- no greater number has the property
pub record IsGreatestOf (P : ℕ → Type 0) (found : ℕ) : Type 0 where
  pub holds : P found
  pub most : (t : ℕ) → P t → t ≤ found

-- no number beyond some bound has the property, but one with too many bits does
pub record IsFar (P : ℕ → Type 0) : Type 0 where
  pub bound : ℕ
  pub bounded : (t : ℕ) → P t → t ≤ bound
  pub far : ℕ
  pub holds : P far
  pub large : 2 ^ GREATEST_BITS ≤ far

-- beyond each number there is one with the property
abbrev pub IsEndless : (ℕ → Type 0) → Type 0
IsEndless P = (bound : ℕ) → (t : ℕ) × (bound ≤ t) × P t

-- the greatest positive number with the property, if there is one
abbrev pub IsGreatest : (ℕ → Type 0) → Greatest → Type 0
IsGreatest P Nothing = (t : ℕ) → 1 ≤ t → ¬ P t
IsGreatest P (Number most) = (1 ≤ most) × (most < 2 ^ GREATEST_BITS) × IsGreatestOf P most
IsGreatest P Far = IsFar P
IsGreatest P Endless = IsEndless P
