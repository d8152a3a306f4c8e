-- Sets of tuples as data.
use Rattle.std.specs.Prelude.{◌≡◌, ◌⊎◌, ℕ, List, [], ◌∷◌, ℤ, Option, Some, None, slice_get}
use Rattle.track_word.specs.declared.tracks.Var.{Var}
use Rattle.track_word.specs.Tracks.{Values, values_at}
use Rattle.auto_core.specs.Automaton.{Automaton}
use Rattle.auto_core.specs.Integers.{IsAccepted}
use Rattle.lin_formula.specs.Tree.{Tree, free_vars}
use Rattle.lin_formula.specs.Holds.{Sets, Holds}

-- the empty set, the set of an automaton, or the tuples for which a formula is true whose set symbols denote such sets
pub data SetOf : Type 0 where
  Nothing : SetOf
  Table : Automaton → SetOf
  Where : Tree → (ℕ → SetOf) → SetOf

-- the variables have this tuple as their values, for some values with the property
pub record HoldsAt (vars : List Var) (P : Values → Type 0) (tuple : List ℤ) : Type 0 where
  pub values : Values
  pub is_tuple : values_at vars values ≡ tuple
  pub holds : P values

abbrev pub Member : SetOf → List ℤ → Type 0
Member Nothing tuple = ⊥
Member (Table a) tuple = IsAccepted a tuple
Member (Where f e) tuple = HoldsAt (free_vars f) (Holds f (λ k. Member (e k))) tuple

-- the sets that the symbols denote
abbrev pub members : (ℕ → SetOf) → Sets
members e k = Member (e k)

abbrev pub IsEmpty : SetOf → Type 0
IsEmpty s = (tuple : List ℤ) → Member s tuple → ⊥

-- the set of an automaton, if there is one
abbrev pub as_set : Option Automaton → SetOf
as_set None = Nothing
as_set (Some a) = Table a

-- the sets of a list of automata; a set's symbol is its index
abbrev pub tables : List Automaton → ℕ → SetOf
tables sets k = as_set (slice_get sets k)

abbrev pub SomeEmpty : List SetOf → Type 0
SomeEmpty [] = ⊥
SomeEmpty (s ∷ sets) = IsEmpty s ⊎ SomeEmpty sets

abbrev pub NoneEmpty : List SetOf → Type 0
NoneEmpty [] = Unit {0}
NoneEmpty (s ∷ sets) = (¬ IsEmpty s) × NoneEmpty sets
