-- Sets that a program has computed.
use Rattle.std.specs.Prelude.{◌≡◌, ◌<◌, ◌≤◌, ℕ, List, [], ◌∷◌, length, Option, Some, None, IfSome, slice_get}
use Rattle.std.specs.Borrow.{Bor}
use Rattle.limits.specs.declared.numbers.TheConstants.{MOST_STATES}
use Rattle.track_word.specs.declared.tracks.Var.{Var}
use Rattle.auto_core.specs.Automaton.{Automaton}
use Rattle.auto_core.specs.Integers.{DecidesIntegers}
use Rattle.auto_core.specs.Reduced.{AllReached, IsReduced}
use Rattle.lin_formula.specs.Tree.{Tree, free_vars, steps}
use Rattle.lin_formula.specs.declared.formula.SetId.{SetId}
use Rattle.lin_formula.specs.SetOf.{SetOf, Nothing, Table, as_set, tables}
use Rattle.formula_auto.specs.Compiled.{IsCompilable}
use Rattle.set_plan.specs.Program.{Item}
use Rattle.set_plan.specs.Same.{SameSets}
use Rattle.set_plan.specs.declared.left.Left.{Left}
use Rattle.set_plan.specs.declared.left.Left.TheVariants.{Whole, Part}
use Rattle.set_plan.specs.declared.made.Made.{Made}

-- the automaton decides a set of integer tuples, with one value for each of the tracks
pub record DecidesOn (tracks : List Var) (a : Automaton) : Type 0 where
  pub integers : DecidesIntegers a
  pub tracks_are : a.tracks ≡ tracks

-- in addition, it is minimal, with at most as many states as the greatest budget
pub record IsSetOn (tracks : List Var) (a : Automaton) : Type 0 where
  pub reduced : IsReduced a
  pub decides : DecidesOn tracks a
  pub few : length a.accept ≤ MOST_STATES

-- the same over the free variables of a formula; its number of states is limited only if the formula has a step
pub record IsSetBy (f : Tree) (a : Automaton) : Type 0 where
  pub reduced : IsReduced a
  pub decides : DecidesOn (free_vars f) a
  pub few : 0 < length (steps f) → length a.accept ≤ MOST_STATES

-- each of its states is reached; it need not be minimal
pub record IsReachedOn (tracks : List Var) (a : Automaton) : Type 0 where
  pub reached : AllReached a
  pub decides : DecidesOn tracks a
  pub few : length a.accept ≤ MOST_STATES

-- the second automaton has the tuples of the first, and is minimal
pub record IsReductionOf (a r : Automaton) : Type 0 where
  pub same : SameSets (Table a) (Table r)
  pub set : (tracks : List Var) → IsReachedOn tracks a → IsSetOn tracks r

-- there is no set, or it is the minimal one
abbrev pub IsReducedSet : Option Automaton → Option Automaton → Type 0
IsReducedSet None set = set ≡ None
IsReducedSet (Some a) set = (r : Automaton) × (set ≡ Some r) × IsReductionOf a r

-- the same number, and the set minimized, if there is one
abbrev pub IsReducedMade : Made → Made → Type 0
IsReducedMade made other = (other.at ≡ made.at) × IsReducedSet made.set other.set

-- an item whose symbols denote the automata of a table
abbrev pub item_of : List Automaton → Tree → Item
item_of sets f = record { formula = f; sets = tables sets }

-- the set, and the number of the next step
abbrev pub made_of : Made → SetOf × ℕ
made_of made = (as_set made.set, made.at)

-- a formula over these tracks that can be compiled over the table, with at least one and fewer than a thousand steps
pub record IsItemOn (tracks : List Var) (sets : List Automaton) (f : Tree) : Type 0 where
  pub compilable : IsCompilable f sets
  pub some : 0 < length (steps f)
  pub few : length (steps f) < 1000
  pub over : free_vars f ≡ tracks

-- the set of a borrowed automaton, if there is one
abbrev pub lent : Option (Bor Automaton) → SetOf
lent None = Nothing
lent (Some a) = Table a.now

abbrev pub left_of : SetOf → Left → SetOf
left_of s Whole = s
left_of s (Part set) = as_set set

abbrev pub IsLeftOn : List Var → Left → Type 0
IsLeftOn tracks Whole = Unit {0}
IsLeftOn tracks (Part set) = IfSome set (IsSetOn tracks)

-- each set of the first table is in the second one under the same number
abbrev pub Grows : List Automaton → List Automaton → Type 0
Grows old new = (k : ℕ) (a : Automaton) → slice_get old k ≡ Some a → slice_get new k ≡ Some a

-- the stored set, if there is one
abbrev pub kept_of : Option Automaton → List Automaton
kept_of None = []
kept_of (Some a) = a ∷ []

-- the set with a name, if there is one
abbrev pub set_at : List Automaton → Option SetId → SetOf
set_at sets None = Nothing
set_at sets (Some id) = tables sets id.0

-- there is no name, or it is that of a set over these tracks
abbrev pub IsNameOn : List Var → List Automaton → Option SetId → Type 0
IsNameOn tracks sets None = Unit {0}
IsNameOn tracks sets (Some id) = (a : Automaton) × (slice_get sets id.0 ≡ Some a) × IsSetOn tracks a
