-- The part of an automaton's set for which some formulas are false.
use Rattle.std.specs.Prelude.{◌≡◌, ◌<◌, ◌≤◌, ◌*◌, ◌^◌, ℕ, List, [], ◌∷◌, length, map, All}
use Rattle.limits.specs.declared.numbers.TheConstants.{MOST_TRACKS}
use Rattle.track_word.specs.declared.tracks.Var.{Var}
use Rattle.track_word.specs.Tracks.{with_vars}
use Rattle.auto_core.specs.Automaton.{Automaton, IsAutomaton}
use Rattle.lin_formula.specs.Tree.{Tree, Not, And, Or, steps}
use Rattle.lin_formula.specs.SetOf.{SetOf, tables, members}
use Rattle.formula_auto.specs.Decides.{Decides}
use Rattle.formula_auto.specs.Compiled.{IsAccessible, IsCompilable}
use Rattle.formula_auto.specs.Step.{Exceeds, StaysWithin}
use Rattle.shift_image.specs.Image.{IsAbout, and_all}
use Rattle.shift_image.specs.Laws.{AreClearWithin}
use Rattle.shift_image.specs.declared.leaving.Scope.{Scope}
use Rattle.shift_image.specs.declared.tuples.Tuples.{Tuples}

-- the third automaton decides the conjunction of any formula that the first one decides and the negation of one that the second one
-- decides; that step does not exceed the budget
pub record IsDifference (budget : ℕ) (a b c : Automaton) : Type 0 where
  pub tracks : c.tracks ≡ with_vars a.tracks b.tracks
  pub decides : (f g : Tree) (e : ℕ → SetOf) → Decides a f (members e) → Decides b g (members e)
      → Decides c (And f (Not g)) (members e)
  pub within : (f g : Tree) (e : ℕ → SetOf) → Decides a f (members e) → Decides b g (members e)
      → ¬ Exceeds (And f (Not g)) (members e) budget
  pub accessible : IsAccessible budget c

-- it can be compiled, and its free variables are tracks
pub record MayBeAsked (sets : List Automaton) (tracks : List Var) (g : Tree) : Type 0 where
  pub compilable : IsCompilable g sets
  pub few_steps : length (steps g) < 2 ^ 31
  pub about : IsAbout tracks g

-- the second automaton decides the conjunction of any formula that the first one decides and the negation of this one; no step
-- exceeds its budget
pub record IsLeftOf (e : ℕ → SetOf) (budget each : ℕ) (g : Tree) (a b : Automaton) : Type 0 where
  pub tracks : b.tracks ≡ a.tracks
  pub asked : StaysWithin g (members e) budget
  pub decides : (f : Tree) → Decides a f (members e) → Decides b (And f (Not g)) (members e)
  pub within : (f : Tree) → Decides a f (members e) → ¬ Exceeds (And f (Not g)) (members e) each
  pub accessible : IsAccessible each b

-- the same for several formulas in turn
abbrev pub AreLeftByTurns : (ℕ → SetOf) → ℕ → ℕ → List Tree → Automaton → Automaton → Type 0
AreLeftByTurns e budget each [] a b = b ≡ a
AreLeftByTurns e budget each (g ∷ gs) a b =
    (m : Automaton) × IsLeftOf e budget each g a m × AreLeftByTurns e budget each gs m b

-- the second automaton decides any formula that the first one decides, restricted to where none of these is true; no step of theirs
-- exceeds the budget, and none that subtracts them exceeds `each`
pub record AreLeftOf (e : ℕ → SetOf) (budget each : ℕ) (gs : List Tree) (a b : Automaton) : Type 0 where
  pub decides : (f : Tree) → Decides a f (members e) → Decides b (and_all f (map Not gs)) (members e)
  pub within : (f : Tree) → Decides a f (members e) → AreClearWithin f gs e budget each
  pub accessible : IsAccessible each a → IsAccessible each b

-- the disjunction of the formulas
abbrev pub some_of : Tree → List Tree → Tree
some_of g [] = g
some_of g (h ∷ hs) = Or g (some_of h hs)

-- the automaton decides the disjunction of the formulas
abbrev pub DecidesSome : List Tree → (ℕ → SetOf) → Automaton → Type 0
DecidesSome [] e a = ⊥
DecidesSome (g ∷ gs) e a = Decides a (some_of g gs) (members e)

-- the automaton decides the formula, no step of which exceeds the budget
pub record IsAnswer (e : ℕ → SetOf) (budget : ℕ) (g : Tree) (m : Automaton) : Type 0 where
  pub valid : IsAutomaton m
  pub decides : Decides m g (members e)
  pub within : StaysWithin g (members e) budget

-- each formula has such an automaton, and the number of tuples of their states, times the given count, is at most the limit
abbrev pub AreFew : (ℕ → SetOf) → ℕ → ℕ → List Tree → ℕ → Type 0
AreFew e budget most [] count = Unit {0}
AreFew e budget most (g ∷ gs) count =
    (m : Automaton) × IsAnswer e budget g m × (count * length m.accept ≤ most)
    × AreFew e budget most gs (count * length m.accept)

-- they can be compiled, and have few variables together
pub record MayAllBeAsked (sets : List Automaton) (gs : List Tree) : Type 0 where
  pub vars : List Var
  pub few : length vars ≤ MOST_TRACKS
  pub each : All (MayBeAsked sets vars) gs

-- over the sets of a scope, and with its budget for each automaton, the formulas are subtracted
abbrev pub AreLeftOver : Scope → ℕ → List Tree → Automaton → Automaton → Type 0
AreLeftOver scope budget gs a b = AreLeftOf (tables scope.sets.now) budget scope.each gs a b

-- the same, one after another
abbrev pub AreLeftInTurn : Scope → ℕ → List Tree → Automaton → Automaton → Type 0
AreLeftInTurn scope budget gs a b = AreLeftByTurns (tables scope.sets.now) budget scope.each gs a b

-- the same for one formula
abbrev pub IsLeftOver : Scope → ℕ → Tree → Automaton → Automaton → Type 0
IsLeftOver scope budget g a b = IsLeftOf (tables scope.sets.now) budget scope.each g a b

-- over the sets of a scope, it decides the formula
abbrev pub IsAnswered : Scope → ℕ → Tree → Automaton → Type 0
IsAnswered scope budget g m = IsAnswer (tables scope.sets.now) budget g m

-- over the sets of a scope, it decides the disjunction
abbrev pub IsSomeOver : Scope → List Tree → Automaton → Type 0
IsSomeOver scope gs a = DecidesSome gs (tables scope.sets.now) a

-- their automata have at most as many tuples of states as the limit
abbrev pub AreFewOver : Scope → ℕ → List Tree → Tuples → Type 0
AreFewOver scope budget gs before = AreFew (tables scope.sets.now) budget before.most gs before.count
