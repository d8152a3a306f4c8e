-- Single nodes of a formula: the automaton of a node, from those of its parts.
use Rattle.std.specs.Prelude.{◌≡◌, ◌≤◌, ℕ, List, length}
use Rattle.track_word.specs.declared.tracks.Var.{Var}
use Rattle.auto_core.specs.Automaton.{Automaton}
use Rattle.auto_core.specs.Words.{HasSameWords}
use Rattle.auto_bool.specs.Words.{StepExceeds}
use Rattle.lin_formula.specs.Tree.{Tree, Among, Not, Ex}
use Rattle.lin_formula.specs.SetOf.{SetOf, Table, members}
use Rattle.formula_auto.specs.Decides.{Decides}
use Rattle.formula_auto.specs.Connected.{connect}
use Rattle.auto_bool.specs.declared.connective.Connective.{Connective}

-- decides whether these variables are in the automaton's set, under any name
abbrev pub DecidesAmong : Automaton → List Var → Automaton → Type 0
DecidesAmong set vars a =
    (e : ℕ → SetOf) (number : ℕ) → e number ≡ Table set → Decides a (Among number vars) (members e)

-- both automata accept the same words over the same tracks
pub record AcceptSame (a c : Automaton) : Type 0 where
  pub tracks : c.tracks ≡ a.tracks
  pub words : HasSameWords a c

-- the first automaton has at most as many states as the second
abbrev pub IsNoLarger : Automaton → Automaton → Type 0
IsNoLarger c a = length c.accept ≤ length a.accept

-- it decides the negation of each formula that the first one decides
abbrev pub DecidesNot : Automaton → Automaton → Type 0
DecidesNot a c = (f : Tree) (e : ℕ → SetOf) → Decides a f (members e) → Decides c (Not f) (members e)

-- it decides the projection of each such formula
abbrev pub DecidesEx : Var → Automaton → Automaton → Type 0
DecidesEx x a c = (f : Tree) (e : ℕ → SetOf) → Decides a f (members e) → Decides c (Ex x f) (members e)

-- the third automaton decides the connective of each formula that the first one decides and each that the second one decides
abbrev pub DecidesBoth : Connective → Automaton → Automaton → Automaton → Type 0
DecidesBoth connective a b c =
    (f g : Tree) (e : ℕ → SetOf) → Decides a f (members e) → Decides b g (members e)
    → Decides c (connect connective f g) (members e)

-- the third automaton decides the connective of what the first two decide; neither it nor the step exceeds the budget
pub record IsStepWithin (connective : Connective) (a b : Automaton) (budget : ℕ) (c : Automaton) : Type 0 where
  pub decides : DecidesBoth connective a b c
  pub few : length c.accept ≤ budget
  pub within : ¬ StepExceeds a b budget
