-- Laws of images and of their computation.
use Rattle.std.specs.Prelude.{◌≡◌, ◌↔◌, ℕ, ℤ, pos, negsuc, suc, zero, ◌*◌, ◌≤◌, List, [], ◌∷◌, length, map, None}
use Rattle.track_word.specs.Tracks.{Values, place}
use Rattle.auto_core.specs.Automaton.{Automaton, IsAutomaton}
use Rattle.auto_core.specs.Integers.{DecidesIntegers}
use Rattle.lin_formula.specs.Tree.{Tree, Not, And, free_vars, steps}
use Rattle.lin_formula.specs.Holds.{Holds}
use Rattle.lin_formula.specs.SetOf.{SetOf, Table, tables, members}
use Rattle.formula_auto.specs.Decides.{Decides}
use Rattle.formula_auto.specs.Saying.{SaysTheSame}
use Rattle.formula_auto.specs.Compiled.{IsCompiledOn}
use Rattle.formula_auto.specs.Nodes.{DecidesAmong}
use Rattle.formula_auto.specs.Step.{Exceeds, FirstOver}
use Rattle.auto_shift.specs.Moved.{DecidesMoved}
use Rattle.shift_image.specs.Equations.{colours}
use Rattle.shift_image.specs.declared.shift.ValueShift.{ValueShift}
use Rattle.shift_image.specs.Image.{Image, IsShiftable, image_tree, moved_tree, part_tree, moved_vars, equation_of}

-- the automaton was compiled over these sets, within this budget
abbrev pub IsCompiledOver : Tree → List Automaton → ℕ → Automaton → Type 0
IsCompiledOver f sets budget a = IsCompiledOn f (tables sets) 0 budget a

abbrev pub ImageSaysPart : Type 0
ImageSaysPart = (i : Image) → IsShiftable i → SaysTheSame (image_tree i) (part_tree i)

abbrev pub negated : ℤ → ℤ
negated (pos zero) = pos zero
negated (pos (suc n)) = negsuc n
negated (negsuc n) = pos (suc n)

-- the second automaton accepts a shifted tuple if and only if the first accepts the tuple before the shift
abbrev pub IsMovedBy : List ValueShift → Automaton → Automaton → Type 0
IsMovedBy [] a b = b ≡ a
IsMovedBy (s ∷ shifts) a b =
    (m : Automaton) × DecidesMoved a m (place a.tracks s.new) (negated s.by) × IsMovedBy shifts m b

-- the second automaton decides the shifted set, if the first one is the set, whatever the other names denote
abbrev pub IsMovedSet : Image → Automaton → Automaton → Type 0
IsMovedSet i set b = (e : ℕ → SetOf) → e i.set ≡ Table set → Decides b (moved_tree i) (members e)

abbrev pub MovedSetIsDecided : Type 0
MovedSetIsDecided =
    (i : Image) (e : ℕ → SetOf) (set a b : Automaton) → IsShiftable i → e i.set ≡ Table set
    → DecidesAmong set (moved_vars i) a → IsMovedBy i.shifts a b → Decides b (moved_tree i) (members e)

-- the number of ways in which the changes can be left undecided, one after another
abbrev pub start_colours : List ValueShift → ℕ
start_colours [] = 1
start_colours (s ∷ shifts) = colours (equation_of s ∷ []) * start_colours shifts

abbrev pub change_colours : List ValueShift → ℕ
change_colours shifts = colours (map equation_of shifts)

-- no step of the other formulas exceeds the budget, and no step that subtracts them exceeds `each`
abbrev pub AreClearWithin : Tree → List Tree → (ℕ → SetOf) → ℕ → ℕ → Type 0
AreClearWithin f [] e budget each = Unit {0}
AreClearWithin f (g ∷ gs) e budget each =
    FirstOver (steps g) (members e) budget 1 None × (¬ Exceeds (And f (Not g)) (members e) each)
    × AreClearWithin (And f (Not g)) gs e budget each

pub record HasFewStates (i : Image) (e : ℕ → SetOf) (budget each : ℕ) : Type 0 where
  pub set : Automaton
  pub is_set : e i.set ≡ Table set
  pub valid : IsAutomaton set
  pub arity : length i.vars ≡ length set.tracks
  pub integers : DecidesIntegers set
  pub start : start_colours i.shifts * length set.accept ≤ budget
  pub changes : change_colours i.shifts * each ≤ budget
  pub clear : AreClearWithin (moved_tree i) i.clear e budget each
  pub part : Automaton
  pub is_part : IsAutomaton part
  pub decides : Decides part (part_tree i) (members e)
  pub few : length part.accept ≤ each

abbrev pub StepsAreWithin : Type 0
StepsAreWithin =
    (i : Image) (e : ℕ → SetOf) (budget each : ℕ) → IsShiftable i → HasFewStates i e budget each
    → FirstOver (steps (image_tree i)) (members e) budget 1 None
