-- The automaton of a part of a formula: its own, or one of a cache.
use Rattle.std.specs.Prelude.{◌≡◌, ◌≤◌, ℕ, Some, slice_get, List, length}
use Rattle.auto_core.specs.Automaton.{Automaton}
use Rattle.auto_core.specs.Reduced.{AllReached}
use Rattle.track_word.specs.declared.tracks.Var.{Var}
use Rattle.lin_formula.specs.Tree.{Tree, Among, HasStep}
use Rattle.lin_formula.specs.declared.formula.Formula.{Formula}
use Rattle.lin_formula.specs.SetOf.{SetOf, members, tables}
use Rattle.formula_auto.specs.Decides.{Decides}
use Rattle.formula_auto.specs.MemoState.{MemoState}
use Rattle.formula_auto.specs.MeetState.{MeetState}
use Rattle.formula_auto.specs.Remembered.{IsRemembered, IsInterrupted}
use Rattle.formula_auto.specs.declared.standing.PartPosition.{PartPosition}
use Rattle.formula_auto.specs.declared.errors.CompileError.{CompileError}
use Rattle.formula_auto.specs.declared.part_auto.PartAuto.{PartAuto}
use Rattle.formula_auto.specs.declared.part_auto.PartAuto.TheVariants.{Fresh, Kept, Paired, Named, Shared}
use Rattle.formula_auto.specs.declared.part_auto.Remembered.{Remembered}

-- the part's own automaton, a shared one, the cached one at its index, or the set with its name
abbrev pub IsPart : MemoState → MeetState → PartAuto → Automaton → Type 0
IsPart m l (Fresh a) b = a ≡ b
IsPart m l (Kept place) b = (f : Formula) × (slice_get m.entries place ≡ Some (f, b))
IsPart m l (Paired place) b = (f : Formula) × (slice_get l.pairs place ≡ Some (f, b))
IsPart m l (Named set) b = slice_get l.sets set.0 ≡ Some b
IsPart m l (Shared auto) b = auto.value ≡ b

-- the same cache entry, or the same set of the table
abbrev pub IsSamePlace : PartAuto → PartAuto → Type 0
IsSamePlace (Kept place) (Kept other) = place ≡ other
IsSamePlace (Paired place) (Paired other) = place ≡ other
IsSamePlace (Named set) (Named other) = set.0 ≡ other.0
IsSamePlace _ _ = ⊥

-- the part has an automaton that decides whether these variables are in the set with a number, each of whose states is reached
pub record IsMembership (l : MeetState) (number : ℕ) (vars : List Var) (part : PartAuto) : Type 0 where
  pub auto : Automaton
  pub has : (m : MemoState) → IsPart m l part auto
  pub reached : AllReached auto
  pub decides : Decides auto (Among number vars) (members (tables l.sets))

-- the part has the automaton that compiling it returns; each state is reached, and if the part has a step, there are at most as
-- many states as the budget
pub record IsRememberedPart (f : Tree) (e : ℕ → SetOf) (standing : PartPosition) (old new : MemoState)
    (meets : MeetState) (made : Remembered) : Type 0 where
  pub auto : Automaton
  pub has : IsPart new meets made.part auto
  pub reached : AllReached auto
  pub few : HasStep f → length auto.accept ≤ old.budget
  pub remembered : IsRemembered f e standing old new auto made.done

-- the part has the automaton that compiling it over a `MeetTable` returns
abbrev pub IsRememberedOn : Tree → PartPosition → MemoState → MemoState → MeetState → MeetState → Remembered → Type 0
IsRememberedOn f standing old new meets new_meets made =
    IsRememberedPart f (tables meets.sets) standing old new new_meets made

-- why a part has no automaton over a `MeetTable`, and the cache then
abbrev pub IsInterruptedOn : Tree → PartPosition → MemoState → MemoState → MeetState → CompileError → Type 0
IsInterruptedOn f standing old new meets why = IsInterrupted f (tables meets.sets) standing old new why
