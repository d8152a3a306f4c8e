-- Conjunctions of a formula and short formulas, before their automata are built.
use Rattle.std.specs.Prelude.{◌≡◌, ℕ, ◌*◌, ◌≤◌, true, nat_lt, IsTrue, length}
use Rattle.limits.specs.declared.numbers.TheConstants.{MOST_TRACKS}
use Rattle.auto_core.specs.Automaton.{Automaton, IsAutomaton}
use Rattle.auto_core.specs.Reduced.{AllReached}
use Rattle.auto_walk.specs.declared.grown.Grown.{Grown}
use Rattle.auto_walk.specs.declared.grown.Grown.TheVariants as grown
use Rattle.lin_formula.specs.Tree.{Tree, And, HasStep, free_vars, symbols}
use Rattle.lin_formula.specs.TreeOf.{tree_of}
use Rattle.lin_formula.specs.SetOf.{SetOf, members, tables}
use Rattle.lin_formula.specs.declared.formula.Formula.{Formula}
use Rattle.formula_auto.specs.Decides.{Decides}
use Rattle.formula_auto.specs.Saying.{SaysTheSame}
use Rattle.formula_auto.specs.Step.{Exceeds}
use Rattle.formula_auto.specs.StepError.{step_error}
use Rattle.formula_auto.specs.MemoState.{MemoState}
use Rattle.formula_auto.specs.MeetState.{MeetState}
use Rattle.formula_auto.specs.PartOf.{IsPart}
use Rattle.formula_auto.specs.Remembered.{IsRemembered}
use Rattle.formula_auto.specs.Short.{is_short, IsShortPart}
use Rattle.formula_auto.specs.declared.chain.Extension.{Extension}
use Rattle.formula_auto.specs.declared.chain.Link.{Link}
use Rattle.formula_auto.specs.declared.chain.Link.TheVariants.{Made, Waiting}
use Rattle.formula_auto.specs.declared.chain.Pending.{Pending}
use Rattle.formula_auto.specs.declared.chain.ShortPart.{ShortPart}
use Rattle.formula_auto.specs.declared.standing.PartPosition.{PartPosition}
use Rattle.formula_auto.specs.declared.errors.CompileError.{CompileError}
use Rattle.formula_auto.specs.declared.part_auto.PartAuto.{PartAuto}
use Rattle.formula_auto.specs.declared.part_auto.Remembered.{Remembered}

-- the part has an automaton that decides the formula; each state is reached, and if the formula has a step, there are at most as
-- many states as the budget
pub record IsPartOf (f : Tree) (e : ℕ → SetOf) (m : MemoState) (l : MeetState) (part : PartAuto) : Type 0 where
  pub auto : Automaton
  pub has : IsPart m l part auto
  pub reached : AllReached auto
  pub few : HasStep f → length auto.accept ≤ m.budget
  pub decides : Decides auto f (members e)

-- the formula says what the base and the combined formulas say together, and the budget has room for all pairs of states of their
-- automata
pub record IsPending (f : Tree) (e : ℕ → SetOf) (m : MemoState) (l : MeetState) (pending : Pending) : Type 0 where
  pub left : Tree
  pub base : IsPartOf left e m l pending.base
  pub rest : IsShortPart m l (tree_of pending.rest.formula) pending.rest.part
  pub same : SaysTheSame f (And left (tree_of pending.rest.formula))
  pub few_vars : length (free_vars f) ≤ MOST_TRACKS
  pub base_valid : IsAutomaton base.auto
  pub rest_valid : IsAutomaton rest.auto
  pub room : length base.auto.accept * length rest.auto.accept ≤ m.budget

-- the link is of the formula
abbrev pub IsLink : Tree → (ℕ → SetOf) → MemoState → MeetState → Link → Type 0
IsLink f e m l (Made made) = IsPartOf f e m l made.part
IsLink f e m l (Waiting pending) = IsPending f e m l pending

-- the conjunction of the two has few variables
abbrev pub FitsAfter : Tree → Tree → Type 0
FitsAfter f g = length (free_vars (And f g)) ≤ MOST_TRACKS

-- the link is of a formula to which this one can be added
pub record TakesNext (m : MemoState) (l : MeetState) (link : Link) (g : Tree) : Type 0 where
  pub left : Tree
  pub sets : ℕ → SetOf
  pub is : IsLink left sets m l link
  pub fits : FitsAfter left g

-- the conjunction of the two does not exceed the budget, and the link is of it; an automaton that decides it exists, but need not
-- be built
pub record IsPutTo (f g : Tree) (e : ℕ → SetOf) (m : MemoState) (l : MeetState) (link : Link) : Type 0 where
  pub is : IsLink (And f g) e m l link
  pub auto : Automaton
  pub decides : Decides auto (And f g) (members e)
  pub within : ¬ Exceeds (And f g) (members e) m.budget

abbrev pub link_done : Link → ℕ
link_done (Made made) = made.done
link_done (Waiting pending) = pending.done

-- the part is of each formula that the postponed conjunction may be of
abbrev pub IsMadePart : MemoState → MeetState → Pending → PartAuto → Type 0
IsMadePart m l pending part = (f : Tree) (e : ℕ → SetOf) → IsPending f e m l pending → IsPartOf f e m l part

-- the automaton of a link, after as many steps
pub record IsMadeLink (m : MemoState) (l : MeetState) (link : Link) (made : Remembered) : Type 0 where
  pub done : made.done ≡ link_done link
  pub is : (f : Tree) (e : ℕ → SetOf) → IsLink f e m l link → IsPartOf f e m l made.part

-- after the step with this number the formula is added to each one that the link before may be of
pub record IsNextLink (m : MemoState) (l : MeetState) (before : Link) (g : Tree) (step : ℕ) (link : Link) : Type 0
  where
    pub done : link_done link ≡ step
    pub puts : (f : Tree) (e : ℕ → SetOf) → FitsAfter f g → IsLink f e m l before → IsPutTo f g e m l link

-- the step with this number exceeds the budget, or an allocation failed
pub record IsStepStopped (f g : Tree) (e : ℕ → SetOf) (budget step : ℕ) (why : CompileError) : Type 0 where
  pub cause : Grown
  pub is : why ≡ step_error step cause
  pub over : cause ≡ grown.Over → Exceeds (And f g) (members e) budget

abbrev pub IsNextStopped : MemoState → MeetState → Link → Tree → ℕ → CompileError → Type 0
IsNextStopped m l before g step why =
    (f : Tree) (e : ℕ → SetOf) → IsLink f e m l before → IsStepStopped f g e m.budget step why

-- with these combined formulas in place of its own, the postponed conjunction includes the formula, whatever the number of the step
abbrev pub IsLonger : MemoState → MeetState → Pending → Tree → ShortPart → Type 0
IsLonger m l pending g rest =
    (f : Tree) (e : ℕ → SetOf) (step : ℕ) → FitsAfter f g → IsPending f e m l pending
    → IsPutTo f g e m l (Waiting (record { base = pending.base; rest = rest; done = step }))

-- the link is postponed, with the short formula as its combined formulas
pub record IsBegunWith (base : PartAuto) (g : Tree) (part : PartAuto) (step : ℕ) (link : Link) : Type 0 where
  pub formula : Formula
  pub same : tree_of formula ≡ g
  pub is :
      link ≡ Waiting (record { base = base; rest = record { formula = formula; part = part }; done = step })

-- a valid automaton with this many states
pub record HasStates (a : Automaton) (states : ℕ) : Type 0 where
  pub valid : IsAutomaton a
  pub count : length a.accept ≡ states

-- the budget has room for all pairs of states of two automata
pub record HasRoom (a b : Automaton) (budget : ℕ) : Type 0 where
  pub left : IsAutomaton a
  pub right : IsAutomaton b
  pub room : length a.accept * length b.accept ≤ budget

-- the same for the automata of two parts
abbrev pub HaveRoom : MemoState → MeetState → PartAuto → PartAuto → Type 0
HaveRoom m l left right = (a b : Automaton) → IsPart m l left a → IsPart m l right b → HasRoom a b m.budget

-- no step of the formula exceeds the budget, the cache has processed it, and the link is of it
pub record IsLinkedOn (f : Tree) (standing : PartPosition) (old new : MemoState) (meets new_meets : MeetState)
    (link : Link) : Type 0 where
  pub auto : Automaton
  pub remembered : IsRemembered f (tables meets.sets) standing old new auto (link_done link)
  pub is : IsLink f (tables meets.sets) new new_meets link

abbrev pub and_of : Extension → Tree
and_of extension = And (tree_of extension.left.now) (tree_of extension.right.now)

-- the first formula names a set, and the second is short
pub record IsExtension (extension : Extension) : Type 0 where
  pub names : IsTrue (nat_lt 0 (length (symbols (tree_of extension.left.now))))
  pub short : is_short (tree_of extension.right.now) ≡ true
