-- The entries of a cache, and how they change.
use Rattle.std.specs.Prelude.{◌≡◌, ◌⊎◌, ℕ, ◌+◌, ◌-◌, ◌≤◌, ◌<◌, ◌^◌, min, nat_lt, if◌then◌else◌, IsTrue, List, [], ◌∷◌, ◌++◌, map, length, All, Contains, Some, slice_get}
use Rattle.limits.specs.declared.numbers.TheConstants.{MOST_STATES}
use Rattle.auto_core.specs.Automaton.{Automaton}
use Rattle.auto_core.specs.Reduced.{IsReduced}
use Rattle.lin_formula.specs.Tree.{Tree}
use Rattle.lin_formula.specs.TreeOf.{tree_of}
use Rattle.lin_formula.specs.declared.formula.Formula.{Formula}
use Rattle.lin_formula.specs.SetOf.{SetOf, members}
use Rattle.formula_auto.specs.Step.{StaysWithin}
use Rattle.formula_auto.specs.Decides.{Decides}
use Rattle.formula_auto.specs.PlainParts.{is_plain, plain_within}
use Rattle.formula_auto.specs.declared.errors.CompileError.{CompileError}
use Rattle.formula_auto.specs.declared.errors.CompileError.TheVariants as compile_error

-- a budget, formulas with their automata in the order of insertion, and the number of cache hits
pub record MemoState : Type 0 where
  pub budget : ℕ
  pub entries : List (Formula × Automaton)
  pub found : ℕ

-- a plain formula whose steps are all within the budget, and a minimal automaton that decides it for any sets, with at most as many
-- states as the budget
pub record IsEntry (budget : ℕ) (f : Tree) (a : Automaton) : Type 0 where
  pub plain : IsTrue (is_plain f)
  pub reduced : IsReduced a
  pub few : length a.accept ≤ budget
  pub decides : (e : ℕ → SetOf) → Decides a f (members e)
  pub within : (e : ℕ → SetOf) → StaysWithin f (members e) budget

pub record IsMemo (m : MemoState) : Type 0 where
  pub least : 1 ≤ m.budget
  pub most : m.budget ≤ MOST_STATES
  pub few : length m.entries < 2 ^ 32
  pub entries : All (λ entry. IsEntry m.budget (tree_of entry.0) entry.1) m.entries

-- the entry at this index is of the formula
pub record IsEntryAt (m : MemoState) (f : Tree) (place : ℕ) : Type 0 where
  pub formula : Formula
  pub auto : Automaton
  pub there : slice_get m.entries place ≡ Some (formula, auto)
  pub same : tree_of formula ≡ f
  pub entry : IsEntry m.budget f auto

-- the formulas of the entries
abbrev pub known : MemoState → List Tree
known m = map (λ entry. tree_of entry.0) m.entries

-- the formula has an entry
abbrev pub IsKnown : MemoState → Tree → Type 0
IsKnown m f = Contains (known m) f

-- one more, limited to 64 bits
abbrev pub counted : ℕ → ℕ
counted n = min (n + 1) (2 ^ 64 - 1)

-- with one more at the end, unless there are 2^32 - 1
abbrev pub with_entry : {X : Type 0} → List X → X → List X
with_entry xs x = if nat_lt (length xs) (2 ^ 32 - 1) then xs ++ x ∷ [] else xs

-- from known formulas and a count of hits to the same after these formulas in order: a known one counts as a hit, another one is
-- stored
abbrev pub Passes : List Tree → ℕ → List Tree → List Tree → ℕ → Type 0
Passes fs found [] gs then_found = (gs ≡ fs) × (then_found ≡ found)
Passes fs found (f ∷ more) gs then_found =
    (Contains fs f × Passes fs (counted found) more gs then_found)
    ⊎ ((¬ Contains fs f) × Passes (with_entry fs f) found more gs then_found)

-- the cache after these formulas in order: the same budget, with the old entries followed by new ones
pub record IsMemoAfter (old new : MemoState) (fs : List Tree) : Type 0 where
  pub budget : new.budget ≡ old.budget
  pub added : List (Formula × Automaton)
  pub entries : new.entries ≡ old.entries ++ added
  pub passes : Passes (known old) old.found fs (known new) new.found

-- each entry keeps its index
abbrev pub KeepsEntries : MemoState → MemoState → Type 0
KeepsEntries old new =
    (place : ℕ) (entry : Formula × Automaton) → slice_get old.entries place ≡ Some entry → slice_get new.entries place ≡ Some entry

-- if a step exceeds the budget, the plain subformulas that end before it are processed; if an allocation failed, those
-- that ended within some steps
abbrev pub IsMemoStopped : MemoState → MemoState → Tree → CompileError → Type 0
IsMemoStopped old new f (compile_error.Over step) = IsMemoAfter old new (plain_within f (step - 1))
IsMemoStopped old new f compile_error.Memory = (done : ℕ) × IsMemoAfter old new (plain_within f done)
