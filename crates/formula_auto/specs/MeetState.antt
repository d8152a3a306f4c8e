-- The conjunctions built over one table of sets, and how they grow.
use Rattle.std.specs.Prelude.{◌≡◌, ℕ, Bool, true, false, ◌&&◌, IsTrue, List, ◌++◌, All, Some, slice_get}
use Rattle.auto_core.specs.Automaton.{Automaton}
use Rattle.lin_formula.specs.Tree.{Tree, Among, And}
use Rattle.lin_formula.specs.TreeOf.{tree_of}
use Rattle.lin_formula.specs.declared.formula.Formula.{Formula}
use Rattle.lin_formula.specs.SetOf.{tables}
use Rattle.formula_auto.specs.Compiled.{IsMade, IsAccessible}

-- a table of sets, a budget, and formulas with their automata in the order of insertion
pub record MeetState : Type 0 where
  pub sets : List Automaton
  pub budget : ℕ
  pub pairs : List (Formula × Automaton)

abbrev pub is_among : Tree → Bool
is_among (Among set vars) = true
is_among _ = false

-- a conjunction of two sets
abbrev pub is_pair : Tree → Bool
is_pair (And f g) = is_among f && is_among g
is_pair _ = false

-- a conjunction of two sets within the budget, and an automaton that decides it over the table, each of whose states is reached
pub record IsPair (sets : List Automaton) (budget : ℕ) (f : Tree) (a : Automaton) : Type 0 where
  pub pair : IsTrue (is_pair f)
  pub made : IsMade f (tables sets) 0 budget a
  pub accessible : IsAccessible budget a

pub record IsMeetTable (l : MeetState) : Type 0 where
  pub pairs : All (λ pair. IsPair l.sets l.budget (tree_of pair.0) pair.1) l.pairs

-- the entry at this index is of the formula
pub record IsPairAt (l : MeetState) (f : Tree) (place : ℕ) : Type 0 where
  pub formula : Formula
  pub auto : Automaton
  pub there : slice_get l.pairs place ≡ Some (formula, auto)
  pub pair : IsPair l.sets l.budget f auto

-- the same table and budget, with the old entries followed by new ones
pub record MeetsGrow (old new : MeetState) : Type 0 where
  pub sets : new.sets ≡ old.sets
  pub budget : new.budget ≡ old.budget
  pub added : List (Formula × Automaton)
  pub pairs : new.pairs ≡ old.pairs ++ added
