-- Formulas with their automata.
use Rattle.std.specs.Prelude.{◌≡◌, ℕ, List, Some, slice_get}
use Rattle.auto_core.specs.Automaton.{Automaton}
use Rattle.lin_formula.specs.Tree.{Tree}
use Rattle.lin_formula.specs.TreeOf.{tree_of}
use Rattle.lin_formula.specs.declared.formula.Formula.{Formula}
use Rattle.formula_auto.specs.declared.entry.MemoEntry.{MemoEntry}

-- an entry as contracts see it
abbrev pub entry_of : MemoEntry → Formula × Automaton
entry_of entry = (entry.formula, entry.auto)

-- the entry at this index is of the formula
pub record IsPlaceOf (entries : List MemoEntry) (f : Tree) (place : ℕ) : Type 0 where
  pub entry : MemoEntry
  pub there : slice_get entries place ≡ Some entry
  pub same : tree_of entry.formula ≡ f
