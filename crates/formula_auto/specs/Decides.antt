-- An automaton decides a formula.
use Rattle.std.specs.Prelude.{◌≡◌, ◌↔◌, ℕ, List, length}
use Rattle.track_word.specs.Word.{IsWord}
use Rattle.auto_core.specs.Automaton.{Automaton, Accepts}
use Rattle.lin_formula.specs.Tree.{Tree, free_vars}
use Rattle.lin_formula.specs.Holds.{Sets}
use Rattle.formula_auto.specs.Step.{Says}

-- its tracks are the free variables, and it accepts a word if and only if the formula is true for the word's values
pub record Decides (a : Automaton) (f : Tree) (e : Sets) : Type 0 where
  pub tracks : a.tracks ≡ free_vars f
  pub words : (word : List ℕ) → IsWord (length (free_vars f)) word → Accepts a word ↔ Says f e word
