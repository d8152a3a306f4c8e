-- Bounds on the number of words that a formula distinguishes.
use Rattle.std.specs.Prelude.{◌≡◌, ℕ, ◌<◌, List, length}
use Rattle.track_word.specs.declared.tracks.Var.{Var}
use Rattle.track_word.specs.Word.{IsWord}
use Rattle.track_word.specs.Tracks.{part_of}
use Rattle.auto_core.specs.Spread.{SameResidual}
use Rattle.lin_formula.specs.Tree.{Tree, free_vars}
use Rattle.lin_formula.specs.Holds.{Sets}
use Rattle.formula_auto.specs.Step.{Says}

-- each word over all tracks has a number below `size`, and the formula does not distinguish words with the same number
pub record TellsApart (all : List Var) (f : Tree) (e : Sets) (size : ℕ) : Type 0 where
  pub number : List ℕ → ℕ
  pub below : (word : List ℕ) → number word < size
  pub alike : (v w : List ℕ) → IsWord (length all) v → IsWord (length all) w → number v ≡ number w
      → SameResidual (length (free_vars f)) (Says f e) (part_of all (free_vars f) v) (part_of all (free_vars f) w)

-- whatever the tracks, the formula distinguishes at most n words
abbrev pub HasSize : Tree → Sets → ℕ → Type 0
HasSize f e size = (all : List Var) → TellsApart all f e size
