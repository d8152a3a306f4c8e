-- The words of a formula, and the number of states that a step of it needs.
use Rattle.std.specs.Prelude.{◌≡◌, ◌⊎◌, ℕ, ◌+◌, List, [], ◌∷◌, Option, Some, None}
use Rattle.track_word.specs.Tracks.{word_values}
use Rattle.auto_core.specs.Spread.{BothSpreadExceeds, ExSpreadExceeds}
use Rattle.lin_formula.specs.Tree.{Tree, And, Or, Ex, free_vars, steps}
use Rattle.lin_formula.specs.Holds.{Sets, Holds}

-- the words over the free variables for whose values the formula is true
abbrev pub Says : Tree → Sets → List ℕ → Type 0
Says f e word = Holds f e (word_values (free_vars f) word)

-- the step needs more states than the budget, by the meanings of its parts
unfoldable pub Exceeds : Tree → Sets → ℕ → Type 0
Exceeds (And f g) e budget = BothSpreadExceeds (free_vars f) (free_vars g) (Says f e) (Says g e) budget
Exceeds (Or f g) e budget = BothSpreadExceeds (free_vars f) (free_vars g) (Says f e) (Says g e) budget
Exceeds (Ex x g) e budget = ExSpreadExceeds x (free_vars g) (Says g e) budget
Exceeds _ e budget = ⊥

-- of these steps, numbered from a given number on, the number of the first that exceeds the budget, or none
abbrev pub FirstOver : List Tree → Sets → ℕ → ℕ → Option ℕ → Type 0
FirstOver [] e budget from answer = answer ≡ None
FirstOver (step ∷ rest) e budget from answer =
    (Exceeds step e budget × (answer ≡ Some from))
    ⊎ ((¬ Exceeds step e budget) × FirstOver rest e budget (from + 1) answer)

-- no step of a formula exceeds the budget
abbrev pub StaysWithin : Tree → Sets → ℕ → Type 0
StaysWithin f e budget = FirstOver (steps f) e budget 1 None
