-- A cache by node that is cleared after each round.
use Rattle.std.specs.Prelude.{◌≡◌, ℕ, List, Option, Some, Contains}
use Rattle.letter_diagram.specs.NodeMemo.{answer_of}

-- each node with an entry is listed
pub record AreAnswered (answers : List (Option ℕ)) (nodes : List ℕ) : Type 0 where
  pub listed : (node answer : ℕ) → answer_of answers node ≡ Some answer → Contains nodes node
