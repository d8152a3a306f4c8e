-- The nodes of an automaton's rows.
use Rattle.std.specs.Prelude.{ℕ, ◌<◌, length}
use Rattle.letter_diagram.specs.Diagram.{LooksBelow}
use Rattle.auto_core.specs.Automaton.{Automaton}
use Rattle.auto_core.specs.Rows.{IsNodeOfRow}

-- the node maps each letter over the automaton's tracks to the state that a row has for it
pub record IsRowNode (a : Automaton) (row : ℕ → ℕ) (node : ℕ) : Type 0 where
  pub known : node < length a.shapes
  pub narrow : LooksBelow a.shapes node (length a.tracks)
  pub map : IsNodeOfRow a row node
