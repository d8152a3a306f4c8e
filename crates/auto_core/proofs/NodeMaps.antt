-- The maps of the nodes of an automaton's rows are its tables. Crates above cite these lemmas.
use Rattle.std.proofs.Common.{◌≡◌, ℕ, ◌<◌, ◌+◌, ◌*◌, length, get_or, sym, ap, ◌∙◌}
use Rattle.letter_diagram.specs.Diagram.{map_at}
use Rattle.auto_core.specs.Automaton.{Automaton, width, first_state, next_state}
use Rattle.auto_core.specs.Rows.{IsOverNodes}
use Rattle.auto_core.proofs.RowLemmas.{get_or-row_of, get_or-rows_of}

module _ (a : Automaton) (over : IsOverNodes a) where
  pub first-map : (letter : ℕ) → letter < width a → map_at a.shapes a.first_node letter ≡ first_state a letter
  first-map letter below = sym (ap (λ l. get_or l letter 0) over.first ∙ get_or-row_of a.shapes (width a) a.first_node letter below)

  pub row-map : (state letter : ℕ) → state < length a.row_nodes → letter < width a → map_at a.shapes (get_or a.row_nodes state 0) letter ≡ next_state a state letter
  row-map state letter known below = sym (ap (λ l. get_or l (state * width a + letter) 0) over.next ∙ get_or-rows_of a.shapes (width a) a.row_nodes state letter 0 known below)
