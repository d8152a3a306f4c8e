-- The nodes of the rows of an automaton.
use Rattle.std.specs.Prelude.{◌≡◌, ℕ, ◌<◌, List, length, All, slice_index}
use Rattle.letter_diagram.specs.Diagram.{map_at, LooksBelow}
use Rattle.auto_core.specs.Automaton.{Automaton, width, next_state}

-- the nodes of the rows of the states
pub record AreRowNodes (a : Automaton) (rows : List ℕ) : Type 0 where
  pub size : length rows ≡ length a.accept
  pub known : All (λ node. node < length a.shapes) rows
  pub narrow : All (λ node. LooksBelow a.shapes node (length a.tracks)) rows
  pub within : All (λ node. (letter : ℕ) → map_at a.shapes node letter < length a.accept) rows
  pub leads : (state letter : ℕ) → state < length a.accept → letter < width a
      → map_at a.shapes (slice_index rows state) letter ≡ next_state a state letter
