-- The pairs of states of two automata as places, and pairs of nodes as spots.
use Rattle.std.specs.Prelude.{ℕ, ◌+◌, List}
use Rattle.letter_diagram.specs.declared.diagrams.Shape.{Shape}
use Rattle.diagram_product.specs.Sided.{Sides, CanBePaired, pair_at, pair_top}
use Rattle.auto_walk.specs.Walker.{Walker, IsReached}
use Rattle.auto_bool.specs.Both.{place_of_pair}
use Rattle.auto_merge.specs.Graph.{Graph}

-- two nodes that map each letter to a pair of states that some word reaches
pub record CanLead (sides : Sides) (shapes : List Shape) (walker : Walker) (spot : ℕ × ℕ) : Type 0 where
  pub read : CanBePaired sides shapes spot.0 spot.1
  pub reached : (letter : ℕ) → IsReached walker (place_of_pair (pair_at sides shapes spot.0 spot.1 letter))

-- two nodes, one of each operand, map letters to the pairs of their values
abbrev pub pair_graph : Sides → List Shape → Walker → ℕ → Graph (ℕ × ℕ)
pair_graph sides shapes walker most = record {
  walker = walker;
  most = most;
  is_place = IsReached walker;
  can_read = CanLead sides shapes walker;
  leads = λ spot letter. place_of_pair (pair_at sides shapes spot.0 spot.1 letter);
  top = λ spot. pair_top sides shapes spot.0 spot.1;
  size = λ spot. spot.0 + spot.1;
}
