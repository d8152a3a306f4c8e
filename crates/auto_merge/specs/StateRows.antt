-- The states of an automaton as places, and its nodes as spots.
use Rattle.std.specs.Prelude.{◌≡◌, ℕ, ◌<◌, List, [], ◌∷◌, length, map, slice_index, slice_get, Option, Some}
use Rattle.std.specs.List.{range_with_len}
use Rattle.letter_diagram.specs.Diagram.{map_at, top_track}
use Rattle.auto_core.specs.Automaton.{Automaton, first_state, next_state, is_final}
use Rattle.auto_walk.specs.Walker.{Walker}
use Rattle.auto_merge.specs.declared.state_rows.NodeKey.{NodeKey}
use Rattle.auto_merge.specs.Graph.{Graph}

-- a state as a place
abbrev pub place_of_state : ℕ → List ℕ
place_of_state state = state ∷ []

-- the places of the first states
abbrev pub places_of_states : ℕ → List (List ℕ)
places_of_states count = map place_of_state (range_with_len 0 count)

-- the place that a word reaches is its state
abbrev pub state_walker : Automaton → Walker
state_walker a = record {
  tracks = a.tracks;
  first = λ letter. place_of_state (first_state a letter);
  next = λ place letter. place_of_state (next_state a (slice_index place 0) letter);
  final = λ place. is_final a (slice_index place 0);
}

-- the place of a state
pub record IsPlaceOfState (a : Automaton) (place : List ℕ) : Type 0 where
  pub state : ℕ
  pub within : state < length a.accept
  pub is : place ≡ place_of_state state

-- a node whose values are states
pub record IsNodeOf (a : Automaton) (node : ℕ) : Type 0 where
  pub known : node < length a.shapes
  pub within : (letter : ℕ) → map_at a.shapes node letter < length a.accept

-- nodes map letters to the places of states
abbrev pub state_graph : Automaton → Graph ℕ
state_graph a = record {
  walker = state_walker a;
  most = length a.accept;
  is_place = IsPlaceOfState a;
  can_read = IsNodeOf a;
  leads = λ node letter. place_of_state (map_at a.shapes node letter);
  top = top_track a.shapes;
  size = λ node. node;
}

-- the cached key of a node
pub record RemembersState (keys : List (Option NodeKey)) (own : Option ℕ) (spot node : ℕ) : Type 0 where
  pub held : slice_get keys spot ≡ Some (Some (record { node = node; own = own }))
