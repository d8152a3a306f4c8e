-- Rows of an automaton as nodes of diagrams.
use Rattle.std.specs.Prelude.{◌≡◌, ℕ, ◌*◌, ◌^◌, ◌<◌, ◌≤◌, Bool, List, ◌∷◌, length, All, map}
use Rattle.std.specs.List.{range_with_len, flat_map}
use Rattle.limits.specs.declared.numbers.TheConstants.{MOST_TRACKS}
use Rattle.track_word.specs.declared.tracks.Var.{Var}
use Rattle.track_word.specs.Tracks.{IsAscending}
use Rattle.letter_diagram.specs.declared.diagrams.Shape.{Shape}
use Rattle.letter_diagram.specs.Diagram.{map_at, LooksBelow}
use Rattle.letter_diagram.specs.Carried.{IsCarried}
use Rattle.letter_diagram.specs.Listed.{EachAnswers}
use Rattle.letter_diagram.specs.Relabelled.{relabelled}
use Rattle.auto_core.specs.Automaton.{Automaton, width}

-- the values of a node's map at the letters below a width, as a list
unfoldable pub row_of : List Shape → ℕ → ℕ → List ℕ
row_of shapes width node = map (map_at shapes node) (range_with_len 0 width)

-- the rows of several nodes, concatenated
unfoldable pub rows_of : List Shape → ℕ → List ℕ → List ℕ
rows_of shapes width nodes = flat_map (row_of shapes width) nodes

-- the node's map has the value that the row has for each letter
abbrev pub IsNodeOfRow : Automaton → (ℕ → ℕ) → ℕ → Type 0
IsNodeOfRow a row node = (letter : ℕ) → letter < width a → map_at a.shapes node letter ≡ row letter

-- the node of the first row, then the nodes of the states' rows
abbrev pub all_nodes : Automaton → List ℕ
all_nodes a = a.first_node ∷ a.row_nodes

-- nodes of other shapes, one for each of the automaton's, that read the bits of a letter at the places
abbrev pub AreReadAt : Automaton → List ℕ → List Shape → List ℕ → Type 0
AreReadAt a places shapes nodes =
    EachAnswers (IsCarried a.shapes shapes (relabelled places) (λ value. value)) (all_nodes a) nodes

-- the automaton with these nodes as its rows
abbrev pub dense : List Var → List Shape → ℕ → List ℕ → List Bool → Automaton
dense tracks shapes first rows accept = record {
  tracks = tracks;
  first = row_of shapes (2 ^ length tracks) first;
  next = rows_of shapes (2 ^ length tracks) rows;
  accept = accept;
  shapes = shapes;
  first_node = first;
  row_nodes = rows;
}

-- the nodes are rows of an automaton, and depend on its tracks only
pub record AreRows (tracks : List Var) (shapes : List Shape) (first : ℕ) (rows : List ℕ) (accept : List Bool) : Type
    0 where
  pub ascending : IsAscending tracks
  pub few_tracks : length tracks ≤ MOST_TRACKS
  pub some_state : 0 < length accept
  pub few_states : length accept < 2 ^ 31
  pub rows_size : length rows ≡ length accept
  pub first_known : first < length shapes
  pub first_narrow : LooksBelow shapes first (length tracks)
  pub first_within : (letter : ℕ) → map_at shapes first letter < length accept
  pub rows_known : All (λ node. node < length shapes) rows
  pub rows_narrow : All (λ node. LooksBelow shapes node (length tracks)) rows
  pub rows_within : All (λ node. (letter : ℕ) → map_at shapes node letter < length accept) rows

-- the tables are the maps of the automaton's nodes
pub record IsOverNodes (a : Automaton) : Type 0 where
  pub nodes : AreRows a.tracks a.shapes a.first_node a.row_nodes a.accept
  pub first : a.first ≡ row_of a.shapes (2 ^ length a.tracks) a.first_node
  pub next : a.next ≡ rows_of a.shapes (2 ^ length a.tracks) a.row_nodes

-- dense tables: a state for each sign letter, and a row of states and a flag for each state
pub record AreTables (tracks : List Var) (first next : List ℕ) (accept : List Bool) : Type 0 where
  pub ascending : IsAscending tracks
  pub few_tracks : length tracks ≤ MOST_TRACKS
  pub some_state : 0 < length accept
  pub few_states : length accept < 2 ^ 31
  pub first_size : length first ≡ 2 ^ length tracks
  pub next_size : length next ≡ length accept * 2 ^ length tracks
  pub first_within : All (λ state. state < length accept) first
  pub next_within : All (λ state. state < length accept) next
