-- The rows of a set as shared nodes, field by field.
use Rattle.std.specs.Prelude.{◌<◌, ℕ, zero, suc, ◌+◌, ◌-◌, ◌^◌, ◌==◌, ◌&&◌, nat_lt, if◌then◌else◌, List, [], ◌∷◌, ◌++◌, length, map, Bool, Some, None, Vec}
use Rattle.std.specs.Int.{w8, w32}
use Rattle.std.specs.List.{zip}
use Rattle.std.specs.declared.alloc.Global.{Global}
use Rattle.track_word.specs.declared.tracks.Var.{Var}
use Rattle.letter_diagram.specs.Diagram.{top_track}
use Rattle.auto_core.specs.Automaton.{Automaton}
use Rattle.auto_core.specs.Rows.{row_of, rows_of}
use Rattle.auto_nodes.specs.declared.table.RowNode.{RowNode}
use Rattle.auto_nodes.specs.Nodes.{Shared, named}
use Rattle.strategy_file.specs.declared.fields.Rest.{Rest}
use Rattle.strategy_file.specs.declared.refusal.ByteWhy.TheVariants as why
use Rattle.strategy_file.specs.Layout.{Field, Layout, Give, ◌>>=◌, one, below, between, repeated}
use Rattle.strategy_file.specs.Reading.{Left}
use Rattle.strategy_file.specs.Rests.{left_of}

-- a reference is to a state, or to one of the nodes that test only tracks after this one
abbrev pub CanBePart : ℕ → List RowNode → ℕ → ℕ → Bool
CanBePart states nodes track part =
    nat_lt part (states + length nodes) && nat_lt track (top_track (named states nodes) part)

pub record IsPart (states : ℕ) (nodes : List RowNode) (track part : ℕ) : Type 0 where
  pub before : part < states + length nodes
  pub above : track < top_track (named states nodes) part

-- a child of a node that tests a track
abbrev pub part_field : ℕ → List RowNode → ℕ → Field
part_field states nodes track =
    record { width = w32; wrong = λ part. if CanBePart states nodes track part then None else Some why.Ref }

abbrev pub row_node : ℕ → ℕ → ℕ → RowNode
row_node track low high = record { track = track; low = low; high = high }

-- a node over this number of states and the nodes before it
unfoldable pub node_layout : ℕ → ℕ → List RowNode → Layout RowNode
node_layout tracks states before = do
  track ← one (below w8 tracks why.Track)
  low ← one (part_field states before track)
  high ← one (part_field states before track)
  Give (row_node track low high)

-- `count` nodes after others
abbrev pub nodes_layout : ℕ → ℕ → ℕ → List RowNode → Layout (List RowNode)
nodes_layout tracks states zero before = Give before
nodes_layout tracks states (suc count) before = do
  node ← node_layout tracks states before
  nodes_layout tracks states count (before ++ node ∷ [])

-- a reference below a bound
abbrev pub reference_layout : ℕ → Layout ℕ
reference_layout references = one (between w32 0 (references - 1) why.Ref)

-- a flag, and a row
unfoldable pub shared_state_layout : ℕ → Layout (Bool × ℕ)
shared_state_layout references = do
  flag ← one (between w8 0 1 why.Flag)
  row ← reference_layout references
  Give (flag == 1, row)

abbrev pub shared_states_layout : ℕ → ℕ → Layout (List (Bool × ℕ))
shared_states_layout references states = repeated states (shared_state_layout references)

abbrev pub shared_with : List RowNode → ℕ → List (Bool × ℕ) → Shared
shared_with nodes first states = record { nodes = nodes; first = first; rows = map (λ s. s.1) states }

-- the automaton of a table, without its diagrams
abbrev pub automaton_over : List Var → Shared → List Bool → Automaton
automaton_over tracks t accept = record {
  tracks = tracks;
  first = row_of (named (length accept) t.nodes) (2 ^ length tracks) t.first;
  next = rows_of (named (length accept) t.nodes) (2 ^ length tracks) t.rows;
  accept = accept;
  shapes = [];
  first_node = 0;
  row_nodes = [];
}

-- flags and their rows, as they are read, and what remains
abbrev pub shared_states_of : Vec Bool Global × Vec ℕ Global × Rest → List (Bool × ℕ) × Left
shared_states_of read = (zip read.0.items read.1.items, left_of read.2)
