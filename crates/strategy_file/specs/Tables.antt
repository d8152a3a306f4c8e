-- The table of a set, field by field.
use Rattle.std.specs.Prelude.{ℕ, ◌+◌, ◌-◌, ◌^◌, ◌==◌, List, [], length, map, Bool}
use Rattle.std.specs.Int.{w8, w32}
use Rattle.std.specs.List.{flat_map}
use Rattle.track_word.specs.declared.tracks.Var.{Var}
use Rattle.auto_core.specs.Automaton.{Automaton}
use Rattle.auto_core.specs.Rows.{row_of, rows_of}
use Rattle.auto_nodes.specs.declared.numbers.TheConstants.{MOST_NODES}
use Rattle.auto_nodes.specs.Nodes.{Shared, named}
use Rattle.strategy_file.specs.declared.version.Version.{Version}
use Rattle.strategy_file.specs.declared.version.Version.TheVariants as versions
use Rattle.strategy_file.specs.declared.refusal.ByteWhy.TheVariants as why
use Rattle.strategy_file.specs.Layout.{Layout, Give, ◌>>=◌, one, between, repeated}
use Rattle.strategy_file.specs.SharedTables.{nodes_layout, reference_layout, shared_states_layout, shared_with}

-- the part of an automaton that a file has: a state for each sign letter, and for each state a flag and a state for
-- each letter
pub record Table : Type 0 where
  pub first : List ℕ
  pub next : List ℕ
  pub accept : List Bool

abbrev pub table_of : Automaton → Table
table_of a = record { first = a.first; next = a.next; accept = a.accept }

-- the automaton with these tables and without nodes
abbrev pub automaton_of : List Var → List ℕ → List ℕ → List Bool → Automaton
automaton_of tracks first next accept =
    record { tracks = tracks; first = first; next = next; accept = accept; shapes = []; first_node = 0; row_nodes = [] }

-- a state, given the number of states
abbrev pub entry_layout : ℕ → Layout ℕ
entry_layout states = one (between w32 0 (states - 1) why.Entry)

-- a state for each letter, ascending
unfoldable pub row_layout : ℕ → ℕ → Layout (List ℕ)
row_layout tracks states = repeated (2 ^ tracks) (entry_layout states)

-- a flag, and a row
unfoldable pub state_layout : ℕ → ℕ → Layout (Bool × List ℕ)
state_layout tracks states = do
  flag ← one (between w8 0 1 why.Flag)
  row ← row_layout tracks states
  Give (flag == 1, row)

-- the states, given their number
abbrev pub states_layout : ℕ → ℕ → Layout (List (Bool × List ℕ))
states_layout tracks states = repeated states (state_layout tracks states)

abbrev pub table_with : List ℕ → List (Bool × List ℕ) → Table
table_with first states = record { first = first; next = flat_map (λ s. s.1) states; accept = map (λ s. s.0) states }

-- a first row, and the states
unfoldable pub dense_layout : ℕ → ℕ → Layout Table
dense_layout tracks states = do
  first ← row_layout tracks states
  rows ← states_layout tracks states
  Give (table_with first rows)

abbrev pub table_over : ℕ → Shared → List Bool → Table
table_over tracks t accept = record {
  first = row_of (named (length accept) t.nodes) (2 ^ tracks) t.first;
  next = rows_of (named (length accept) t.nodes) (2 ^ tracks) t.rows;
  accept = accept;
}

-- the shared nodes, a first row, and the states
unfoldable pub shared_layout : ℕ → ℕ → Layout Table
shared_layout tracks states = do
  count ← one (between w32 0 MOST_NODES why.Nodes)
  nodes ← nodes_layout tracks states count []
  first ← reference_layout (states + count)
  rows ← shared_states_layout (states + count) states
  Give (table_over tracks (shared_with nodes first rows) (map (λ s. s.0) rows))

-- the rows of the states in a file of a version
unfoldable pub rows_layout : Version → ℕ → ℕ → Layout Table
rows_layout versions.Dense tracks states = dense_layout tracks states
rows_layout versions.Shared tracks states = shared_layout tracks states

unfoldable pub table_layout : Version → ℕ → Layout Table
table_layout version tracks = do
  states ← one (between w32 1 200000 why.States)
  rows_layout version tracks states
