-- The rows of a set that share nodes are read part by part.
use Rattle.std.proofs.Common.{◌≡◌, ℕ, ◌+◌, Bool, List, [], length, map, Ok, refl, sym, ◌∙◌}
use Rattle.std.specs.Int.{w32}
use Rattle.std.specs.List.{zip}
use Rattle.std.proofs.lemmas.Slice.Zip.{firsts-zip, seconds-zip}
use Rattle.auto_core.specs.Automaton.{IsAutomaton}
use Rattle.auto_core.proofs.RowLemmas.{IsAutomaton-dense}
use Rattle.track_word.specs.declared.tracks.Var.{Var}
use Rattle.auto_nodes.specs.declared.numbers.TheConstants.{MOST_NODES}
use Rattle.auto_nodes.specs.declared.table.RowNode.{RowNode}
use Rattle.auto_nodes.specs.Nodes.{Shared, CanBeBuilt}
use Rattle.auto_nodes.proofs.NamedRows.{AreRows-named}
use Rattle.strategy_file.specs.declared.refusal.ByteWhy.TheVariants as why
use Rattle.strategy_file.specs.declared.refusal.FileError.{FileError}
use Rattle.strategy_file.specs.Layout.{Layout, Give, bind, one, between}
use Rattle.strategy_file.specs.Reading.{Left, taken, Fails}
use Rattle.strategy_file.specs.SharedTables.{automaton_over, nodes_layout, reference_layout, shared_states_layout, shared_with}
use Rattle.strategy_file.specs.Tables.{Table, shared_layout, table_over}
use Rattle.strategy_file.proofs.Takings.{then_ok, then_fails, first_fails}

pub IsAutomaton-over : {tracks : List Var} {t : Shared} {accept : List Bool} → CanBeBuilt tracks t accept → IsAutomaton (automaton_over tracks t accept)
IsAutomaton-over can =
    let is = IsAutomaton-dense (AreRows-named can) in
    record {
      ascending = is.ascending;
      few_tracks = is.few_tracks;
      some_state = is.some_state;
      few_states = is.few_states;
      first_size = is.first_size;
      next_size = is.next_size;
      first_within = is.first_within;
      next_within = is.next_within;
    }

abbrev pub after_rows : ℕ → List RowNode → ℕ → List (Bool × ℕ) → Layout Table
after_rows tracks nodes first rows = Give (table_over tracks (shared_with nodes first rows) (map (λ s. s.0) rows))

abbrev pub after_first : ℕ → ℕ → ℕ → List RowNode → ℕ → Layout Table
after_first tracks states count nodes first = bind (shared_states_layout (states + count) states) (after_rows tracks nodes first)

abbrev pub after_nodes : ℕ → ℕ → ℕ → List RowNode → Layout Table
after_nodes tracks states count nodes = bind (reference_layout (states + count)) (after_first tracks states count nodes)

abbrev pub after_count : ℕ → ℕ → ℕ → Layout Table
after_count tracks states count = bind (nodes_layout tracks states count []) (after_nodes tracks states count)

module _ (tracks states at : ℕ) (bytes : List ℕ) (count : ℕ) (l0 : Left) (h0 : taken (one (between w32 0 MOST_NODES why.Nodes)) at bytes ≡ Ok (count, l0)) where
  pub nodes_stop : (e : FileError) → Fails e (taken (nodes_layout tracks states count []) l0.at l0.bytes) → Fails e (taken (shared_layout tracks states) at bytes)
  unfolding shared_layout
  nodes_stop e fails =
      then_fails e (one (between w32 0 MOST_NODES why.Nodes)) (after_count tracks states) at bytes count l0 h0
      (first_fails e (nodes_layout tracks states count []) (after_nodes tracks states count) l0.at l0.bytes fails)

  pub first_stop : (nodes : List RowNode) (l1 : Left) → taken (nodes_layout tracks states count []) l0.at l0.bytes ≡ Ok (nodes, l1) → (e : FileError)
      → Fails e (taken (reference_layout (states + count)) l1.at l1.bytes) → Fails e (taken (shared_layout tracks states) at bytes)
  unfolding shared_layout
  first_stop nodes l1 h1 e fails =
      then_fails e (one (between w32 0 MOST_NODES why.Nodes)) (after_count tracks states) at bytes count l0 h0
      (then_fails e (nodes_layout tracks states count []) (after_nodes tracks states count) l0.at l0.bytes nodes l1 h1
      (first_fails e (reference_layout (states + count)) (after_first tracks states count nodes) l1.at l1.bytes fails))

  pub states_stop : (nodes : List RowNode) (l1 : Left) → taken (nodes_layout tracks states count []) l0.at l0.bytes ≡ Ok (nodes, l1) → (first : ℕ) (l2 : Left)
      → taken (reference_layout (states + count)) l1.at l1.bytes ≡ Ok (first, l2) → (e : FileError)
      → Fails e (taken (shared_states_layout (states + count) states) l2.at l2.bytes) → Fails e (taken (shared_layout tracks states) at bytes)
  unfolding shared_layout
  states_stop nodes l1 h1 first l2 h2 e fails =
      then_fails e (one (between w32 0 MOST_NODES why.Nodes)) (after_count tracks states) at bytes count l0 h0
      (then_fails e (nodes_layout tracks states count []) (after_nodes tracks states count) l0.at l0.bytes nodes l1 h1
      (then_fails e (reference_layout (states + count)) (after_first tracks states count nodes) l1.at l1.bytes first l2 h2
      (first_fails e (shared_states_layout (states + count) states) (after_rows tracks nodes first) l2.at l2.bytes fails)))

  pub shared_read : (nodes : List RowNode) (l1 : Left) → taken (nodes_layout tracks states count []) l0.at l0.bytes ≡ Ok (nodes, l1) → (first : ℕ) (l2 : Left)
      → taken (reference_layout (states + count)) l1.at l1.bytes ≡ Ok (first, l2) → (flags : List Bool) (rows : List ℕ) (l3 : Left)
      → taken (shared_states_layout (states + count) states) l2.at l2.bytes ≡ Ok (zip flags rows, l3) → length flags ≡ length rows
      → taken (shared_layout tracks states) at bytes ≡ Ok (table_over tracks (record { nodes = nodes; first = first; rows = rows }) flags, l3)
  unfolding shared_layout
  shared_read nodes l1 h1 first l2 h2 flags rows l3 h3 size =
      let pairs = zip flags rows in
      let made = table_over tracks (shared_with nodes first pairs) (map (λ s. s.0) pairs) in
      then_ok (one (between w32 0 MOST_NODES why.Nodes)) (after_count tracks states) at bytes count l0 (Ok (made, l3)) h0
      (then_ok (nodes_layout tracks states count []) (after_nodes tracks states count) l0.at l0.bytes nodes l1 (Ok (made, l3)) h1
      (then_ok (reference_layout (states + count)) (after_first tracks states count nodes) l1.at l1.bytes first l2 (Ok (made, l3)) h2
      (then_ok (shared_states_layout (states + count) states) (after_rows tracks nodes first) l2.at l2.bytes pairs l3 (Ok (made, l3)) h3 refl)))
      ∙ (λ i. Ok (table_over tracks (record { nodes = nodes; first = first; rows = seconds-zip flags rows (sym size) i }) (firsts-zip flags rows (sym size) i), l3))
