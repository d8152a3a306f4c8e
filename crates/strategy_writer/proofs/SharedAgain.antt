-- A table of nodes that is written is read again, whatever follows.
use Rattle.std.proofs.Common.{◌≡◌, ℕ, suc, ◌+◌, ◌-◌, ◌^◌, ◌≤◌, ◌<◌, Bool, true, List, [], ◌∷◌, ◌++◌, ◌&&◌, ◌==◌, length, map, slice_get, Some, None, refl, sym, ap, subst, ◌∙◌, append_assoc, arith, All}
use Rattle.std.specs.Prelude.{if◌then◌else◌}
use Rattle.std.specs.Int.{w8, w32, to_be_bytes}
use Rattle.std.specs.List.{flat_map, zip, AllByRecursion}
use Rattle.std.proofs.lemmas.Slice.Zip.{firsts-zip, seconds-zip}
use Rattle.std.proofs.lemmas.Bool.{lt-ltb}
use Rattle.std.proofs.lemmas.List.{append-nil, length-append}
use Rattle.std.proofs.lemmas.List.Concat.{flat_map-cons}
use Rattle.std.proofs.lemmas.List.Elements.{All-head, All-tail}
use Rattle.std.proofs.lemmas.Nat.{from_be_bytes-to_be_bytes_4}
use Rattle.letter_diagram.specs.Diagram.{top_track}
use Rattle.auto_core.specs.Automaton.{Automaton, IsAutomaton}
use Rattle.auto_nodes.specs.declared.numbers.TheConstants.{MOST_NODES}
use Rattle.auto_nodes.specs.declared.table.RowNode.{RowNode}
use Rattle.auto_nodes.specs.Nodes.{Shared, AreRowNodes, IsRowNode, IsTableOf, named}
use Rattle.auto_nodes.proofs.Buildable.{can-be-built}
use Rattle.auto_nodes.proofs.Named.{Grows-named, get-right, length-named}
use Rattle.strategy_file.specs.declared.refusal.ByteWhy.TheVariants as why
use Rattle.strategy_file.specs.declared.version.Version.TheVariants as versions
use Rattle.strategy_file.specs.Layout.{Give, bind, one, below, between, repeated}
use Rattle.strategy_file.specs.SharedTables.{CanBePart, node_layout, nodes_layout, part_field, reference_layout, row_node, shared_state_layout, shared_states_layout, shared_with}
use Rattle.strategy_writer.specs.SharedWritten.{node_bytes, shared_state_bytes, shared_table_bytes}
use Rattle.strategy_file.specs.Tables.{Table, rows_layout, shared_layout, table_layout, table_of, table_over}
use Rattle.strategy_writer.specs.Written.{flag_byte}
use Rattle.strategy_writer.proofs.Again.{Again, give_again, field_again, then_again, as_again, repeated_again, byte_again, number_again, flag_again, flag_small}
use Rattle.strategy_file.proofs.SharedReads.{after_count, after_first, after_nodes, after_rows}

-- ---- a node

can_be_part : (states : ℕ) (nodes : List RowNode) (track part : ℕ) → part < states + length nodes → track < top_track (named states nodes) part → CanBePart states nodes track part ≡ true
can_be_part states nodes track part before above = λ i. lt-ltb part (states + length nodes) before i && lt-ltb track (top_track (named states nodes) part) above i

part_again : (states : ℕ) (nodes : List RowNode) (track part : ℕ) → part < states + length nodes → track < top_track (named states nodes) part → states + length nodes ≤ 2 ^ 32
    → Again (one (part_field states nodes track)) (to_be_bytes w32 part) part
part_again states nodes track part before above few =
    field_again (part_field states nodes track) part (to_be_bytes w32 part) refl (from_be_bytes-to_be_bytes_4 part (omega (arith, before, few)))
    (ap (λ b. if b then None else Some why.Ref) (can_be_part states nodes track part before above))

track_again : (tracks track : ℕ) → track < tracks → Again (one (below w8 tracks why.Track)) (track ∷ []) track
track_again tracks track h =
    field_again (below w8 tracks why.Track) track (track ∷ []) refl refl (ap (λ b. if b then None else Some why.Track) (lt-ltb track tracks h))

node_again : (tracks states : ℕ) (before : List RowNode) (n : RowNode) → IsRowNode (named states before) tracks (states + length before) n → states + length before ≤ 2 ^ 32
    → Again (node_layout tracks states before) (node_bytes n) n
unfolding node_layout node_bytes
node_again tracks states before n is few =
    let low = to_be_bytes w32 n.low in
    let high = to_be_bytes w32 n.high in
    let last =
    then_again (one (part_field states before n.track)) (λ h. Give (row_node n.track n.low h)) high [] n.high n
    (part_again states before n.track n.high is.high_before is.high_above few) (give_again n) in
    let mid =
    then_again (one (part_field states before n.track)) (λ l. bind (one (part_field states before n.track)) (λ h. Give (row_node n.track l h))) low (high ++ []) n.low n
    (part_again states before n.track n.low is.low_before is.low_above few) last in
    let whole =
    then_again (one (below w8 tracks why.Track)) (λ t. bind (one (part_field states before t)) (λ l. bind (one (part_field states before t)) (λ h. Give (row_node t l h))))
    (n.track ∷ []) (low ++ (high ++ [])) n.track n (track_again tracks n.track is.track) mid in
    as_again (node_layout tracks states before) (n.track ∷ (low ++ (high ++ []))) (node_bytes n) n (ap (λ b. n.track ∷ (low ++ b)) (append-nil high)) whole

-- a node among others is one over those before it
row_node_before : (tracks states : ℕ) (before rest : List RowNode) (n : RowNode) → AreRowNodes tracks states (before ++ n ∷ rest) → IsRowNode (named states before) tracks (states + length before) n
row_node_before tracks states before rest n are =
    let at : slice_get (before ++ n ∷ rest) (length before + 0) ≡ Some n = get-right before (n ∷ rest) (length before) 0 n refl refl in
    let is = are (length before + 0) n at in
    let grows = Grows-named states before (n ∷ rest) in
    let size = length-named states before in
    let track = is.track in
    let low = is.low_before in
    let high = is.high_before in
    let low_above = is.low_above in
    let high_above = is.high_above in
    let low_top = grows.top n.low (omega (arith, low, size)) in
    let high_top = grows.top n.high (omega (arith, high, size)) in
    record {
      track = track;
      low_before = omega (arith, low);
      high_before = omega (arith, high);
      low_above = omega (arith, low_above, low_top);
      high_above = omega (arith, high_above, high_top);
    }

nodes_again : (tracks states : ℕ) (before rest : List RowNode) → AreRowNodes tracks states (before ++ rest) → states + length (before ++ rest) ≤ 2 ^ 32
    → Again (nodes_layout tracks states (length rest) before) (flat_map node_bytes rest) (before ++ rest)
nodes_again tracks states before [] are few = subst (λ nodes. Again (nodes_layout tracks states 0 before) [] nodes) (sym (append-nil before)) (give_again before)
nodes_again tracks states before (n ∷ rest) are few =
    let same : (before ++ n ∷ []) ++ rest ≡ before ++ n ∷ rest = append_assoc before (n ∷ []) rest in
    let size = length-append before (n ∷ rest) in
    let here = node_again tracks states before n (row_node_before tracks states before rest n are) (omega (arith, few, size)) in
    let later =
    nodes_again tracks states (before ++ n ∷ []) rest (subst (AreRowNodes tracks states) (sym same) are) (subst (λ nodes. states + length nodes ≤ 2 ^ 32) (sym same) few) in
    let whole =
    then_again (node_layout tracks states before) (λ x. nodes_layout tracks states (length rest) (before ++ x ∷ [])) (node_bytes n) (flat_map node_bytes rest) n
    ((before ++ n ∷ []) ++ rest) here later in
    subst (λ nodes. Again (nodes_layout tracks states (suc (length rest)) before) (flat_map node_bytes (n ∷ rest)) nodes) same
    (as_again (nodes_layout tracks states (suc (length rest)) before) (node_bytes n ++ flat_map node_bytes rest) (flat_map node_bytes (n ∷ rest)) ((before ++ n ∷ []) ++ rest)
    (sym (flat_map-cons node_bytes n rest)) whole)

-- ---- a state's flag and row

reference_again : (references row : ℕ) → row < references → references ≤ 2 ^ 32 → Again (reference_layout references) (to_be_bytes w32 row) row
reference_again references row within few = number_again 0 (references - 1) row why.Ref (omega arith) (omega (arith, within)) (omega (arith, within, few))

state_again : (references : ℕ) (flag : Bool) (row : ℕ) → row < references → references ≤ 2 ^ 32 → Again (shared_state_layout references) (shared_state_bytes (flag, row)) (flag, row)
unfolding shared_state_layout shared_state_bytes
state_again references flag row within few =
    let f = flag_byte flag in
    let made : Bool × ℕ = (f == 1, row) in
    let bytes = to_be_bytes w32 row in
    let tail = then_again {B = Bool × ℕ} (reference_layout references) (λ r. Give (f == 1, r)) bytes [] row made (reference_again references row within few) (give_again made) in
    let whole =
    then_again {B = Bool × ℕ} (one (between w8 0 1 why.Flag)) (λ f'. bind (reference_layout references) (λ r. Give (f' == 1, r))) (f ∷ []) (bytes ++ []) f made
    (byte_again 0 1 f why.Flag (omega arith) (flag_small flag)) tail in
    subst (λ b. Again {A = Bool × ℕ} (shared_state_layout references) (f ∷ bytes) (b, row)) (flag_again flag)
    (as_again (shared_state_layout references) (f ∷ (bytes ++ [])) (f ∷ bytes) made (ap (λ b. f ∷ b) (append-nil bytes)) whole)

states_again : (references : ℕ) (flags : List Bool) (rows : List ℕ) → length rows ≡ length flags → All (λ row. row < references) rows → references ≤ 2 ^ 32
    → Again (shared_states_layout references (length flags)) (flat_map shared_state_bytes (zip flags rows)) (zip flags rows)
states_again references flags rows size within few =
    subst (λ n. Again (repeated n (shared_state_layout references)) (flat_map shared_state_bytes (zip flags rows)) (zip flags rows)) (zip-size flags rows size)
    (repeated_again (shared_state_layout references) shared_state_bytes (zip flags rows) (each_state flags rows within))
  where
    zip-size : (fs : List Bool) (rs : List ℕ) → length rs ≡ length fs → length (zip fs rs) ≡ length fs
    zip-size [] rs e = refl
    zip-size (f ∷ fs) [] e = absurd (omega (arith, e))
    zip-size (f ∷ fs) (r ∷ rs) e = ap suc (zip-size fs rs (omega (arith, e)))

    each_state : (fs : List Bool) (rs : List ℕ) → All (λ row. row < references) rs
        → AllByRecursion (λ s. Again (shared_state_layout references) (shared_state_bytes s) s) (zip fs rs)
    each_state [] rs all = tt
    each_state (f ∷ fs) [] all = tt
    each_state (f ∷ fs) (r ∷ rs) all = (state_again references f r (All-head (λ row. row < references) r rs all) few, each_state fs rs (All-tail (λ row. row < references) r rs all))

-- ---- a table

module _ (a : Automaton) (t : Shared) (valid : IsAutomaton a) (is : IsTableOf a t) (few_nodes : length t.nodes ≤ MOST_NODES) (few_states : length a.accept ≤ 200000) where
  -- the table of what is read is the automaton's
  over_is : table_over (length a.tracks) (shared_with t.nodes t.first (zip a.accept t.rows)) (map (λ s. s.0) (zip a.accept t.rows)) ≡ table_of a
  over_is =
      (λ i. table_over (length a.tracks) (record { nodes = t.nodes; first = t.first; rows = seconds-zip a.accept t.rows is.rows_size i }) (firsts-zip a.accept t.rows is.rows_size i))
      ∙ (λ i. record { first = is.first i; next = is.next i; accept = a.accept })

  pub shared_again : Again (table_layout versions.Shared (length a.tracks)) (shared_table_bytes a.accept t) (table_of a)
  unfolding table_layout rows_layout shared_layout shared_table_bytes
  shared_again =
      let tracks = length a.tracks in
      let states = length a.accept in
      let count = length t.nodes in
      let can = can-be-built a t valid is few_nodes in
      let some = valid.some_state in
      let first_known = is.first_known in
      let pairs = zip a.accept t.rows in
      let made : Table = table_over tracks (shared_with t.nodes t.first pairs) (map (λ s. s.0) pairs) in
      let nodes_bytes = flat_map node_bytes t.nodes in
      let first_bytes = to_be_bytes w32 t.first in
      let rows_bytes = flat_map shared_state_bytes pairs in
      let small : states + count ≤ 2 ^ 32 = omega (arith, few_nodes, few_states) in
      let last =
      then_again (shared_states_layout (states + count) states) (after_rows tracks t.nodes t.first) rows_bytes [] pairs made
      (states_again (states + count) a.accept t.rows is.rows_size is.rows_known small) (give_again made) in
      let first =
      then_again (reference_layout (states + count)) (after_first tracks states count t.nodes) first_bytes (rows_bytes ++ []) t.first made
      (reference_again (states + count) t.first first_known small) last in
      let nodes =
      then_again (nodes_layout tracks states count []) (after_nodes tracks states count) nodes_bytes (first_bytes ++ (rows_bytes ++ [])) t.nodes made
      (nodes_again tracks states [] t.nodes can.nodes small) first in
      let counted =
      then_again (one (between w32 0 MOST_NODES why.Nodes)) (after_count tracks states) (to_be_bytes w32 count) (nodes_bytes ++ (first_bytes ++ (rows_bytes ++ []))) count made
      (number_again 0 MOST_NODES count why.Nodes (omega arith) few_nodes (omega (arith, few_nodes))) nodes in
      let whole =
      then_again (one (between w32 1 200000 why.States)) (λ n. rows_layout versions.Shared tracks n) (to_be_bytes w32 states)
      (to_be_bytes w32 count ++ (nodes_bytes ++ (first_bytes ++ (rows_bytes ++ [])))) states made
      (number_again 1 200000 states why.States some few_states (omega (arith, few_states))) counted in
      subst (λ x. Again (table_layout versions.Shared tracks) (shared_table_bytes a.accept t) x) over_is
      (as_again (table_layout versions.Shared tracks) (to_be_bytes w32 states ++ (to_be_bytes w32 count ++ (nodes_bytes ++ (first_bytes ++ (rows_bytes ++ [])))))
      (shared_table_bytes a.accept t) made (in_parts (to_be_bytes w32 states) (to_be_bytes w32 count) nodes_bytes first_bytes rows_bytes) whole)
    where
      in_parts : (s n b f r : List ℕ) → s ++ (n ++ (b ++ (f ++ (r ++ [])))) ≡ (((s ++ n) ++ b) ++ f) ++ r
      in_parts s n b f r =
          ap (λ e. s ++ (n ++ (b ++ (f ++ e)))) (append-nil r)
          ∙ sym (append_assoc (((s ++ n) ++ b)) f r ∙ append_assoc (s ++ n) b (f ++ r) ∙ append_assoc s n (b ++ (f ++ r)))
