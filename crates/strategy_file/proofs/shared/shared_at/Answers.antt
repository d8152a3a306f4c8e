use Rattle.std.proofs.Common.{rules, ◌≡◌, ◌∙◌, length, sym, arith, [], Ok}
use Rattle.std.proofs.lemmas.Result.{err_from_is_err_and}
use Rattle.strategy_file.specs.Reading.{Fails, taken}
use Rattle.strategy_file.specs.Rests.{left_of}
use Rattle.strategy_file.specs.SharedTables.{nodes_layout}
use Rattle.strategy_file.proofs.SharedReads.{nodes_stop, first_stop, states_stop, shared_read}
use Rattle.strategy_file.proofs.shared.shared_at.Goals as goal

pub returns-in_err-nodes-clause-table : goal.returns-in_err-nodes-clause-table
returns-in_err-nodes-clause-table c =
    let p = err_from_is_err_and c.from_residual-in_err-nodes.result c.from_residual-in_err-nodes.ensures.1 in
    let count : c.len.result ≡ length c.args.tracks.items = search rules in
    let h : Fails c.in_err-nodes.field-0.0 (taken (nodes_layout (length c.args.tracks.items) c.args.states c.in_ok-count.count []) c.in_ok-count.rest.at c.in_ok-count.rest.bytes.now) =
    rw count at c.in_err-nodes.ensures.nodes in
    rw (p.1, p.2) (nodes_stop (length c.args.tracks.items) c.args.states c.args.rest.at c.args.rest.bytes.now c.in_ok-count.count (left_of c.in_ok-count.rest) c.in_ok-count.ensures.field
    c.in_err-nodes.field-0.0 h)

pub returns-in_err-first-clause-table : goal.returns-in_err-first-clause-table
returns-in_err-first-clause-table c =
    let p = err_from_is_err_and c.from_residual-in_err-first.result c.from_residual-in_err-first.ensures.1 in
    let count : c.len.result ≡ length c.args.tracks.items = search rules in
    let nodes : taken (nodes_layout (length c.args.tracks.items) c.args.states c.in_ok-count.count []) c.in_ok-count.rest.at c.in_ok-count.rest.bytes.now ≡ Ok
    (c.in_ok-nodes.nodes.items, left_of c.in_ok-nodes.rest) =
    rw count at c.in_ok-nodes.ensures.nodes in
    rw (p.1, p.2) (first_stop (length c.args.tracks.items) c.args.states c.args.rest.at c.args.rest.bytes.now c.in_ok-count.count (left_of c.in_ok-count.rest) c.in_ok-count.ensures.field
    c.in_ok-nodes.nodes.items (left_of c.in_ok-nodes.rest) nodes c.in_err-first.field-0.0 c.in_err-first.ensures.field)

pub returns-in_err-accept-clause-table : goal.returns-in_err-accept-clause-table
returns-in_err-accept-clause-table c =
    let p = err_from_is_err_and c.from_residual-in_err-accept.result c.from_residual-in_err-accept.ensures.1 in
    let count : c.len.result ≡ length c.args.tracks.items = search rules in
    let nodes : taken (nodes_layout (length c.args.tracks.items) c.args.states c.in_ok-count.count []) c.in_ok-count.rest.at c.in_ok-count.rest.bytes.now ≡ Ok
    (c.in_ok-nodes.nodes.items, left_of c.in_ok-nodes.rest) =
    rw count at c.in_ok-nodes.ensures.nodes in
    rw (p.1, p.2) (states_stop (length c.args.tracks.items) c.args.states c.args.rest.at c.args.rest.bytes.now c.in_ok-count.count (left_of c.in_ok-count.rest) c.in_ok-count.ensures.field
    c.in_ok-nodes.nodes.items (left_of c.in_ok-nodes.rest) nodes c.in_ok-first.first (left_of c.in_ok-first.rest) c.in_ok-first.ensures.field c.in_err-accept.field-0.0
    c.in_err-accept.ensures.states)

pub new-requires : goal.new-requires
new-requires c =
    let count : c.len.result ≡ length c.args.tracks.items = search rules in
    let a = c.in_ok-accept.ensures in
    let n = c.in_ok-nodes.ensures in
    let flags = a.flags in
    let size = n.count in
    let some = c.requires.some in
    let most = c.requires.most in
    let nodes_most = c.in_ok-count.ensures.most in
    let first = c.in_ok-first.ensures.most in
    record {
      ascending = c.requires.ascending;
      few_tracks = c.requires.few;
      some_state = omega (arith, flags, some);
      few_states = omega (arith, flags, most);
      few_nodes = omega (arith, size, nodes_most);
      rows_size = a.rows ∙ sym a.flags;
      first_known = omega (arith, first, flags, size, some);
      rows_known = λ i d h. let w = a.within i d h in omega (arith, w, flags, size);
      nodes = rw (← count, a.flags) n.are;
    }

pub returns-clause-table : goal.returns-clause-table
returns-clause-table c =
    let count : c.len.result ≡ length c.args.tracks.items = search rules in
    let a = c.in_ok-accept.ensures in
    let nodes : taken (nodes_layout (length c.args.tracks.items) c.args.states c.in_ok-count.count []) c.in_ok-count.rest.at c.in_ok-count.rest.bytes.now ≡ Ok
    (c.in_ok-nodes.nodes.items, left_of c.in_ok-nodes.rest) =
    rw count at c.in_ok-nodes.ensures.nodes in
    rw (c.new.ensures.first, c.new.ensures.next, c.new.ensures.accept)
    (shared_read (length c.args.tracks.items) c.args.states c.args.rest.at c.args.rest.bytes.now c.in_ok-count.count (left_of c.in_ok-count.rest) c.in_ok-count.ensures.field
    c.in_ok-nodes.nodes.items (left_of c.in_ok-nodes.rest) nodes c.in_ok-first.first (left_of c.in_ok-first.rest) c.in_ok-first.ensures.field
    c.in_ok-accept.accept.items c.in_ok-accept.rows.items (left_of c.in_ok-accept.rest) a.states (a.flags ∙ sym a.rows))
