-- How many bytes are written of sets whose rows share nodes.
use Rattle.std.proofs.Common.{◌≡◌, ℕ, ◌+◌, ◌*◌, ◌≤◌, Bool, List, [], ◌∷◌, ◌++◌, length, refl, arith}
use Rattle.std.specs.Int.{w32, to_be_bytes}
use Rattle.std.specs.List.{flat_map, zip}
use Rattle.std.proofs.lemmas.List.{length-append}
use Rattle.auto_nodes.specs.declared.numbers.TheConstants.{MOST_NODES}
use Rattle.auto_nodes.specs.declared.table.RowNode.{RowNode}
use Rattle.auto_nodes.specs.Nodes.{Shared, IsTableOf}
use Rattle.mate_plan.specs.Claim.{ClaimedSet}
use Rattle.strategy_writer.specs.SharedWritten.{node_bytes, shared_set_bytes, shared_sets_bytes, shared_state_bytes, shared_table_bytes}

nodes_length : (nodes : List RowNode) → length (flat_map node_bytes nodes) ≡ 9 * length nodes
unfolding node_bytes
nodes_length [] = refl
nodes_length (n ∷ nodes) =
    let whole = length-append (node_bytes n) (flat_map node_bytes nodes) in
    let rest = nodes_length nodes in
    omega (arith, whole, rest)

states_length : (flags : List Bool) (rows : List ℕ) → length rows ≡ length flags → length (flat_map shared_state_bytes (zip flags rows)) ≡ 5 * length flags
unfolding shared_state_bytes
states_length [] rows size = refl
states_length (f ∷ flags) [] size = absurd (omega (arith, size))
states_length (f ∷ flags) (r ∷ rows) size =
    let whole = length-append (shared_state_bytes (f, r)) (flat_map shared_state_bytes (zip flags rows)) in
    let rest = states_length flags rows (omega (arith, size)) in
    omega (arith, whole, rest)

table_length : (flags : List Bool) (t : Shared) → length t.rows ≡ length flags → length (shared_table_bytes flags t) ≡ 12 + 9 * length t.nodes + 5 * length flags
unfolding shared_table_bytes
table_length flags t size =
    let states = to_be_bytes w32 (length flags) in
    let count = to_be_bytes w32 (length t.nodes) in
    let nodes = flat_map node_bytes t.nodes in
    let first = to_be_bytes w32 t.first in
    let rows = flat_map shared_state_bytes (zip flags t.rows) in
    let one = length-append states count in
    let two = length-append (states ++ count) nodes in
    let three = length-append ((states ++ count) ++ nodes) first in
    let four = length-append (((states ++ count) ++ nodes) ++ first) rows in
    let n = nodes_length t.nodes in
    let r = states_length flags t.rows size in
    omega (arith, one, two, three, four, n, r)

pub shared_set_length : (c : ClaimedSet) (t : Shared) → IsTableOf c.set t → length (shared_set_bytes c t) ≡ 14 + 9 * length t.nodes + 5 * length c.set.accept
unfolding shared_set_bytes
shared_set_length c t is = let l = table_length c.set.accept t is.rows_size in omega (arith, l)

-- a set's table has no more nodes than a table may have, where its bytes are no more than those of a file
pub few_nodes : (c : ClaimedSet) (t : Shared) (most : ℕ) → IsTableOf c.set t → length (shared_set_bytes c t) ≤ most → most ≤ 268435456 → length t.nodes ≤ MOST_NODES
few_nodes c t most is short small = let l = shared_set_length c t is in omega (arith, l, short, small)

pub shared_sets_length : (c : ClaimedSet) (t : Shared) (sets : List ClaimedSet) (tables : List Shared)
    → length (shared_sets_bytes (c ∷ sets) (t ∷ tables)) ≡ length (shared_set_bytes c t) + length (shared_sets_bytes sets tables)
shared_sets_length c t sets tables = length-append (shared_set_bytes c t) (shared_sets_bytes sets tables)
