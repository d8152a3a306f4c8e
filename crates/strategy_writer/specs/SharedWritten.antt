-- The bytes of a file of version 2.
use Rattle.std.specs.Prelude.{◌≡◌, ◌≤◌, ℕ, Bool, List, [], ◌∷◌, ◌++◌, length}
use Rattle.std.specs.Int.{w32, to_be_bytes}
use Rattle.std.specs.List.{AllZip, flat_map, zip}
use Rattle.auto_nodes.specs.declared.numbers.TheConstants.{MOST_NODES}
use Rattle.auto_nodes.specs.declared.table.RowNode.{RowNode}
use Rattle.auto_nodes.specs.Nodes.{Shared, IsTableOf}
use Rattle.mate_plan.specs.Claim.{Claim, ClaimedSet}
use Rattle.strategy_file.specs.declared.version.Version.TheVariants as versions
use Rattle.strategy_writer.specs.Written.{flag_byte, start_bytes}

unfoldable pub node_bytes : RowNode → List ℕ
node_bytes n = (n.track ∷ to_be_bytes w32 n.low) ++ to_be_bytes w32 n.high

-- a flag, and a row
unfoldable pub shared_state_bytes : Bool × ℕ → List ℕ
shared_state_bytes s = flag_byte s.0 ∷ to_be_bytes w32 s.1

-- the flags of an automaton, and its table
unfoldable pub shared_table_bytes : List Bool → Shared → List ℕ
shared_table_bytes accept t =
    (((to_be_bytes w32 (length accept) ++ to_be_bytes w32 (length t.nodes)) ++ flat_map node_bytes t.nodes)
    ++ to_be_bytes w32 t.first)
    ++ flat_map shared_state_bytes (zip accept t.rows)

unfoldable pub shared_set_bytes : ClaimedSet → Shared → List ℕ
shared_set_bytes c t = (c.ply ∷ c.mask ∷ []) ++ shared_table_bytes c.set.accept t

-- sets with their tables, in order
abbrev pub shared_sets_bytes : List ClaimedSet → List Shared → List ℕ
shared_sets_bytes [] tables = []
shared_sets_bytes (c ∷ sets) [] = []
shared_sets_bytes (c ∷ sets) (t ∷ tables) = shared_set_bytes c t ++ shared_sets_bytes sets tables

-- each set's table
abbrev pub AreTablesOf : List ClaimedSet → List Shared → Type 0
AreTablesOf sets tables = AllZip (λ c t. IsTableOf c.set t) sets tables

-- the file of version 2 of a claim, by the tables of its sets
unfoldable pub written_shared : Claim → List Shared → List ℕ
written_shared c tables = start_bytes versions.Shared c.winner c.position c.moves ++ shared_sets_bytes c.sets tables

-- the bytes are the file of version 2 of the claim
pub record IsSharedFile (c : Claim) (bytes : List ℕ) : Type 0 where
  pub tables : List Shared
  pub are : AreTablesOf c.sets tables
  pub bytes_are : bytes ≡ written_shared c tables

-- the bytes of a set are appended
pub record AddsSharedSet (c : ClaimedSet) (old new : List ℕ) : Type 0 where
  pub table : Shared
  pub is : IsTableOf c.set table
  pub bytes : new ≡ old ++ shared_set_bytes c table

-- the bytes of sets are appended
pub record AddsSharedSets (sets : List ClaimedSet) (old new : List ℕ) : Type 0 where
  pub tables : List Shared
  pub are : AreTablesOf sets tables
  pub bytes : new ≡ old ++ shared_sets_bytes sets tables

pub record HasSharedLength (c : ClaimedSet) (size : ℕ) : Type 0 where
  pub table : Shared
  pub is : IsTableOf c.set table
  pub size_is : size ≡ length (shared_set_bytes c table)

pub record HasSharedLengths (sets : List ClaimedSet) (size : ℕ) : Type 0 where
  pub tables : List Shared
  pub are : AreTablesOf sets tables
  pub size_is : size ≡ length (shared_sets_bytes sets tables)

-- the set has a table with at most as many nodes as a table may have
pub record HasFewNodes (c : ClaimedSet) : Type 0 where
  pub table : Shared
  pub is : IsTableOf c.set table
  pub few : length table.nodes ≤ MOST_NODES
