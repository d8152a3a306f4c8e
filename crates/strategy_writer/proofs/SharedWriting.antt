-- Sets whose rows share nodes are written, one after another, and counted before.
use Rattle.std.proofs.Common.{◌≡◌, ℕ, ◌+◌, ◌*◌, ◌<◌, ◌≤◌, Bool, false, List, [], ◌∷◌, ◌++◌, map, take, drop, get_or, length, All, refl, sym, ap, subst, ◌∙◌, append_assoc, add-one, drop-cons, arith}
use Rattle.std.specs.List.{AllZip, flat_map, zip}
use Rattle.std.proofs.lemmas.List.{append-nil, length-append, map_push, take_more}
use Rattle.std.proofs.lemmas.List.Concat.{flat_map-cons}
use Rattle.std.proofs.lemmas.List.Elements.{All-cons, All-nil}
use Rattle.auto_nodes.specs.Nodes.{HasTooManyNodes, IsTableOf, Shared}
use Rattle.auto_nodes.proofs.Uniques.{one-table_of_both}
use Rattle.mate_plan.specs.Claim.{Claim, ClaimedSet}
use Rattle.strategy_writer.specs.declared.kept_claim.KeptSet.{KeptSet}
use Rattle.strategy_file.specs.declared.version.Version.TheVariants as versions
use Rattle.strategy_writer.specs.Files.{IsLengthOf}
use Rattle.strategy_writer.specs.KeptClaims.{as_set}
use Rattle.strategy_writer.specs.SharedWritten.{AddsSharedSet, AddsSharedSets, AreTablesOf, HasFewNodes, HasSharedLength, HasSharedLengths, IsSharedFile, shared_set_bytes, shared_sets_bytes, shared_state_bytes, written_shared}
use Rattle.strategy_writer.specs.Written.{man_bytes, start_bytes}
use Rattle.strategy_writer.proofs.AlikeFiles.{AreAlike, AreAlikeClaims, length_alike}
use Rattle.strategy_writer.proofs.SharedLengths.{few_nodes, shared_set_length, shared_sets_length}

-- ---- the states of a table

module _ (flags : List Bool) (rows : List ℕ) (out : List ℕ) (i : ℕ) (total : List ℕ)
    (so_far : out ++ flat_map shared_state_bytes (zip (drop i flags) (drop i rows)) ≡ total) where
  pub next_state : i < length flags → length rows ≡ length flags
      → (out ++ shared_state_bytes (get_or flags i false, get_or rows i 0)) ++ flat_map shared_state_bytes (zip (drop (i + 1) flags) (drop (i + 1) rows)) ≡ total
  next_state within size =
      let flag = get_or flags i false in
      let row = get_or rows i 0 in
      let rest = zip (drop (i + 1) flags) (drop (i + 1) rows) in
      let front_flags : drop i flags ≡ flag ∷ drop (i + 1) flags = rw add-one (drop-cons flags i false within) in
      let front_rows : drop i rows ≡ row ∷ drop (i + 1) rows = rw add-one (drop-cons rows i 0 (omega (arith, within, size))) in
      let both : zip (drop i flags) (drop i rows) ≡ (flag, row) ∷ rest = λ k. zip (front_flags k) (front_rows k) in
      append_assoc out (shared_state_bytes (flag, row)) (flat_map shared_state_bytes rest)
      ∙ ap (λ bytes. out ++ bytes) (sym (flat_map-cons shared_state_bytes (flag, row) rest))
      ∙ ap (λ pairs. out ++ flat_map shared_state_bytes pairs) (sym both) ∙ so_far

-- ---- one set more

tables-push : (sets : List ClaimedSet) (tables : List Shared) (c : ClaimedSet) (t : Shared) → AreTablesOf sets tables → IsTableOf c.set t → AreTablesOf (sets ++ c ∷ []) (tables ++ t ∷ [])
tables-push [] [] c t are is = (is, tt)
tables-push [] (u ∷ tables) c t are is = absurd are
tables-push (d ∷ sets) [] c t are is = absurd are
tables-push (d ∷ sets) (u ∷ tables) c t are is = (are.0, tables-push sets tables c t are.1 is)

bytes-push : (sets : List ClaimedSet) (tables : List Shared) (c : ClaimedSet) (t : Shared) → AreTablesOf sets tables
    → shared_sets_bytes (sets ++ c ∷ []) (tables ++ t ∷ []) ≡ shared_sets_bytes sets tables ++ shared_set_bytes c t
bytes-push [] [] c t are = append-nil (shared_set_bytes c t)
bytes-push [] (u ∷ tables) c t are = absurd are
bytes-push (d ∷ sets) [] c t are = absurd are
bytes-push (d ∷ sets) (u ∷ tables) c t are =
    ap (λ bytes. shared_set_bytes d u ++ bytes) (bytes-push sets tables c t are.1) ∙ sym (append_assoc (shared_set_bytes d u) (shared_sets_bytes sets tables) (shared_set_bytes c t))

-- the sets up to a place, and the next
one_more : (sets : List KeptSet) (i : ℕ) (kept d : KeptSet) → i < length sets → kept ≡ get_or sets i d → map as_set (take (i + 1) sets) ≡ map as_set (take i sets) ++ as_set kept ∷ []
one_more sets i kept d within is =
    ap (map as_set) (take_more sets i d within ∙ ap (λ k. take i sets ++ k ∷ []) (sym is)) ∙ map_push as_set (take i sets) kept

pub adds_none : (out : List ℕ) → AddsSharedSets [] out out
adds_none out = record { tables = []; are = tt; bytes = sym (append-nil out) }

pub adds_next : (sets : List KeptSet) (i : ℕ) (kept d : KeptSet) (old mid new : List ℕ) → i < length sets → kept ≡ get_or sets i d
    → AddsSharedSets (map as_set (take i sets)) old mid → AddsSharedSet (as_set kept) mid new → AddsSharedSets (map as_set (take (i + 1) sets)) old new
adds_next sets i kept d old mid new within is before here =
    let taken = map as_set (take i sets) in
    let bytes = bytes-push taken before.tables (as_set kept) here.table before.are in
    subst (λ (cs : List ClaimedSet). AddsSharedSets cs old new) (sym (one_more sets i kept d within is))
    (record {
      tables = before.tables ++ here.table ∷ [];
      are = tables-push taken before.tables (as_set kept) here.table before.are here.is;
      bytes =
          here.bytes ∙ ap (λ bs. bs ++ shared_set_bytes (as_set kept) here.table) before.bytes
          ∙ append_assoc old (shared_sets_bytes taken before.tables) (shared_set_bytes (as_set kept) here.table) ∙ ap (λ bs. old ++ bs) (sym bytes);
    })

pub counts_none : HasSharedLengths [] 0
counts_none = record { tables = []; are = tt; size_is = refl }

pub counts_next : (sets : List KeptSet) (i : ℕ) (kept d : KeptSet) (total size : ℕ) → i < length sets → kept ≡ get_or sets i d
    → HasSharedLengths (map as_set (take i sets)) total → HasSharedLength (as_set kept) size → HasSharedLengths (map as_set (take (i + 1) sets)) (total + size)
counts_next sets i kept d total size within is before here =
    let taken = map as_set (take i sets) in
    let bytes = bytes-push taken before.tables (as_set kept) here.table before.are in
    let both = length-append (shared_sets_bytes taken before.tables) (shared_set_bytes (as_set kept) here.table) in
    let one = before.size_is in
    let two = here.size_is in
    subst (λ (cs : List ClaimedSet). HasSharedLengths cs (total + size)) (sym (one_more sets i kept d within is))
    (record {
      tables = before.tables ++ here.table ∷ [];
      are = tables-push taken before.tables (as_set kept) here.table before.are here.is;
      size_is = omega (arith, one, two, both) ∙ ap length (sym bytes);
    })

-- ---- one set

pub counts_set : (c : ClaimedSet) (t : Shared) (nodes states : ℕ) → IsTableOf c.set t → nodes ≡ length t.nodes → states ≡ length c.set.accept → HasSharedLength c (14 + 9 * nodes + 5 * states)
counts_set c t nodes states is n s =
    let size = shared_set_length c t is in
    record { table = t; is = is; size_is = omega (arith, size, n, s) }

-- a set that has few nodes does not have too many
pub not_too_many : (c : ClaimedSet) → HasFewNodes c → HasTooManyNodes c.set → ⊥
not_too_many c few many =
    let same = ap (λ (t : Shared). length t.nodes) (one-table_of_both c.set c.set few.table many.table refl refl refl refl few.is many.of) in
    let low = few.few in
    let high = many.many in
    omega (arith, same, low, high)

-- sets of which all bytes are no more than a file's have few nodes
pub few_each : (sets : List KeptSet) (tables : List Shared) → AreTablesOf (map as_set sets) tables → length (shared_sets_bytes (map as_set sets) tables) ≤ 268435456
    → All (λ s. HasFewNodes (as_set s)) sets
few_each [] tables are short = All-nil (λ s. HasFewNodes (as_set s))
few_each (s ∷ sets) [] are short = absurd are
few_each (s ∷ sets) (t ∷ tables) are short =
    let size = shared_sets_length (as_set s) t (map as_set sets) tables in
    let here : HasFewNodes (as_set s) = record { table = t; is = are.0; few = few_nodes (as_set s) t 268435456 are.0 (omega (arith, size, short)) (omega arith) } in
    All-cons (λ s. HasFewNodes (as_set s)) s sets here (few_each sets tables are.1 (omega (arith, size, short)))

-- ---- all of it

sets_alike_self : (sets : List ClaimedSet) → AllZip AreAlike sets sets
sets_alike_self [] = tt
sets_alike_self (c ∷ sets) = (record { place = refl; tracks = refl; equal = record { first = refl; next = refl; accept = refl } }, sets_alike_self sets)

alike_self : (c : Claim) → AreAlikeClaims c c
alike_self c = record { position = refl; winner = refl; moves = refl; sets = sets_alike_self c.sets }

pub shared_size : (c : Claim) (men sets : ℕ) → men ≡ length (flat_map man_bytes c.position.men) → HasSharedLengths c.sets sets → IsLengthOf versions.Shared c (8 + men + sets)
unfolding written_shared start_bytes
shared_size c men sets m has =
    let whole = length-append (start_bytes versions.Shared c.winner c.position c.moves) (shared_sets_bytes c.sets has.tables) in
    let size = has.size_is in
    record {
      bytes = written_shared c has.tables;
      are = record { tables = has.tables; are = has.are; bytes_are = refl };
      size_is = omega (arith, whole, m, size);
    }

-- the bytes are as many as were counted
pub as_counted : (c : Claim) (bytes : List ℕ) (size : ℕ) → IsSharedFile c bytes → IsLengthOf versions.Shared c size → size ≡ length bytes
as_counted c bytes size is has = length_alike versions.Shared bytes (alike_self c) is has

pub shared_file : (c : Claim) (bytes : List ℕ) → AddsSharedSets c.sets (start_bytes versions.Shared c.winner c.position c.moves) bytes → IsSharedFile c bytes
unfolding written_shared
shared_file c bytes adds = record { tables = adds.tables; are = adds.are; bytes_are = adds.bytes }
