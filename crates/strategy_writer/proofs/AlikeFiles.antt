-- Claims whose sets have equal tables have the same bytes, in either version.
use Rattle.std.proofs.Common.{◌≡◌, ℕ, Bool, List, [], ◌∷◌, ◌++◌, map, length, All, refl, sym, ap, ◌∙◌}
use Rattle.std.specs.List.{AllZip, flat_map}
use Rattle.std.proofs.lemmas.List.Concat.{flat_map-cons}
use Rattle.std.proofs.lemmas.List.Elements.{All-head, All-tail}
use Rattle.track_word.specs.declared.tracks.Var.{Var}
use Rattle.auto_core.specs.Automaton.{Automaton}
use Rattle.auto_nodes.specs.Nodes.{Shared, IsTableOf}
use Rattle.auto_nodes.proofs.Uniques.{one-table_of_both}
use Rattle.auto_reduce.specs.Tables.{AcceptSameWords, HaveEqualTables, IsInOrder}
use Rattle.auto_reduce.proofs.SameTables.{equal_tables}
use Rattle.mate_plan.specs.Claim.{Claim, ClaimedSet}
use Rattle.strategy_writer.specs.Files.{IsBytesOf, IsLengthOf}
use Rattle.strategy_writer.specs.SharedWritten.{AreTablesOf, shared_set_bytes, shared_sets_bytes, shared_table_bytes, written_shared}
use Rattle.strategy_writer.specs.Written.{set_bytes, start_bytes, state_bytes, table_bytes, written_dense}
use Rattle.strategy_file.specs.declared.version.Version.{Version}
use Rattle.strategy_file.specs.declared.version.Version.TheVariants as versions
use Rattle.strategy_file.proofs.FileClaims.{place_of}

-- ---- sets

-- sets of one place with equal tables
pub record AreAlike (x y : ClaimedSet) : Type 0 where
  pub place : place_of x ≡ place_of y
  pub tracks : x.set.tracks ≡ y.set.tracks
  pub equal : HaveEqualTables x.set y.set

-- sets that have no state too many and are numbered alike are alike where they accept the same words
pub alike_by_words : {x y : ClaimedSet} → place_of x ≡ place_of y → x.set.tracks ≡ y.set.tracks → IsInOrder x.set → IsInOrder y.set → AcceptSameWords x.set y.set → AreAlike x y
alike_by_words {x} {y} place tracks hx hy words = record { place = place; tracks = tracks; equal = equal_tables x.set y.set hx hy tracks words }

same_table_bytes : {a b : Automaton} → a.tracks ≡ b.tracks → HaveEqualTables a b → table_bytes a ≡ table_bytes b
unfolding table_bytes state_bytes
same_table_bytes {a} {b} tracks equal =
    let f : List Var → List ℕ → List ℕ → List Bool → List ℕ = λ t x n c. table_bytes (record a { tracks = t; first = x; next = n; accept = c }) in
    let one : f a.tracks a.first a.next a.accept ≡ f b.tracks a.first a.next a.accept = ap (λ t. f t a.first a.next a.accept) tracks in
    let two : f b.tracks a.first a.next a.accept ≡ f b.tracks b.first a.next a.accept = ap (λ x. f b.tracks x a.next a.accept) equal.first in
    let three : f b.tracks b.first a.next a.accept ≡ f b.tracks b.first b.next a.accept = ap (λ n. f b.tracks b.first n a.accept) equal.next in
    let four : f b.tracks b.first b.next a.accept ≡ f b.tracks b.first b.next b.accept = ap (λ c. f b.tracks b.first b.next c) equal.accept in
    one ∙ two ∙ three ∙ four

dense_alike : {x y : ClaimedSet} → AreAlike x y → set_bytes x ≡ set_bytes y
unfolding set_bytes
dense_alike {x} {y} h =
    ap (λ (q : ℕ × ℕ). (q.0 ∷ q.1 ∷ []) ++ table_bytes x.set) h.place ∙ ap (λ bs. (y.ply ∷ y.mask ∷ []) ++ bs) (same_table_bytes h.tracks h.equal)

shared_alike : {x y : ClaimedSet} {s t : Shared} → AreAlike x y → IsTableOf x.set s → IsTableOf y.set t → shared_set_bytes x s ≡ shared_set_bytes y t
unfolding shared_set_bytes
shared_alike {x} {y} {s} {t} h is_s is_t =
    let equal = h.equal in
    let table : s ≡ t = one-table_of_both x.set y.set s t h.tracks equal.first equal.next (ap length equal.accept) is_s is_t in
    ap (λ (q : ℕ × ℕ). (q.0 ∷ q.1 ∷ []) ++ shared_table_bytes x.set.accept s) h.place
    ∙ ap (λ flags. (y.ply ∷ y.mask ∷ []) ++ shared_table_bytes flags s) equal.accept
    ∙ ap (λ u. (y.ply ∷ y.mask ∷ []) ++ shared_table_bytes y.set.accept u) table

-- ---- sets, one after another

dense_sets_alike : (xs ys : List ClaimedSet) → AllZip AreAlike xs ys → flat_map set_bytes xs ≡ flat_map set_bytes ys
dense_sets_alike [] [] h = refl
dense_sets_alike [] (y ∷ ys) h = absurd h
dense_sets_alike (x ∷ xs) [] h = absurd h
dense_sets_alike (x ∷ xs) (y ∷ ys) h =
    flat_map-cons set_bytes x xs ∙ ap (λ bs. bs ++ flat_map set_bytes xs) (dense_alike h.0) ∙ ap (λ bs. set_bytes y ++ bs) (dense_sets_alike xs ys h.1)
    ∙ sym (flat_map-cons set_bytes y ys)

shared_sets_alike : (xs ys : List ClaimedSet) (ss ts : List Shared) → AllZip AreAlike xs ys → AreTablesOf xs ss → AreTablesOf ys ts → shared_sets_bytes xs ss ≡ shared_sets_bytes ys ts
shared_sets_alike [] [] [] [] h hs ht = refl
shared_sets_alike [] [] (s ∷ ss) ts h hs ht = absurd hs
shared_sets_alike [] [] [] (t ∷ ts) h hs ht = absurd ht
shared_sets_alike [] (y ∷ ys) ss ts h hs ht = absurd h
shared_sets_alike (x ∷ xs) [] ss ts h hs ht = absurd h
shared_sets_alike (x ∷ xs) (y ∷ ys) [] ts h hs ht = absurd hs
shared_sets_alike (x ∷ xs) (y ∷ ys) (s ∷ ss) [] h hs ht = absurd ht
shared_sets_alike (x ∷ xs) (y ∷ ys) (s ∷ ss) (t ∷ ts) h hs ht =
    ap (λ bs. bs ++ shared_sets_bytes xs ss) (shared_alike h.0 hs.0 ht.0) ∙ ap (λ bs. shared_set_bytes y t ++ bs) (shared_sets_alike xs ys ss ts h.1 hs.1 ht.1)

-- ---- claims

-- claims of one position, side and number of moves whose sets are alike
pub record AreAlikeClaims (c d : Claim) : Type 0 where
  pub position : c.position ≡ d.position
  pub winner : c.winner ≡ d.winner
  pub moves : c.moves ≡ d.moves
  pub sets : AllZip AreAlike c.sets d.sets

start_alike : {c d : Claim} (version : Version) → AreAlikeClaims c d → start_bytes version c.winner c.position c.moves ≡ start_bytes version d.winner d.position d.moves
start_alike version h = λ i. start_bytes version (h.winner i) (h.position i) (h.moves i)

pub bytes_alike : (version : Version) {c d : Claim} {a b : List ℕ} → AreAlikeClaims c d → IsBytesOf version c a → IsBytesOf version d b → a ≡ b
unfolding written_dense written_shared
bytes_alike versions.Dense {c} {d} h is_a is_b =
    is_a ∙ ap (λ bs. bs ++ flat_map set_bytes c.sets) (start_alike versions.Dense h)
    ∙ ap (λ bs. start_bytes versions.Dense d.winner d.position d.moves ++ bs) (dense_sets_alike c.sets d.sets h.sets) ∙ sym is_b
bytes_alike versions.Shared {c} {d} h is_a is_b =
    is_a.bytes_are ∙ ap (λ bs. bs ++ shared_sets_bytes c.sets is_a.tables) (start_alike versions.Shared h)
    ∙ ap (λ bs. start_bytes versions.Shared d.winner d.position d.moves ++ bs) (shared_sets_alike c.sets d.sets is_a.tables is_b.tables h.sets is_a.are is_b.are)
    ∙ sym is_b.bytes_are

pub length_alike : (version : Version) {c d : Claim} (bytes : List ℕ) {size : ℕ} → AreAlikeClaims c d → IsBytesOf version c bytes → IsLengthOf version d size → size ≡ length bytes
length_alike version bytes h is has = has.size_is ∙ ap length (sym (bytes_alike version h is has.are))

pub lengths_alike : (version : Version) {c d : Claim} {m n : ℕ} → AreAlikeClaims c d → IsLengthOf version c m → IsLengthOf version d n → m ≡ n
lengths_alike version h has_m has_n = has_m.size_is ∙ sym (length_alike version has_m.bytes h has_m.are has_n)

module _ (P : ClaimedSet → Type 0) (alike : (x y : ClaimedSet) → place_of x ≡ place_of y → P x → P y → AreAlike x y) where
  -- sets of the same places are alike, where those of one place are
  pub sets_alike : (xs ys : List ClaimedSet) → map place_of xs ≡ map place_of ys → All P xs → All P ys → AllZip AreAlike xs ys
  sets_alike [] [] e hx hy = tt
  sets_alike [] (y ∷ ys) e hx hy = absurd cc
  sets_alike (x ∷ xs) [] e hx hy = absurd cc
  sets_alike (x ∷ xs) (y ∷ ys) e hx hy =
      (alike x y (cc) (All-head P x xs hx) (All-head P y ys hy), sets_alike xs ys (cc) (All-tail P x xs hx) (All-tail P y ys hy))
