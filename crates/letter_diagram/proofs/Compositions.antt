-- Maps that read a letter twice, as nodes are added.
use Rattle.std.proofs.Common.{◌≡◌, ℕ, ◌<◌, Bool, true, false, List, All, length, nat_eq, Some, get_or, if◌then◌else◌, arith, sym, ap, ◌∙◌, subst}
use Rattle.std.specs.Int.{bit_at}
use Rattle.std.specs.HashMap.{HashMap, Updates}
use Rattle.std.proofs.lemmas.Option.{slice_get-get_or, get_or_from_slice_get}
use Rattle.letter_diagram.specs.declared.diagrams.Shape.{Shape}
use Rattle.letter_diagram.specs.Diagram.{map_at, chosen, Grows}
use Rattle.letter_diagram.specs.Composed.{IsComposed, RemembersComposed}
use Rattle.letter_diagram.proofs.Memos.{answers-insert}

pub rows-grow : {old new : List Shape} (rows : List ℕ) → Grows old new → All (λ node. node < length old) rows → All (λ node. node < length new) rows
rows-grow rows grows all i d h = let k = all i d h in let l = grows.longer in omega (arith, k, l)

pub IsComposed-grows : {old new : List Shape} {rows : List ℕ} {a r : ℕ} → Grows old new → IsComposed old rows a r → IsComposed new rows a r
IsComposed-grows {old} {new} {rows} {a} {r} grows is =
    let longer = grows.longer in
    let known = is.known in
    let source_known = is.source_known in
    record {
      known = omega (arith, known, longer);
      source_known = omega (arith, source_known, longer);
      rows_known = rows-grow rows grows is.rows_known;
      within = λ letter. subst (λ n. n < length rows) (sym (grows.map a letter is.source_known)) (is.within letter);
      map = λ letter.
          let row = is.rows_known (map_at old a letter) 0 (is.within letter) in
          grows.map r letter is.known ∙ is.map letter ∙ sym (grows.map (get_or rows (map_at old a letter) 0) letter row)
          ∙ ap (λ n. map_at new (get_or rows n 0) letter) (sym (grows.map a letter is.source_known));
    }

pub RemembersComposed-grows : {S : Type 0} {old new : List Shape} {rows : List ℕ} {memo : HashMap ℕ ℕ S} → Grows old new → RemembersComposed old rows memo → RemembersComposed new rows memo
RemembersComposed-grows grows all = record { composed = λ a r at. IsComposed-grows grows (all.composed a r at) }

pub RemembersComposed-insert : {S : Type 0} {shapes : List Shape} {rows : List ℕ} {memo new : HashMap ℕ ℕ S} {a r : ℕ}
    → RemembersComposed shapes rows memo → Updates nat_eq memo new a (Some r)
    → IsComposed shapes rows a r → RemembersComposed shapes rows new
RemembersComposed-insert {shapes} {rows} {memo} {new} {a} {r} all updates is = record { composed = answers-insert (IsComposed shapes rows) memo new a r all.composed updates is }

-- at a leaf
pub IsComposed-leaf : (shapes : List Shape) (rows : List ℕ) (a r value : ℕ) → a < length shapes
    → All (λ node. node < length shapes) rows → ((letter : ℕ) → map_at shapes a letter ≡ value)
    → ((letter : ℕ) → map_at shapes a letter < length rows) → r ≡ get_or rows value r → IsComposed shapes rows a r
IsComposed-leaf shapes rows a r value known all leaf within is =
    let below : value < length rows = subst (λ n. n < length rows) (leaf 0) (within 0) in
    let row : r ≡ get_or rows value 0 = sym (get_or_from_slice_get rows value r 0 (slice_get-get_or rows value r below ∙ ap Some (sym is))) in
    record {
      known = subst (λ n. n < length shapes) (sym row) (all value 0 below);
      source_known = known;
      rows_known = all;
      within = within;
      map = λ letter. ap (λ n. map_at shapes n letter) (row ∙ ap (λ n. get_or rows n 0) (sym (leaf letter)));
    }

by_bit : (b : Bool) (x y p q : ℕ) (F : ℕ → ℕ) → x ≡ F p → y ≡ F q → (if b then x else y) ≡ F (if b then p else q)
by_bit true x y p q F e f = e
by_bit false x y p q F e f = f

-- at a test
pub IsComposed-test : {shapes new : List Shape} {rows : List ℕ} (a r track low high : ℕ) {off on : ℕ}
    → a < length shapes → ((letter : ℕ) → map_at shapes a letter ≡ chosen shapes track low high letter)
    → IsComposed shapes rows low off → IsComposed shapes rows high on → Grows shapes new → r < length new → ((letter : ℕ) → map_at new r letter ≡ chosen shapes track off on letter)
    → IsComposed new rows a r
IsComposed-test {shapes} {new} {rows} a r track low high known split l h grows r_known map =
    let longer = grows.longer in
    let all = rows-grow rows grows l.rows_known in
    let within : (letter : ℕ) → map_at shapes a letter < length rows =
    λ letter. subst (λ n. n < length rows) (sym (split letter)) (side (nat_eq (bit_at letter track) 0) _ _ (l.within letter) (h.within letter)) in
    record {
      known = r_known;
      source_known = omega (arith, known, longer);
      rows_known = all;
      within = λ letter. subst (λ n. n < length rows) (sym (grows.map a letter known)) (within letter);
      map = λ letter.
          map letter
          ∙ by_bit (nat_eq (bit_at letter track) 0) _ _ _ _ (λ n. map_at shapes (get_or rows n 0) letter) (l.map letter) (h.map letter)
          ∙ ap (λ n. map_at shapes (get_or rows n 0) letter) (sym (split letter))
          ∙ sym (grows.map (get_or rows (map_at shapes a letter) 0) letter (l.rows_known (map_at shapes a letter) 0 (within letter)))
          ∙ ap (λ n. map_at new (get_or rows n 0) letter) (sym (grows.map a letter known));
    }
  where
    side : (b : Bool) (x y : ℕ) → x < length rows → y < length rows → (if b then x else y) < length rows
    side true x y p q = p
    side false x y p q = q
