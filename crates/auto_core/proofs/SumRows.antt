-- Rows of sums, as nodes are added and remembered.
use Rattle.std.proofs.Common.{◌≡◌, ℕ, suc, ℤ, pos, ◌+ℤ◌, ◌*ℤ◌, ◌+◌, ◌<◌, ◌≤◌, Bool, true, false, List, [], ◌∷◌, length, drop, get_or, None, Some, nat_eq, if◌then◌else◌, arith, inl, inr, refl, sym, ap, ◌∙◌, subst}
use Rattle.std.specs.Int.{bit_at}
use Rattle.std.specs.HashMap.{HashMap, get, Updates, IsEmpty}
use Rattle.std.specs.Ordering.{int_eq}
use Rattle.std.proofs.lemmas.Bool.Decides.{Decides-and, Decides-eqb, Decides-int_eq}
use Rattle.std.proofs.lemmas.Int.{ints}
use Rattle.std.proofs.lemmas.List.{drop_more}
use Rattle.track_word.proofs.LetterBits.{bit_cases}
use Rattle.letter_diagram.specs.declared.diagrams.Shape.{Shape}
use Rattle.letter_diagram.specs.Diagram.{map_at, top_track, chosen, Grows}
use Rattle.auto_core.specs.declared.sums.ValueRange.{ValueRange}
use Rattle.auto_core.specs.Sums.{weight_from, StandsFor, IsSumRow, RemembersSums, key_eq}

pub IsSumRow-grows : {old new : List Shape} {weights : List ℤ} {span : ValueRange} {track : ℕ} {sum : ℤ} {node : ℕ} → Grows old new → IsSumRow old weights span track sum node
    → IsSumRow new weights span track sum node
IsSumRow-grows {node} grows is =
    let known = is.known in
    let longer = grows.longer in
    let top = is.top in
    let same_top = grows.top node is.known in
    record {
      known = omega arith;
      map = λ letter. rw (grows.map node letter is.known) (is.map letter);
      top = omega arith;
    }

pub RemembersSums-grows : {S : Type 0} {old new : List Shape} {weights : List ℤ} {span : ValueRange} {memo : HashMap (ℕ × ℤ) ℕ S} → Grows old new → RemembersSums old weights span memo
    → RemembersSums new weights span memo
RemembersSums-grows grows all = record { rows = λ track sum node at. IsSumRow-grows grows (all.rows track sum node at) }

key_eq-true : (a c : ℕ) (b d : ℤ) → key_eq (a, b) (c, d) ≡ true → (a ≡ c) × (b ≡ d)
key_eq-true a c b d h = (Decides-and (nat_eq a c) (int_eq b d) (Decides-eqb a c) (Decides-int_eq b d)).0 h

some-same : (a b : ℕ) → Some a ≡ Some b → a ≡ b
some-same a b e = cc

pub RemembersSums-insert : {S : Type 0} {shapes : List Shape} {weights : List ℤ} {span : ValueRange} {memo : HashMap (ℕ × ℤ) ℕ S} (new : HashMap (ℕ × ℤ) ℕ S) {track : ℕ} {sum : ℤ} {node : ℕ}
    → RemembersSums shapes weights span memo → Updates key_eq memo new (track, sum) (Some node)
    → IsSumRow shapes weights span track sum node → RemembersSums shapes weights span new
RemembersSums-insert {shapes} {weights} {span} new {track} {sum} {node} all updates is = record {
  rows = λ t s n at. by t s n at (key_eq (track, sum) (t, s)) refl;
}
  where
    by : (t : ℕ) (s : ℤ) (n : ℕ) → get key_eq new (t, s) ≡ Some n → (c : Bool) → key_eq (track, sum) (t, s) ≡ c → IsSumRow shapes weights span t s n
    by t s n at true e =
        let both = key_eq-true track t sum s e in
        let same : (track, sum) ≡ (t, s) = λ i. (both.0 i, both.1 i) in
        let here : get key_eq new (track, sum) ≡ Some n = ap (get key_eq new) same ∙ at in
        let one : node ≡ n = some-same node n (sym updates.1 ∙ here) in
        let P : ℕ × ℤ → Type 0 = λ p. IsSumRow shapes weights span p.0 p.1 n in
        subst P same (subst (IsSumRow shapes weights span track sum) one is)
    by t s n at false e = all.rows t s n (sym (updates.2 (t, s) e) ∙ at)

pub IsSumRow-leaf : (shapes : List Shape) (weights : List ℤ) {span : ValueRange} (track : ℕ) {sum : ℤ} (node : ℕ) {state : ℕ} → track ≡ length weights → track ≤ 20 → node < length shapes
    → ((letter : ℕ) → map_at shapes node letter ≡ state) → top_track shapes node ≡ 20 → StandsFor span sum state
    → IsSumRow shapes weights span track sum node
IsSumRow-leaf shapes weights {span} track {sum} node {state} end few known map top stands = record {
  known = known;
  map = λ letter.
      let none : drop track weights ≡ [] = rw end (all-dropped weights) in
      rw (map letter, none) (subst (λ z. StandsFor span z state) (let e : sum ≡ sum +ℤ pos 0 = omega (arith, ints) in e) stands);
  top = omega (arith, top, few);
}
  where
    all-dropped : (weights : List ℤ) → drop (length weights) weights ≡ []
    all-dropped [] = refl
    all-dropped (w ∷ weights) = all-dropped weights

pub IsSumRow-test : {shapes : List Shape} {weights : List ℤ} {span : ValueRange} (track : ℕ) {sum : ℤ} (weight : ℤ) (low high node : ℕ) → track < length weights
    → weight ≡ get_or weights track (pos 0) → node < length shapes → track ≤ top_track shapes node
    → ((letter : ℕ) → map_at shapes node letter ≡ chosen shapes track low high letter) → IsSumRow shapes weights span (track + 1) sum low
    → IsSumRow shapes weights span (track + 1) (sum +ℤ weight) high → IsSumRow shapes weights span track sum node
IsSumRow-test {shapes} {weights} {span} track {sum} weight low high node within is known top map is_low is_high = record {
  known = known;
  map = λ letter.
      let split : drop track weights ≡ weight ∷ drop (track + 1) weights = drop_more weights track (pos 0) within ∙ ap (λ w. w ∷ drop (track + 1) weights) (sym is) in
      let rest = weight_from (track + 1) (drop (track + 1) weights) letter in
      let next : suc track ≡ track + 1 = omega arith in
      rw split (
      elim (bit_cases letter track) [
        | inl z ↦
            rw (map letter ∙ ap (λ n. if nat_eq n 0 then map_at shapes low letter else map_at shapes high letter) z)
            (subst (λ s. StandsFor span s (map_at shapes low letter))
            (ap (λ t. sum +ℤ weight_from t (drop (track + 1) weights) letter) (sym next)
            ∙ clear sum weight (weight_from (suc track) (drop (track + 1) weights) letter) (bit_at letter track) z)
            (is_low.map letter))
        | inr o ↦
            rw (map letter ∙ ap (λ n. if nat_eq n 0 then map_at shapes low letter else map_at shapes high letter) o)
            (subst (λ s. StandsFor span s (map_at shapes high letter))
            (ap (λ t. (sum +ℤ weight) +ℤ weight_from t (drop (track + 1) weights) letter) (sym next)
            ∙ set sum weight (weight_from (suc track) (drop (track + 1) weights) letter) (bit_at letter track) o)
            (is_high.map letter))
      ]);
  top = top;
}
  where
    clear : (sum weight rest : ℤ) (bit : ℕ) → bit ≡ 0 → sum +ℤ rest ≡ sum +ℤ ((weight *ℤ pos bit) +ℤ rest)
    clear sum weight rest bit z = rw z (omega (arith, ints))

    set : (sum weight rest : ℤ) (bit : ℕ) → bit ≡ 1 → (sum +ℤ weight) +ℤ rest ≡ sum +ℤ ((weight *ℤ pos bit) +ℤ rest)
    set sum weight rest bit o = rw o (omega (arith, ints))

pub RemembersSums-empty : {S : Type 0} (shapes : List Shape) (weights : List ℤ) (span : ValueRange) (memo : HashMap (ℕ × ℤ) ℕ S) → IsEmpty memo → RemembersSums shapes weights span memo
RemembersSums-empty shapes weights span memo empty = record {
  rows = λ track sum node at. absurd (nothing node (rw empty at at));
}
  where
    nothing : (node : ℕ) → None ≡ Some node → ⊥
    nothing node e = cc
