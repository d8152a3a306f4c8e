-- What a row that is made keeps of the places and of the rows before it.
use Rattle.std.proofs.Common.{◌≡◌, ℕ, ◌<◌, ◌≤◌, ◌+◌, ◌^◌, List, [], ◌∷◌, ◌++◌, length, slice_get, get_or, Some, arith, sym, ap, ◌∙◌, subst, inl, inr}
use Rattle.std.specs.List.{All}
use Rattle.std.proofs.lemmas.List.{length_push, get_or_append_left, get_or_push}
use Rattle.std.proofs.lemmas.List.Elements.{All-from_get_or}
use Rattle.std.proofs.lemmas.Option.{slice_get-get_or, slice_get_within, get_or_from_slice_get}
use Rattle.std.proofs.lemmas.Bool.{cases_lt}
use Rattle.letter_diagram.specs.declared.diagrams.Shape.{Shape}
use Rattle.letter_diagram.specs.Diagram.{Grows}
use Rattle.letter_diagram.proofs.Narrow.{LooksBelow-grows}
use Rattle.auto_walk.specs.Walker.{Walker, IsReached}
use Rattle.auto_walk.specs.Rows.{AreNumbered, Extends, IsRow, IsRowOf, LeadsOn, AreRows}
use Rattle.auto_walk.proofs.WalkLemmas.{All-at, IsReached-first, IsReached-next}

pub Extends-refl : (places : List (List ℕ)) → Extends places places
Extends-refl places = record { kept = λ k p h. h }

pub Extends-trans : {a b c : List (List ℕ)} → Extends a b → Extends b c → Extends a c
Extends-trans first then = record { kept = λ k p h. then.kept k p (first.kept k p h) }

-- no place goes
pub length-Extends : {old new : List (List ℕ)} (k : ℕ) → Extends old new → k < length old → k < length new
length-Extends {old} {new} k more h =
    slice_get_within new k _ (more.kept k (get_or old k []) (slice_get-get_or old k [] h))

pub length_le-Extends : (old new : List (List ℕ)) → Extends old new → length old ≤ length new
length_le-Extends old new more = elim (cases_lt (length new) (length old)) [
  | inl shorter ↦ let l = length-Extends (length new) more shorter in absurd (omega arith)
  | inr longer ↦ omega arith
]

module _ (w : Walker) where
  -- all places are reached where the new ones are led to from reached ones
  numbered-row : (shapes : List Shape) (old new : List (List ℕ)) (lead : ℕ → List ℕ) (node : ℕ)
      → ((letter : ℕ) → letter < 2 ^ length w.tracks → IsReached w (lead letter)) → All (IsReached w) old → Extends old new → IsRow w shapes old new lead node → AreNumbered w new
  numbered-row shapes old new lead node reach reached more row = record {
    reached = All-from_get_or (IsReached w) new [] (λ k within.
        elim (cases_lt k (length old)) [
          | inl known ↦
              let at = slice_get-get_or old k [] known in
              subst (IsReached w) (sym (get_or_from_slice_get new k (get_or old k []) [] (more.kept k (get_or old k []) at))) (reached k [] known)
          | inr past ↦
              let led = row.led k past within in
              subst (IsReached w) (sym (get_or_from_slice_get new k (lead led.letter) [] led.leads)) (reach led.letter led.below)
        ]);
    different = row.different;
  }

  pub AreNumbered-first : {shapes : List Shape} {old new : List (List ℕ)} {node : ℕ} → old ≡ [] → IsRow w shapes old new w.first node → AreNumbered w new
  AreNumbered-first {shapes} {old} {new} {node} none row =
      let empty : length old ≡ 0 = ap length none in
      numbered-row shapes old new w.first node (IsReached-first w) (λ k d h. absurd (omega (arith, h, empty)))
      (record { kept = λ k p h. let l = slice_get_within old k p h in absurd (omega (arith, l, empty)) }) row

  pub AreNumbered-next : {shapes : List Shape} {old new : List (List ℕ)} {number node : ℕ} → AreNumbered w old → Extends old new → IsRowOf w shapes old new number node → AreNumbered w new
  AreNumbered-next {shapes} {old} {new} {number} {node} n more r =
      let from = All-at (IsReached w) old number r.place r.is n.reached in
      numbered-row shapes old new (w.next r.place) node (λ letter below. IsReached-next w letter below from) n.reached more r.row

  -- a row keeps leading on as places and nodes are added
  pub LeadsOn-kept : {old_shapes shapes : List Shape} {old new : List (List ℕ)} {number node : ℕ} → Grows old_shapes shapes → Extends old new → LeadsOn w old_shapes old number node
      → LeadsOn w shapes new number node
  LeadsOn-kept {new} {number} {node} grows more l = record {
    place = l.place;
    is = more.kept number l.place l.is;
    known = let k = l.known in let g = grows.longer in omega (arith, k, g);
    narrow = LooksBelow-grows l.known grows l.narrow;
    leads = λ letter below. ap (slice_get new) (grows.map node letter l.known) ∙ more.kept _ _ (l.leads letter below);
  }

  pub LeadsOn-row : {shapes : List Shape} {old new : List (List ℕ)} {number node : ℕ} → Extends old new → IsRowOf w shapes old new number node → LeadsOn w shapes new number node
  LeadsOn-row {number} more r = record {
    place = r.place;
    is = more.kept number r.place r.is;
    known = r.row.known;
    narrow = r.row.narrow;
    leads = r.row.leads;
  }

  pub AreRows-push : {old_shapes shapes : List Shape} {old new : List (List ℕ)} {rows : List ℕ} {number node : ℕ} → number ≡ length rows → Grows old_shapes shapes → Extends old new
      → AreRows w old_shapes old rows → LeadsOn w shapes new number node → AreRows w shapes new (rows ++ node ∷ [])
  AreRows-push {shapes} {new} {rows} {number} {node} last grows more are one = record {
    lead = λ i n at.
        let within : i < length rows + 1 = subst (λ k. i < k) (length_push rows node) (slice_get_within (rows ++ node ∷ []) i n at) in
        let here = get_or_from_slice_get (rows ++ node ∷ []) i n n at in
        elim (cases_lt i (length rows)) [
          | inl before ↦
              let same : get_or rows i n ≡ n = sym (get_or_append_left rows (node ∷ []) n i before) ∙ here in
              LeadsOn-kept grows more (are.lead i n (slice_get-get_or rows i n before ∙ ap Some same))
          | inr after ↦
              let is_last : number ≡ i = omega (arith, last, after, within) in
              let end : length rows ≡ i = omega (arith, last, is_last) in
              let same : node ≡ n = sym (get_or_push rows node n i end) ∙ here in
              subst (λ k. LeadsOn w shapes new k n) is_last (subst (LeadsOn w shapes new number) same one)
        ];
  }
