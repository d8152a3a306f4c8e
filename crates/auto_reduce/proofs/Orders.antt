-- Lists that grow by values that they did not have.
use Rattle.std.proofs.Common.{◌≡◌, ◌≢◌, ℕ, ◌<◌, ◌≤◌, ◌+◌, Bool, true, false, nat_eq, List, [], ◌∷◌, ◌++◌, length, take, get_or, Contains, AllPairs, arith, refl, sym, ap, ◌∙◌, subst, inl, inr, if◌then◌else◌}
use Rattle.std.specs.List.{list_any, IsDistinct}
use Rattle.std.proofs.lemmas.Bool.{cases_lt}
use Rattle.std.proofs.lemmas.Bool.Decides.{Decides-eqb}
use Rattle.std.proofs.lemmas.List.{length_push, get_or_push, get_or_append_left, take_more, get_or_read}
use Rattle.std.proofs.lemmas.List.Elements.{Contains-push_cases, Contains-get_or}
use Rattle.std.proofs.lemmas.Map.Made.{is_member-Decides, AllPairs-from_IsDistinct}
use Rattle.indexmap.specs.IndexSet.{insert_key}
use Rattle.auto_reduce.specs.Quotient.{AddsAll, ComesBefore}

pub different : (xs : List ℕ) → IsDistinct nat_eq xs → AllPairs (λ x y. x ≢ y) xs
different = AllPairs-from_IsDistinct Decides-eqb

-- where a value stands
pub place_in : (xs : List ℕ) (x : ℕ) → Contains xs x → (k : ℕ) × (k < length xs) × (get_or xs k 0 ≡ x)
place_in xs x h = (h.0, h.1, sym (get_or_read xs h.0 x h.1 (sym h.2) 0))

pub Contains-at : (xs : List ℕ) (k x : ℕ) → k < length xs → get_or xs k 0 ≡ x → Contains xs x
Contains-at xs k x within e = subst (Contains xs) e (Contains-get_or xs k 0 within)

-- what stands in a list stands in one that goes on from it
pub Contains-on : (old new : List ℕ) → length old ≤ length new
    → ((place : ℕ) → place < length old → get_or new place 0 ≡ get_or old place 0) → (x : ℕ) → Contains old x → Contains new x
Contains-on old new longer kept x there =
    let p = place_in old x there in
    Contains-at new p.0 x (let w = p.1 in omega (arith, longer, w)) (kept p.0 p.1 ∙ p.2)

pub Contains-kept : {old new values : List ℕ} → AddsAll old new values → (x : ℕ) → Contains old x → Contains new x
Contains-kept {old} {new} h x there = Contains-on old new h.longer h.kept x there

AddsAll-push : (old : List ℕ) (state : ℕ) → AddsAll old (old ++ state ∷ []) (state ∷ [])
AddsAll-push old state = record {
  longer = let l = length_push old state in omega (arith, l);
  kept = λ place within. get_or_append_left old (state ∷ []) 0 place within;
  has = λ value there.
      let one = place_in (state ∷ []) value there in
      let last = get_or_push old state 0 (length old) refl in
      Contains-at (old ++ state ∷ []) (length old) value (let l = length_push old state in omega (arith, l)) (last ∙ single one.0 one.1 one.2);
  added = λ place past within.
      let l = length_push old state in
      let here : length old ≡ place = omega (arith, l, past, within) in
      Contains-at (state ∷ []) 0 _ (omega arith) (sym (get_or_push old state 0 place here));
  in_order = λ i j past less within. let l = length_push old state in absurd (omega (arith, l, past, less, within));
}
  where
    single : {value : ℕ} (k : ℕ) → k < 1 → get_or (state ∷ []) k 0 ≡ value → state ≡ value
    single {value} k below e = let z : k ≡ 0 = omega (arith, below) in subst (λ n. get_or (state ∷ []) n 0 ≡ value) z e

AddsAll-known : (old : List ℕ) (state : ℕ) → Contains old state → AddsAll old old (state ∷ [])
AddsAll-known old state there = record {
  longer = omega arith;
  kept = λ place within. refl;
  has = λ value one.
      let p = place_in (state ∷ []) value one in
      let z : p.0 ≡ 0 = let w = p.1 in omega (arith, w) in
      let e : get_or (state ∷ []) 0 0 ≡ value = subst (λ n. get_or (state ∷ []) n 0 ≡ value) z p.2 in
      subst (Contains old) e there;
  added = λ place past within. absurd (omega (arith, past, within));
  in_order = λ i j past less within. absurd (omega (arith, past, less, within));
}

pub AddsAll-insert : (old new : List ℕ) (state : ℕ) → new ≡ insert_key nat_eq old state → AddsAll old new (state ∷ [])
AddsAll-insert old new state h = by (list_any (nat_eq state) old) refl
  where
    by : (b : Bool) → list_any (nat_eq state) old ≡ b → AddsAll old new (state ∷ [])
    by true there = subst (λ l. AddsAll old l (state ∷ [])) (sym (h ∙ ap (λ c. if c then old else old ++ state ∷ []) there))
        (AddsAll-known old state ((is_member-Decides Decides-eqb old state).0 there))
    by false none = subst (λ l. AddsAll old l (state ∷ [])) (sym (h ∙ ap (λ c. if c then old else old ++ state ∷ []) none)) (AddsAll-push old state)

pub one_value : (x v : ℕ) → Contains (x ∷ []) v → x ≡ v
one_value x v there =
    let p = place_in (x ∷ []) v there in
    let z : p.0 ≡ 0 = let w = p.1 in omega (arith, w) in
    subst (λ n. get_or (x ∷ []) n 0 ≡ v) z p.2

before_wider : {xs : List ℕ} (y : ℕ) {a b : ℕ} → ComesBefore xs a b → ComesBefore (xs ++ y ∷ []) a b
before_wider {xs} y h =
    let less = h.less in
    let within = h.within in
    let l = length_push xs y in
    record {
      place = h.place;
      later = h.later;
      less = less;
      within = omega (arith, l, within);
      is = get_or_append_left xs (y ∷ []) 0 h.place (omega (arith, less, within)) ∙ h.is;
      later_is = get_or_append_left xs (y ∷ []) 0 h.later within ∙ h.later_is;
    }

-- one value more
pub AddsAll-more : {old mid new : List ℕ} (values : List ℕ) (i x : ℕ) → i < length values → x ≡ get_or values i 0 → AddsAll old mid (take i values)
    → AddsAll mid new (x ∷ []) → AddsAll old new (take (i + 1) values)
AddsAll-more {old} {mid} {new} values i x within is f g =
    let more = take_more values i 0 within ∙ ap (λ v. take i values ++ v ∷ []) (sym is) in
    subst (AddsAll old new) (sym more) (record {
      longer = let a = f.longer in let b = g.longer in omega arith;
      kept = λ place below. g.kept place (let a = f.longer in omega arith) ∙ f.kept place below;
      has = λ value there. elim (Contains-push_cases (take i values) x value there) [
        | inl before ↦ Contains-kept g value (f.has value before)
        | inr last ↦ subst (Contains new) last (g.has x (Contains-at (x ∷ []) 0 x (omega arith) refl))
      ];
      added = λ place past inside. elim (cases_lt place (length mid)) [
        | inl before ↦ subst (Contains (take i values ++ x ∷ [])) (sym (g.kept place before)) (wider (take i values) x _ (f.added place past before))
        | inr after ↦
            let one = place_in (x ∷ []) _ (g.added place after inside) in
            let z : one.0 ≡ 0 = let w = one.1 in omega (arith, w) in
            let e : x ≡ get_or new place 0 = subst (λ n. get_or (x ∷ []) n 0 ≡ get_or new place 0) z one.2 in
            Contains-at (take i values ++ x ∷ []) (length (take i values)) _ (let l = length_push (take i values) x in omega (arith, l))
            (get_or_push (take i values) x 0 (length (take i values)) refl ∙ e)
      ];
      in_order = λ u v past less inside. elim (cases_lt v (length mid)) [
        | inl before ↦
            let r = f.in_order u v past less before in
            subst (λ n. ComesBefore (take i values ++ x ∷ []) n (get_or new v 0)) (sym (g.kept u (omega (arith, less, before))))
            (subst (ComesBefore (take i values ++ x ∷ []) (get_or mid u 0)) (sym (g.kept v before)) (before_wider x r))
        | inr after ↦ elim (cases_lt u (length mid)) [
          | inr both ↦ let r = g.in_order u v both less inside in let p = r.less in let q = r.within in absurd (omega (arith, p, q))
          | inl below ↦
              let first = place_in (take i values) _ (f.added u past below) in
              let l = length_push (take i values) x in
              let w = first.1 in
              record {
                place = first.0;
                later = length (take i values);
                less = w;
                within = omega (arith, l);
                is = get_or_append_left (take i values) (x ∷ []) 0 first.0 w ∙ first.2 ∙ sym (g.kept u below);
                later_is = get_or_push (take i values) x 0 (length (take i values)) refl ∙ one_value x _ (g.added v after inside);
              }
        ]
      ];
    })
  where
    wider : (xs : List ℕ) (y v : ℕ) → Contains xs v → Contains (xs ++ y ∷ []) v
    wider xs y v there =
        let p = place_in xs v there in
        Contains-at (xs ++ y ∷ []) p.0 v (let l = length_push xs y in let w = p.1 in omega (arith, l, w)) (get_or_append_left xs (y ∷ []) 0 p.0 p.1 ∙ p.2)
