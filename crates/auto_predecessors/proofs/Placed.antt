-- Nodes by places: what placing one more keeps, and which marks tell of a node.
use Rattle.std.proofs.Common.{◌≡◌, ℕ, ◌<◌, ◌+◌, ◌||◌, nat_eq, if◌then◌else◌, Bool, true, false, List, [], ◌∷◌, ◌++◌, length, get_or, slice_get, set, Option, Some, None, arith, refl, sym, ap, ◌∙◌, subst, inl, inr}
use Rattle.std.specs.Int.{bit_at}
use Rattle.std.proofs.lemmas.Bool.{cases_eq, cases_lt}
use Rattle.std.proofs.lemmas.List.{length_push, get_or_push, get_or_append_left, length-set, get_or-set_same, get_or-set_other}
use Rattle.std.proofs.lemmas.List.Elements.{All-from_get_or}
use Rattle.std.proofs.lemmas.Option.{same_Some, slice_get_within, slice_get-get_or, get_or_from_slice_get}
use Rattle.letter_diagram.specs.declared.diagrams.Shape.{Shape}
use Rattle.letter_diagram.specs.declared.diagrams.Shape.TheVariants.{Leaf, Test}
use Rattle.letter_diagram.specs.Diagram.{map_at, IsAt}
use Rattle.auto_core.specs.Automaton.{Automaton}
use Rattle.auto_predecessors.specs.declared.ways.PlaceTarget.{PlaceTarget}
use Rattle.auto_predecessors.specs.declared.ways.PlaceTarget.TheVariants.{State, Both}
use Rattle.auto_predecessors.specs.RowNodes.{AreRowNodes}
use Rattle.auto_predecessors.specs.Ways.{FitsAt, mark_of_way, AreWays, AreMarks, KeepsWays, IsPlaced, RemembersPlaced, ArePlacedRows}

-- what holds of each entry of a list holds of each with one more
pub each_push : {X : Type 0} (P : ℕ → X → Type 0) (xs : List X) (x : X) → ((k : ℕ) (y : X) → slice_get xs k ≡ Some y → P k y) → P (length xs) x
    → (k : ℕ) (y : X) → slice_get (xs ++ x ∷ []) k ≡ Some y → P k y
each_push P xs x before last k y is =
    let within = slice_get_within (xs ++ x ∷ []) k y is in
    let more = length_push xs x in
    elim (cases_lt k (length xs)) [
      | inl low ↦ before k y (slice_get-get_or xs k y low ∙ ap Some (sym (get_or_append_left xs (x ∷ []) y k low) ∙ get_or_from_slice_get (xs ++ x ∷ []) k y y is))
      | inr past ↦
          let here : length xs ≡ k = omega (arith, within, past, more) in
          let value : x ≡ y = sym (get_or_push xs x y k here) ∙ get_or_from_slice_get (xs ++ x ∷ []) k y y is in
          subst (P k) value (subst (λ i. P i x) here last)
    ]

pub KeepsWays-trans : {first second third : List PlaceTarget} → KeepsWays first second → KeepsWays second third → KeepsWays first third
KeepsWays-trans f g = record { longer = let a = f.longer in let b = g.longer in omega (arith, a, b); at = λ place way h. g.at place way (f.at place way h) }

pub KeepsWays-push : (ways : List PlaceTarget) (way : PlaceTarget) → KeepsWays ways (ways ++ way ∷ [])
KeepsWays-push ways way = record {
  longer = let l = length_push ways way in omega (arith, l);
  at = λ place w h.
      let low = slice_get_within ways place w h in
      let l = length_push ways way in
      slice_get-get_or (ways ++ way ∷ []) place w (omega (arith, low, l)) ∙ ap Some (get_or_append_left ways (way ∷ []) w place low ∙ get_or_from_slice_get ways place w w h);
}

last_way : (ways : List PlaceTarget) (way : PlaceTarget) → slice_get (ways ++ way ∷ []) (length ways) ≡ Some way
last_way ways way = let l = length_push ways way in slice_get-get_or (ways ++ way ∷ []) (length ways) way (omega (arith, l)) ∙ ap Some (get_or_push ways way way (length ways) refl)

-- marks of more ways are marks of these
AreMarks-before : {old new : List PlaceTarget} {states : ℕ → Bool} {marks : List Bool} → KeepsWays old new → AreMarks new states marks → AreMarks old states marks
AreMarks-before kept m = record { up = λ place way h. m.up place way (kept.at place way h) }

pub IsPlaced-grows : {shapes : List Shape} {old new : List PlaceTarget} {node place : ℕ} → KeepsWays old new → IsPlaced shapes old node place → IsPlaced shapes new node place
IsPlaced-grows {old = old} {new = new} kept is = record {
  within = let w = is.within in let l = kept.longer in omega (arith, w, l);
  none = λ states marks m. is.none states marks (AreMarks-before kept m);
}

pub AreWays-push : (states : ℕ) (ways : List PlaceTarget) (way : PlaceTarget) → AreWays states ways → FitsAt states (length ways) way → AreWays states (ways ++ way ∷ [])
AreWays-push states ways way before last = each_push (FitsAt states) ways way before last

-- ---- a node behind the nodes to which it leads
-- what would set a mark is off where the mark is
off_below : (on : Bool) {mark : Bool} → (on ≡ true → mark ≡ true) → mark ≡ false → on ≡ false
off_below true sets off = sym (sets refl) ∙ off
off_below false sets off = refl

pub IsPlaced-leaf : {shapes : List Shape} (ways : List PlaceTarget) {node : ℕ} (state : ℕ) → IsAt shapes node (Leaf state) → IsPlaced shapes (ways ++ State state ∷ []) node (length ways)
IsPlaced-leaf ways state at = record {
  within = let l = length_push ways (State state) in omega (arith, l);
  none = λ states marks m off letter. ap states (at.map letter) ∙ off_below (states state) (m.up (length ways) (State state) (last_way ways (State state))) off;
}

or_false : (a b : Bool) → (a || b) ≡ false → (a ≡ false) × (b ≡ false)
or_false true b off = cc
or_false false true off = cc
or_false false false off = (refl, refl)

either_off : (states : ℕ → Bool) (bit : Bool) (x y : ℕ) → states x ≡ false → states y ≡ false → states (if bit then x else y) ≡ false
either_off states true x y low high = low
either_off states false x y low high = high

pub IsPlaced-test : {shapes : List Shape} {ways : List PlaceTarget} {node track low high l h : ℕ} → IsAt shapes node (Test track low high)
    → IsPlaced shapes ways low l → IsPlaced shapes ways high h → IsPlaced shapes (ways ++ Both l h ∷ []) node (length ways)
IsPlaced-test {shapes} {ways} {node} {track} {low} {high} {l} {h} at lp hp = record {
  within = let l = length_push ways (Both l h) in omega (arith, l);
  none = λ states marks m off letter.
      let before = AreMarks-before (KeepsWays-push ways (Both l h)) m in
      let both = or_false (get_or marks l false) (get_or marks h false) (off_below (mark_of_way states marks (Both l h)) (m.up (length ways) (Both l h) (last_way ways (Both l h))) off) in
      ap states (at.map letter)
      ∙ either_off states (nat_eq (bit_at letter track) 0) (map_at shapes low letter) (map_at shapes high letter)
      (lp.none states marks before both.0 letter) (hp.none states marks before both.1 letter);
}

pub IsPlaced-low : {shapes : List Shape} {first ways : List PlaceTarget} {node track low high l h : ℕ} → KeepsWays first ways
    → IsAt shapes node (Test track low high) → IsPlaced shapes first low l → IsPlaced shapes ways high h
    → IsPlaced shapes (ways ++ Both l h ∷ []) node (length ways)
IsPlaced-low kept at lp hp = IsPlaced-test at (IsPlaced-grows kept lp) hp

-- ---- places that are remembered
RemembersPlaced-grows : {states : ℕ} {shapes : List Shape} {old new : List PlaceTarget} {places : List (Option ℕ)} → KeepsWays old new → AreWays states new
    → RemembersPlaced states shapes old places → RemembersPlaced states shapes new places
RemembersPlaced-grows kept fits all = record {
  size = all.size;
  fits = fits;
  placed = λ node place at. IsPlaced-grows kept (all.placed node place at);
}

RemembersPlaced-set : {states : ℕ} {shapes : List Shape} {ways : List PlaceTarget} {places : List (Option ℕ)} (node : ℕ) {place : ℕ}
    → RemembersPlaced states shapes ways places → node < length places → IsPlaced shapes ways node place
    → RemembersPlaced states shapes ways (set places node (Some place))
RemembersPlaced-set {shapes} {ways} {places} node {place} all within is = record {
  size = length-set places node (Some place) ∙ all.size;
  fits = all.fits;
  placed = λ n p at. elim (cases_eq node n) [
    | inl e ↦
        let here = subst (λ i. get_or (set places node (Some place)) i None ≡ Some p) (sym e) at in
        let same = same_Some place p (sym (get_or-set_same places node (Some place) None within) ∙ here) in
        subst (λ i. IsPlaced shapes ways i p) e (subst (IsPlaced shapes ways node) same is)
    | inr ne ↦ all.placed n p (sym (get_or-set_other places node n (Some place) None (λ e. ne (sym e))) ∙ at)
  ];
}

pub RemembersPlaced-next : {states : ℕ} {shapes : List Shape} {ways : List PlaceTarget} (new : List PlaceTarget) {places : List (Option ℕ)} (more : List (Option ℕ)) (way : PlaceTarget) {node : ℕ}
    → RemembersPlaced states shapes ways places → FitsAt states (length ways) way → node < length shapes
    → IsPlaced shapes (ways ++ way ∷ []) node (length ways) → new ≡ ways ++ way ∷ [] → more ≡ set places node (Some (length ways)) → RemembersPlaced states shapes new more
RemembersPlaced-next {states} {ways} new more way {node} remembered fits known placed are updates =
    let grown = RemembersPlaced-grows (KeepsWays-push ways way) (AreWays-push states ways way remembered.fits fits) remembered in
    let size = remembered.size in
    rw (are, updates) (RemembersPlaced-set node grown (omega (arith, known, size)) placed)

-- ---- the rows of an automaton
pub placed_push : {shapes : List Shape} {old new : List PlaceTarget} (rows places : List ℕ) (index : ℕ) {place : ℕ} → KeepsWays old new → length places ≡ index
    → ((k : ℕ) → k < index → IsPlaced shapes old (get_or rows k 0) (get_or places k 0))
    → IsPlaced shapes new (get_or rows index 0) place → (k : ℕ) → k < index + 1 → IsPlaced shapes new (get_or rows k 0) (get_or (places ++ place ∷ []) k 0)
placed_push {shapes} {new} rows places index {place} kept size before last k less = elim (cases_lt k index) [
  | inl low ↦ subst (IsPlaced shapes new (get_or rows k 0)) (sym (get_or_append_left places (place ∷ []) 0 k (omega (arith, low, size))))
      (IsPlaced-grows kept (before k low))
  | inr past ↦
      let same : index ≡ k = omega (arith, less, past) in
      subst (IsPlaced shapes new (get_or rows k 0)) (sym (get_or_push places place 0 k (size ∙ same))) (subst (λ n. IsPlaced shapes new (get_or rows n 0) place) same last)
]

pub ArePlacedRows-from : {a : Automaton} {rows : List ℕ} (ways : List PlaceTarget) (places : List ℕ) → AreRowNodes a rows → AreWays (length a.accept) ways → length places ≡ length rows
    → ((state : ℕ) → state < length rows → IsPlaced a.shapes ways (get_or rows state 0) (get_or places state 0)) → ArePlacedRows a ways places
ArePlacedRows-from ways places r fits size placed = record {
  fits = fits;
  size = size ∙ r.size;
  within = All-from_get_or (λ place. place < length ways) places 0 (λ state inside. (placed state (omega (arith, inside, size))).within);
  none = λ states marks m state letter known below off.
      let p = placed state (let s = r.size in omega (arith, s, known)) in
      subst (λ v. states v ≡ false) (r.leads state letter known below) (p.none states marks m off letter);
}
