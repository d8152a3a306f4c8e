-- CanonicalRows in which states that were met stand for one another, and what they add to an order.
use Rattle.std.proofs.Common.{◌≡◌, ◌≢◌, ℕ, ◌<◌, ◌≤◌, Bool, true, false, nat_eq, List, [], ◌∷◌, ◌++◌, length, get_or, set, Option, Contains, AllPairs, arith, refl, true≢false, sym, ap, ◌∙◌, subst, inl, inr, ◌⊎◌, if◌then◌else◌}
use Rattle.std.specs.Int.{bit_at}
use Rattle.std.proofs.lemmas.Bool.{cases_eq}
use Rattle.std.proofs.lemmas.List.{get_or-set_other}
use Rattle.letter_diagram.specs.declared.diagrams.Shape.{Shape}
use Rattle.letter_diagram.specs.declared.diagrams.Shape.TheVariants.{Leaf, Test}
use Rattle.letter_diagram.specs.Diagram.{map_at, top_track, chosen, IsAt, Grows, HasChildren}
use Rattle.letter_diagram.specs.Leaves.{AreLeaves}
use Rattle.letter_diagram.specs.NodeMemo.{answer_of}
use Rattle.letter_diagram.specs.Carried.{Learns}
use Rattle.auto_reduce.specs.Quotient.{AddsAll}
use Rattle.auto_refine.specs.Leading.{entry_at}
use Rattle.auto_reduce.specs.Unmet.{AddsRow, IsMetLeaf, IsPruned, RemembersPruned, StandsFor, AreDone, IsFound, Finds, AreDoneWith, AreDoneBut, canonical_at}
use Rattle.auto_reduce.specs.declared.unmet.CanonicalRows.{CanonicalRows}
use Rattle.auto_reduce.specs.declared.unmet.Unmet.{Unmet}
use Rattle.auto_reduce.specs.declared.unmet.Unmet.TheVariants.{Nothing, One, Several}
use Rattle.std.proofs.lemmas.List.Elements.{Contains-push, Contains-append_left}
use Rattle.auto_reduce.proofs.Orders.{place_in, Contains-kept, one_value}
use Rattle.auto_reduce.proofs.Quotients.{different_places}

-- a table's entry at one of two values
entry-either : (table : List ℕ) (b : Bool) (v w : ℕ) → get_or table (if b then v else w) 0 ≡ (if b then get_or table v 0 else get_or table w 0)
entry-either table true v w = refl
entry-either table false v w = refl

pub IsMetLeaf-grows : {old new : List Shape} {met : List ℕ} {leaf : ℕ} → Grows old new → IsMetLeaf old met leaf → IsMetLeaf new met leaf
IsMetLeaf-grows {met = met} {leaf = leaf} grows is =
    let known = is.known in
    let longer = grows.longer in
    record {
      known = omega arith;
      top = grows.top leaf is.known ∙ is.top;
      is_met = λ letter. subst (Contains met) (sym (grows.map leaf letter is.known)) (is.is_met letter);
    }

pub IsPruned-grows : {rows : CanonicalRows} {old new : List Shape} {met : List ℕ} {a r : ℕ} → Grows old new → IsPruned rows old met a r → IsPruned rows new met a r
IsPruned-grows {rows = rows} {met = met} {a = a} {r = r} grows is =
    let known = is.known in
    let longer = grows.longer in
    let top = is.top in
    let top_r = grows.top r is.known in
    record {
      known = omega arith;
      map = λ letter. subst (λ v. StandsFor met v (canonical_at rows a letter)) (sym (grows.map r letter is.known)) (is.map letter);
      top = omega arith;
    }

pub RemembersPruned-grows : {rows : CanonicalRows} {old new : List Shape} {met : List ℕ} {memo : List (Option ℕ)} → Grows old new
    → RemembersPruned rows old met memo → RemembersPruned rows new met memo
RemembersPruned-grows grows all = record { pruned = λ a r at. IsPruned-grows grows (all.pruned a r at) }

pub RemembersPruned-learns : {rows : CanonicalRows} {shapes : List Shape} {met : List ℕ} {memo new : List (Option ℕ)} {a r : ℕ} → RemembersPruned rows shapes met memo
    → Learns (answer_of memo) (answer_of new) a r → IsPruned rows shapes met a r → RemembersPruned rows shapes met new
RemembersPruned-learns {rows = rows} {shapes = shapes} {met = met} {a = a} all learns is = record {
  pruned = λ b s at. elim (learns.only b s at) [
    | inl before ↦ all.pruned b s before
    | inr now ↦ subst (λ n. IsPruned rows shapes met n s) (sym now.0) (subst (IsPruned rows shapes met a) (sym now.1) is)
  ];
}

pub IsPruned-leaf : (rows : CanonicalRows) (shapes : List Shape) (met : List ℕ) {a : ℕ} (r state value : ℕ)
    → IsAt rows.from.now a (Leaf state) → value ≡ get_or rows.canon.now state 0
    → r < length shapes → top_track shapes r ≡ 20 → ((letter : ℕ) → StandsFor met (map_at shapes r letter) value) → IsPruned rows shapes met a r
IsPruned-leaf rows shapes met r state value at is known top map = record {
  known = known;
  map = λ letter. subst (StandsFor met (map_at shapes r letter)) (is ∙ sym (ap (λ v. get_or rows.canon.now v 0) (at.map letter))) (map letter);
  top = let t = at.top in omega (arith, t, top);
}

either : (met : List ℕ) (b : Bool) (v w x y : ℕ) → StandsFor met v w → StandsFor met x y → StandsFor met (if b then v else x) (if b then w else y)
either met true v w x y p q = p
either met false v w x y p q = q

pub IsPruned-test : {rows : CanonicalRows} {mid : List Shape} (shapes : List Shape) {met : List ℕ} {a : ℕ} (r track low high : ℕ) {low' high' : ℕ}
    → IsAt rows.from.now a (Test track low high)
    → IsPruned rows mid met low low' → IsPruned rows mid met high high'
    → r < length shapes → ((letter : ℕ) → map_at shapes r letter ≡ chosen mid track low' high' letter) → track ≤ top_track shapes r → IsPruned rows shapes met a r
IsPruned-test {rows} {mid} shapes {met} {a} r track low high {low'} {high'} at l h known map top = record {
  known = known;
  map = λ letter.
      let from = rows.from.now in
      let canon = rows.canon.now in
      let entry = ap (λ v. get_or canon v 0) (at.map letter) ∙ entry-either canon (nat_eq (bit_at letter track) 0) (map_at from low letter) (map_at from high letter) in
      subst (λ v. StandsFor met v (canonical_at rows a letter)) (sym (map letter))
      (subst (StandsFor met (chosen mid track low' high' letter)) (sym entry)
      (either met (nat_eq (bit_at letter track) 0) (map_at mid low' letter) (canonical_at rows low letter) (map_at mid high' letter)
      (canonical_at rows high letter) (l.map letter) (h.map letter)));
  top = subst (λ t. t ≤ top_track shapes r) (sym at.top) top;
}

-- where one more node is noted as done, any other was before
done_before : (done new : List Bool) (node other : ℕ) → new ≡ set done node true → get_or new other false ≡ true → (get_or done other false ≡ true) ⊎ (other ≡ node)
done_before done new node other noted there = elim (cases_eq other node) [
  | inl e ↦ inr e
  | inr apart ↦ inl (sym (ap (λ l. get_or l other false) noted ∙ get_or-set_other done node other true false apart) ∙ there)
]

pub AreDone-note : (rows : CanonicalRows) (shapes : List Shape) {met : List ℕ} {done : List Bool} (new : List Bool) (node r : ℕ)
    → AreDone (canonical_at rows) met done → new ≡ set done node true
    → IsPruned rows shapes met node r → IsMetLeaf shapes met r → AreDone (canonical_at rows) met new
AreDone-note rows shapes {met} {done} new node r all noted is leaf = record {
  are_met = λ other letter there. elim (done_before done new node other noted there) [
    | inl before ↦ all.are_met other letter before
    | inr e ↦ subst (λ n. Contains met (canonical_at rows n letter)) (sym e) (here letter)
  ];
}
  where
    here : (letter : ℕ) → Contains met (canonical_at rows node letter)
    here letter = elim (is.map letter) [ inl same ↦ subst (Contains met) same (leaf.is_met letter) | inr both ↦ both.1 ]

pub AreDone-more : {states : ℕ → ℕ → ℕ} {old new values : List ℕ} {done : List Bool} → AddsAll old new values → AreDone states old done → AreDone states new done
AreDone-more {old = old} {new = new} {values = values} adds all = record { are_met = λ node letter there. Contains-kept adds _ (all.are_met node letter there) }

pub AreDone-none : (states : ℕ → ℕ → ℕ) (met : List ℕ) (done : List Bool) → ((node : ℕ) → get_or done node false ≡ false) → AreDone states met done
AreDone-none states met done none = record { are_met = λ node letter there. absurd (true≢false (sym there ∙ none node)) }

-- ---- what is added
module _ (to : List Shape) (row : ℕ → ℕ) (r : ℕ) (old new leaves : List ℕ)
    (is : (letter : ℕ) → StandsFor old (map_at to r letter) (row letter)) (are : AreLeaves to r leaves) (adds : AddsAll old new leaves)
    (apart : AllPairs (λ j k. j ≢ k) new) where
  unmet : (place : ℕ) → length old ≤ place → place < length new → Contains old (get_or new place 0) → ⊥
  unmet place past within there =
      let p = place_in old (get_or new place 0) there in
      let p_in = p.1 in
      let longer = adds.longer in
      let same = different_places new apart p.0 place (omega (arith, p_in, longer)) within (adds.kept p.0 p.1 ∙ p.2) in
      omega (arith, same, p_in, past)

  forth : (letter place : ℕ) → length old ≤ place → place < length new → map_at to r letter ≡ get_or new place 0 → row letter ≡ get_or new place 0
  forth letter place past within e = elim (is letter) [
    | inl same ↦ sym same ∙ e
    | inr both ↦ absurd (unmet place past within (subst (Contains old) e both.0))
  ]

  back : (letter place : ℕ) → length old ≤ place → place < length new → row letter ≡ get_or new place 0 → map_at to r letter ≡ get_or new place 0
  back letter place past within e = elim (is letter) [
    | inl same ↦ same ∙ e
    | inr both ↦ absurd (unmet place past within (subst (Contains old) e both.1))
  ]

  pub AddsRow-pruned : AddsRow row old new
  AddsRow-pruned = record {
    longer = adds.longer;
    kept = adds.kept;
    has = λ letter. elim (is letter) [
      | inl same ↦ subst (Contains new) same (adds.has _ (are.all letter))
      | inr both ↦ Contains-kept adds _ both.1
    ];
    added = λ place past within.
        let p = place_in leaves _ (adds.added place past within) in
        let g = are.given p.0 p.1 in
        (g.0, forth g.0 place past within (g.1 ∙ p.2));
    in_order = λ i j past less within.
        let b = adds.in_order i j past less within in
        let o = are.ordered b.place b.later b.less b.within in
        let i_in : i < length new = omega (arith, less, within) in
        let j_past : length old ≤ j = omega (arith, past, less) in
        (o.0, forth o.0 i past i_in (o.1 ∙ b.is), λ letter e. o.2 letter (back letter j j_past within e ∙ sym b.later_is));
  }

-- the first row is added whole
pub AddsRow-first : {to : List Shape} (row : ℕ → ℕ) {r : ℕ} {new leaves : List ℕ} → ((letter : ℕ) → map_at to r letter ≡ row letter)
    → AreLeaves to r leaves → AddsAll [] new leaves → AllPairs (λ j k. j ≢ k) new → AddsRow row [] new
AddsRow-first {to} row {r} {new} {leaves} is are adds apart = AddsRow-pruned to row r [] new leaves (λ letter. inl (is letter)) are adds apart

-- ---- what is found before any diagram is made
is_one : Unmet → Bool
is_one Nothing = false
is_one (One state) = true
is_one Several = false

Nothing≢One : (state : ℕ) → Nothing ≡ One state → ⊥
unfolding is_one
Nothing≢One state e = true≢false (sym (ap is_one e))

found-either : (met : List ℕ) (found : Unmet) (b : Bool) (v w : ℕ) → IsFound met found v → IsFound met found w → IsFound met found (if b then v else w)
found-either met found true v w p q = p
found-either met found false v w p q = q

pub Finds-leaf : (from : List Shape) (canon met : List ℕ) (before : Unmet) {after : Unmet} (node state : ℕ) → IsAt from node (Leaf state)
    → Finds met before (λ letter. get_or canon state 0) after → Finds met before (entry_at canon from node) after
Finds-leaf from canon met before {after} node state at f =
    let same : (letter : ℕ) → get_or canon state 0 ≡ entry_at canon from node letter = λ letter. sym (ap (λ v. get_or canon v 0) (at.map letter)) in
    record {
      leads = λ letter. subst (IsFound met after) (same letter) (f.leads letter);
      kept = f.kept;
      given = λ s e. elim (f.given s e) [
        | inl before_is ↦ inl before_is
        | inr u ↦ inr (record { letter = u.letter; is = sym (same u.letter) ∙ u.is; unmet = u.unmet })
      ];
    }

pub Finds-test : (from : List Shape) (canon met : List ℕ) (before : Unmet) {mid after : Unmet} (node track low high : ℕ)
    → IsAt from node (Test track low high) → HasChildren from node (Test track low high)
    → Finds met before (entry_at canon from low) mid → Finds met mid (entry_at canon from high) after → Finds met before (entry_at canon from node) after
Finds-test from canon met before {after} node track low high at children l h = record {
  leads = λ letter.
      let entry = ap (λ v. get_or canon v 0) (at.map letter) ∙ entry-either canon (nat_eq (bit_at letter track) 0) (map_at from low letter) (map_at from high letter) in
      subst (IsFound met after) (sym entry)
      (found-either met after (nat_eq (bit_at letter track) 0) (entry_at canon from low letter) (entry_at canon from high letter)
      (h.kept (entry_at canon from low letter) (l.leads letter)) (h.leads letter));
  kept = λ value f. h.kept value (l.kept value f);
  given = λ s e. elim (h.given s e) [
    | inl mid_is ↦ elim (l.given s mid_is) [
      | inl before_is ↦ inl before_is
      | inr u ↦ inr (let v = (children u.letter).0 in record { letter = v.0; is = ap (λ x. get_or canon x 0) v.1 ∙ u.is; unmet = u.unmet })
    ]
    | inr u ↦ inr (let v = (children u.letter).1 in record { letter = v.0; is = ap (λ x. get_or canon x 0) v.1 ∙ u.is; unmet = u.unmet })
  ];
}

pub AreDoneWith-kept : {states : ℕ → ℕ → ℕ} {met : List ℕ} {before after : Unmet} {row : ℕ → ℕ} {done : List Bool} → Finds met before row after
    → AreDoneWith states met before done → AreDoneWith states met after done
AreDoneWith-kept {states} f all = record { are_found = λ node letter there. f.kept (states node letter) (all.are_found node letter there) }

pub AreDoneWith-note : (states : ℕ → ℕ → ℕ) (met : List ℕ) (before after : Unmet) (done new : List Bool) (node : ℕ)
    → AreDoneWith states met after done → new ≡ set done node true → Finds met before (states node) after
    → AreDoneWith states met after new
AreDoneWith-note states met before after done new node all noted f = record {
  are_found = λ other letter there. elim (done_before done new node other noted there) [
    | inl was ↦ all.are_found other letter was
    | inr e ↦ subst (λ n. IsFound met after (states n letter)) (sym e) (f.leads letter)
  ];
}

pub AreDoneBut-note : {states : ℕ → ℕ → ℕ} {met nodes : List ℕ} {done : List Bool} (new : List Bool) (node : ℕ) → AreDoneBut states met nodes done
    → new ≡ set done node true → AreDoneBut states met (nodes ++ node ∷ []) new
AreDoneBut-note {nodes} {done} new node all noted = record {
  are_met = λ other there. elim (done_before done new node other noted there) [
    | inl was ↦ elim (all.are_met other was) [
      | inl passed ↦ inl (Contains-append_left nodes (node ∷ []) other passed)
      | inr met_all ↦ inr met_all
    ]
    | inr e ↦ inl (subst (Contains (nodes ++ node ∷ [])) (sym e) (Contains-push nodes node))
  ];
}

pub AreDone-from_none : (states : ℕ → ℕ → ℕ) (met : List ℕ) (done : List Bool) → AreDoneWith states met Nothing done → AreDone states met done
AreDone-from_none states met done all = record { are_met = all.are_found }

one_added : {old new : List ℕ} (state value : ℕ) → AddsAll old new (state ∷ []) → IsFound old (One state) value → Contains new value
one_added state value adds found = elim found [
  | inl there ↦ Contains-kept adds value there
  | inr e ↦ adds.has value (subst (Contains (state ∷ [])) (sym e) (Contains-push [] state))
]

pub AreDone-from_one : (states : ℕ → ℕ → ℕ) {old new : List ℕ} (state : ℕ) (done : List Bool) → AddsAll old new (state ∷ [])
    → AreDoneWith states old (One state) done → AreDone states new done
AreDone-from_one states state done adds all = record { are_met = λ node letter there. one_added state (states node letter) adds (all.are_found node letter there) }

pub AddsRow-none : {met : List ℕ} {row : ℕ → ℕ} → Finds met Nothing row Nothing → AddsRow row met met
AddsRow-none f = record {
  longer = omega arith;
  kept = λ place within. refl;
  has = f.leads;
  added = λ place past within. absurd (omega (arith, past, within));
  in_order = λ i j past less within. absurd (omega (arith, past, less, within));
}

pub AddsRow-one : {old new : List ℕ} {row : ℕ → ℕ} (state : ℕ) → Finds old Nothing row (One state) → AddsAll old new (state ∷ []) → AddsRow row old new
AddsRow-one {new} {row} state f adds = record {
  longer = adds.longer;
  kept = adds.kept;
  has = λ letter. one_added state (row letter) adds (f.leads letter);
  added = λ place past within. elim (f.given state refl) [
    | inl none ↦ absurd (Nothing≢One state none)
    | inr u ↦ (u.letter, u.is ∙ one_value state (get_or new place 0) (adds.added place past within))
  ];
  in_order = λ i j past less within.
      let b = adds.in_order i j past less within in
      absurd (let l = b.less in let w = b.within in omega (arith, l, w));
}
