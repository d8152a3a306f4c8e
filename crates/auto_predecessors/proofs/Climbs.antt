-- Predecessors upwards: what is listed as lists grow, and the states that are found by the marks.
use Rattle.std.proofs.Common.{◌≡◌, ◌≢◌, ℕ, ◌<◌, ◌≤◌, ◌+◌, Bool, true, false, List, [], ◌∷◌, ◌++◌, length, get_or, slice_get, set, Contains, All, Some, arith, refl, sym, ap, ◌∙◌, subst, inl, inr, zero, suc, true≢false, nat_eq, below_more}
use Rattle.smallvec.specs.SmallVec.{SmallVec}
use Rattle.std.specs.Set.{is_member}
use Rattle.std.proofs.lemmas.Bool.Decides.{Decides-eqb}
use Rattle.std.proofs.lemmas.Bool.{cases_eq, cases_lt, or_cases}
use Rattle.std.proofs.lemmas.List.{length-set, get_or_read, get_or-set_same, get_or-set_other, length_push}
use Rattle.std.proofs.lemmas.List.Elements.{All-get_or, All-from_get_or, All-contains, All-push, Contains-get_or, Contains-push, Contains-push_cases, Contains-append_left, Contains-append_right}
use Rattle.std.proofs.lemmas.Map.Made.{is_member-Decides}
use Rattle.std.proofs.lemmas.Option.{same_Some, slice_get_within, slice_get-get_or, get_or_from_slice_get}
use Rattle.auto_core.specs.Automaton.{Automaton, width, next_state}
use Rattle.auto_predecessors.specs.declared.ways.PlaceTarget.{PlaceTarget}
use Rattle.auto_predecessors.specs.declared.ways.PlaceTarget.TheVariants.{State, Both}
use Rattle.auto_predecessors.specs.declared.ways.Predecessors.{Predecessors}
use Rattle.auto_predecessors.specs.Ways.{FitsAt, mark_of_way, AreMarks, IsListed, AddsListed, AreListedBelow, IsLinked, AreRowWays, unmarked, MarksMore, AreStarted, IsClimbed, AreClimbed}

-- ---- an element that was written
get_set_same : {X : Type 0} (xs : List X) (i : ℕ) (y : X) → i < length xs → slice_get (set xs i y) i ≡ Some y
get_set_same xs i y within =
    let size = length-set xs i y in
    slice_get-get_or (set xs i y) i y (omega (arith, size, within)) ∙ ap Some (get_or-set_same xs i y y within)

get_set_other : {X : Type 0} (xs : List X) (i k : ℕ) (y z : X) → k ≢ i → slice_get xs k ≡ Some z → slice_get (set xs i y) k ≡ Some z
get_set_other xs i k y z ne is =
    let size = length-set xs i y in
    let within = slice_get_within xs k z is in
    slice_get-get_or (set xs i y) k z (omega (arith, size, within)) ∙ ap Some (get_or-set_other xs i k y z ne ∙ get_or_from_slice_get xs k z z is)

get_set_from : {X : Type 0} (xs : List X) (i k : ℕ) (y z : X) → k ≢ i → slice_get (set xs i y) k ≡ Some z → slice_get xs k ≡ Some z
get_set_from xs i k y z ne is =
    let size = length-set xs i y in
    let within = slice_get_within (set xs i y) k z is in
    slice_get-get_or xs k z (omega (arith, size, within)) ∙ ap Some (sym (get_or-set_other xs i k y z ne) ∙ get_or_from_slice_get (set xs i y) k z z is)

-- ---- lists that grow
-- what is at a place is in the list there
listed_in : (lists : List (SmallVec ℕ)) (at x : ℕ) (list : SmallVec ℕ)
    → slice_get lists at ≡ Some list → IsListed lists at x → Contains list.items x
listed_in lists at x list is l = subst (λ v. Contains v.items x) (same_Some l.list list (sym l.is ∙ is)) l.has

pub IsListed-set : (lists : List (SmallVec ℕ)) (at x : ℕ) (list new : SmallVec ℕ)
    → slice_get lists at ≡ Some list → new.items ≡ list.items ++ x ∷ [] → IsListed (set lists at new) at x
IsListed-set lists at x list new is items = record {
  list = new;
  is = get_set_same lists at new (slice_get_within lists at list is);
  has = subst (λ xs. Contains xs x) (sym items) (Contains-push list.items x);
}

pub AddsListed-set : (lists : List (SmallVec ℕ)) (at x : ℕ) (list new : SmallVec ℕ)
    → slice_get lists at ≡ Some list → new.items ≡ list.items ++ x ∷ [] → AddsListed lists (set lists at new) x
AddsListed-set lists at x list new is items = record {
  size = length-set lists at new;
  kept = λ k y l. elim (cases_eq k at) [
    | inl e ↦ record {
      list = new;
      is = subst (λ i. slice_get (set lists at new) i ≡ Some new) (sym e) (get_set_same lists at new (slice_get_within lists at list is));
      has = subst (λ xs. Contains xs y) (sym items) (Contains-append_left list.items (x ∷ []) y (listed_in lists at y list is (subst (λ i. IsListed lists i y) e l)));
    }
    | inr ne ↦ record { list = l.list; is = get_set_other lists at k new l.list ne l.is; has = l.has }
  ];
  only = λ k y l. elim (cases_eq k at) [
    | inl e ↦
        let here = listed_in (set lists at new) at y new (get_set_same lists at new (slice_get_within lists at list is)) (subst (λ i. IsListed (set lists at new) i y) e l) in
        elim (Contains-push_cases list.items x y (subst (λ xs. Contains xs y) items here)) [
          | inl before ↦ inl (record { list = list; is = subst (λ i. slice_get lists i ≡ Some list) (sym e) is; has = before })
          | inr same ↦ inr (sym same)
        ]
    | inr ne ↦ inl (record { list = l.list; is = get_set_from lists at k new l.list ne l.is; has = l.has })
  ];
}

pub AddsListed-trans : {first second third : List (SmallVec ℕ)} {x : ℕ} → AddsListed first second x → AddsListed second third x → AddsListed first third x
AddsListed-trans f s = record {
  size = s.size ∙ f.size;
  kept = λ k y l. s.kept k y (f.kept k y l);
  only = λ k y l. elim (s.only k y l) [ inl before ↦ f.only k y before | inr same ↦ inr same ];
}

pub AreListedBelow-adds : {old new : List (SmallVec ℕ)} {bound : ℕ} → AreListedBelow old bound → AddsListed old new bound → AreListedBelow new (bound + 1)
AreListedBelow-adds b adds = record {
  below = λ k x l. elim (adds.only k x l) [
    | inl before ↦ let less = b.below k x before in omega (arith, less)
    | inr same ↦ omega (arith, same)
  ];
}

-- the list at a place
pub AreListedBelow-all : {lists : List (SmallVec ℕ)} {bound : ℕ} (at : ℕ) (list : SmallVec ℕ) → AreListedBelow lists bound → slice_get lists at ≡ Some list → All (λ x. x < bound) list.items
AreListedBelow-all {bound} at list b is = All-from_get_or (λ x. x < bound) list.items 0
    (λ i inside. b.below at (get_or list.items i 0) (record { list = list; is = is; has = Contains-get_or list.items i 0 inside }))

pub IsLinked-adds : {above more_above leaves more_leaves : List (SmallVec ℕ)} {number : ℕ} (place : ℕ) (way : PlaceTarget) → AddsListed above more_above number
    → AddsListed leaves more_leaves number → IsLinked above leaves place way → IsLinked more_above more_leaves place way
IsLinked-adds place (State state) up down l = down.kept state place l
IsLinked-adds place (Both low high) up down l = (up.kept low place l.0, up.kept high place l.1)

pub FitsAt-later : (states first later : ℕ) (way : PlaceTarget) → first ≤ later → FitsAt states first way → FitsAt states later way
FitsAt-later states first later (State state) le fits = fits
FitsAt-later states first later (Both low high) le fits = let l = fits.0 in let h = fits.1 in (omega (arith, l, le), omega (arith, h, le))

-- ---- marks that grow
unmarked-set : (marks : List Bool) (place : ℕ) → get_or marks place false ≡ false → place < length marks → unmarked (set marks place true) + 1 ≡ unmarked marks
unmarked-set [] place off within = absurd (omega (arith, within))
unmarked-set (true ∷ marks) zero off within = cc
unmarked-set (false ∷ marks) zero off within = refl
unmarked-set (true ∷ marks) (suc place) off within = unmarked-set marks place off (omega (arith, within))
unmarked-set (false ∷ marks) (suc place) off within = ap (λ n. n + 1) (unmarked-set marks place off (omega (arith, within)))

pub MarksMore-trans : {a b c : List Bool} {u v w : List ℕ} → MarksMore a u b v → MarksMore b v c w → MarksMore a u c w
MarksMore-trans {a} {b} {c} {u} {v} {w} f s = record {
  size = s.size ∙ f.size;
  kept = λ p h. s.kept p (f.kept p h);
  waits = λ p h. elim (s.waits p h) [
    | inl before ↦ elim (f.waits p before) [ inl first ↦ inl first | inr there ↦ inr (s.stays p there) ]
    | inr there ↦ inr there
  ];
  stays = λ p h. s.stays p (f.stays p h);
  within = λ h. subst (λ n. All (λ p. p < n) w) f.size (s.within (subst (λ n. All (λ p. p < n) v) (sym f.size) (f.within h)));
  work = let x = f.work in let y = s.work in omega (arith, x, y);
}

pub MarksMore-set : (marks : List Bool) (waiting new : List ℕ) (place : ℕ) → place < length marks → get_or marks place false ≡ false
    → new ≡ waiting ++ place ∷ [] → MarksMore marks waiting (set marks place true) new
MarksMore-set marks waiting new place known off is = rw is (record {
  size = length-set marks place true;
  kept = λ p on. elim (cases_eq p place) [
    | inl e ↦ ap (λ k. get_or (set marks place true) k false) e ∙ get_or-set_same marks place true false known
    | inr ne ↦ get_or-set_other marks place p true false ne ∙ on
  ];
  waits = λ p on. elim (cases_eq p place) [
    | inl e ↦ inr (subst (Contains (waiting ++ place ∷ [])) (sym e) (Contains-push waiting place))
    | inr ne ↦ inl (sym (get_or-set_other marks place p true false ne) ∙ on)
  ];
  stays = λ p h. Contains-append_left waiting (place ∷ []) p h;
  within = λ h. All-push (λ p. p < length marks) waiting place h known;
  work = let less = unmarked-set marks place off known in let more = length_push waiting place in omega (arith, less, more);
})

-- ---- climbing
pub AreClimbed-step : {above owners : List (SmallVec ℕ)} {marks new : List Bool} {waiting rest more found : List ℕ} (place : ℕ)
    (next listed : SmallVec ℕ)
    → AreClimbed above owners marks waiting found → waiting ≡ rest ++ place ∷ []
    → slice_get above place ≡ Some next → slice_get owners place ≡ Some listed → MarksMore marks rest new more
    → All (λ p. get_or new p false ≡ true) next.items → AreClimbed above owners new more (found ++ listed.items)
AreClimbed-step {above} {owners} {new} {rest} {found} place next listed c popped next_is listed_is m marked = record {
  done = λ p on. elim (m.waits p on) [
    | inr there ↦ inl there
    | inl before ↦ elim (c.done p before) [
      | inr done ↦ inr (record {
        up = λ n l. m.kept n (done.up n l);
        rows = λ s l. Contains-append_left found listed.items s (done.rows s l);
      })
      | inl waits ↦ elim (Contains-push_cases rest place p (subst (λ xs. Contains xs p) popped waits)) [
        | inl there ↦ inl (m.stays p there)
        | inr same ↦ inr (subst (IsClimbed above owners new (found ++ listed.items)) same (record {
          up = λ n l. All-contains (λ q. get_or new q false ≡ true) next.items n marked (listed_in above place n next next_is l);
          rows = λ s l. Contains-append_right found listed.items s (listed_in owners place s listed listed_is l);
        }))
      ]
    ]
  ];
}

-- what climbed up to the end is marked wherever it leads to the states
AreMarks-climbed : {a : Automaton} {w : Predecessors} {states : List ℕ} {marks : List Bool} (found : List ℕ) (r : AreRowWays a w) → AreStarted states w.leaves.items marks
    → ((place : ℕ) → get_or marks place false ≡ true → IsClimbed w.above.items w.owners.items marks found place) → AreMarks r.ways (is_member nat_eq states) marks
AreMarks-climbed {w} {states} {marks} found r started done = record { up = λ place way there on. by place way (r.up.linked place way there) on }
  where
    by : (place : ℕ) (way : PlaceTarget) → IsLinked w.above.items w.leaves.items place way → mark_of_way (is_member nat_eq states) marks way ≡ true → get_or marks place false ≡ true
    by place (State state) linked on = started.marked state place ((is_member-Decides Decides-eqb states state).0 on) linked
    by place (Both low high) linked on = elim (or_cases (get_or marks low false) (get_or marks high false) on) [
      | inl l ↦ (done low l).up place linked.0
      | inr h ↦ (done high h).up place linked.1
    ]

pub found_above : {a : Automaton} {w : Predecessors} {states : List ℕ} {marks : List Bool} {found : List ℕ} → AreRowWays a w
    → AreStarted states w.leaves.items marks → AreClimbed w.above.items w.owners.items marks [] found
    → (state letter : ℕ) → state < length a.accept → letter < width a → Contains states (next_state a state letter) → Contains found state
found_above {a} {w} {states} {marks} {found} r started c state letter known below there =
    let place = get_or r.rows state 0 in
    let size = r.placed.size in
    let owned = r.owners.owned state (omega (arith, known, size)) in
    by (get_or marks place false) refl owned
  where
    done : (place : ℕ) → get_or marks place false ≡ true → IsClimbed w.above.items w.owners.items marks found place
    done place on = elim (c.done place on) [
      | inl waits ↦ let less = waits.1 in absurd (omega (arith, less))
      | inr is ↦ is
    ]

    by : (b : Bool) → get_or marks (get_or r.rows state 0) false ≡ b → IsListed w.owners.items (get_or r.rows state 0) state → Contains found state
    by true on owned = (done (get_or r.rows state 0) on).rows state owned
    by false off owned =
        let none = r.placed.none (is_member nat_eq states) marks (AreMarks-climbed found r started done) state letter known below off in
        let is = (is_member-Decides Decides-eqb states (next_state a state letter)).1 there in
        absurd (true≢false (sym is ∙ none))

-- ---- state by state
pub AreStarted-more : (states : List ℕ) (leaves : List (SmallVec ℕ)) (marks new : List Bool) (index : ℕ) (list : SmallVec ℕ)
    → ((k place : ℕ) → k < index → IsListed leaves (get_or states k 0) place → get_or marks place false ≡ true)
    → ((place : ℕ) → get_or marks place false ≡ true → get_or new place false ≡ true)
    → slice_get leaves (get_or states index 0) ≡ Some list → All (λ place. get_or new place false ≡ true) list.items
    → (k place : ℕ) → k < index + 1 → IsListed leaves (get_or states k 0) place → get_or new place false ≡ true
AreStarted-more states leaves marks new index list before kept is marked k place less l = elim (cases_lt k index) [
  | inl low ↦ kept place (before k place low l)
  | inr past ↦
      let same : k ≡ index = omega (arith, less, past) in
      All-contains (λ p. get_or new p false ≡ true) list.items place marked (listed_in leaves (get_or states index 0) place list is (subst (λ i. IsListed leaves (get_or states i 0) place) same l))
]

pub AreStarted-from : (states : List ℕ) (leaves : List (SmallVec ℕ)) (marks : List Bool)
    → ((k place : ℕ) → k < length states → IsListed leaves (get_or states k 0) place → get_or marks place false ≡ true)
    → AreStarted states leaves marks
AreStarted-from states leaves marks each = record {
  marked = λ state place there l.
      let here = get_or_read states there.0 state there.1 (sym there.2) 0 in
      each there.0 place there.1 (subst (λ s. IsListed leaves s place) here l);
}

pub AreStarted-kept : {states : List ℕ} {leaves : List (SmallVec ℕ)} {marks : List Bool} (new : List Bool)
    → ((place : ℕ) → get_or marks place false ≡ true → get_or new place false ≡ true) → AreStarted states leaves marks → AreStarted states leaves new
AreStarted-kept new kept s = record { marked = λ state place there l. kept place (s.marked state place there l) }

-- the last of what waits, and the rest
pub All-last : (bound place : ℕ) (waiting rest : List ℕ) → waiting ≡ rest ++ place ∷ [] → All (λ p. p < bound) waiting → place < bound
All-last bound place waiting rest is all = All-contains (λ p. p < bound) waiting place all (subst (λ xs. Contains xs place) (sym is) (Contains-push rest place))

pub All-waits : (bound place : ℕ) {marks new : List Bool} (waiting : List ℕ) {rest more : List ℕ} → length marks ≡ bound → waiting ≡ rest ++ place ∷ []
    → All (λ p. p < bound) waiting → MarksMore marks rest new more → All (λ p. p < bound) more
All-waits bound place waiting {rest} {more} size is all m = subst (λ n. All (λ p. p < n) more) size (m.within (subst (λ n. All (λ p. p < n) rest) (sym size)
    (All-from_get_or (λ p. p < bound) rest 0 (λ i inside. All-contains (λ p. p < bound) waiting (get_or rest i 0) all
    (subst (λ xs. Contains xs (get_or rest i 0)) (sym is) (Contains-append_left rest (place ∷ []) (get_or rest i 0) (Contains-get_or rest i 0 inside)))))))

-- ---- place by place
pub linked_more : (ways : List PlaceTarget) {above more_above leaves more_leaves : List (SmallVec ℕ)} {index : ℕ} (way : PlaceTarget)
    → ((place : ℕ) (w : PlaceTarget) → place < index → slice_get ways place ≡ Some w → IsLinked above leaves place w)
    → AddsListed above more_above index → AddsListed leaves more_leaves index → slice_get ways index ≡ Some way → IsLinked more_above more_leaves index way
    → (place : ℕ) (w : PlaceTarget) → place < index + 1 → slice_get ways place ≡ Some w → IsLinked more_above more_leaves place w
linked_more ways {more_above} {more_leaves} {index} way before up down at last place w less is = elim (cases_lt place index) [
  | inl low ↦ IsLinked-adds place w up down (before place w low is)
  | inr past ↦
      let same : index ≡ place = omega (arith, less, past) in
      let way_same : way ≡ w = same_Some way w (sym at ∙ ap (λ k. slice_get ways k) same ∙ is) in
      subst (λ k. IsLinked more_above more_leaves k w) same (subst (IsLinked more_above more_leaves index) way_same last)
]

pub owned_more : (rows : List ℕ) {owners more : List (SmallVec ℕ)} {index : ℕ}
    → ((state : ℕ) → state < index → IsListed owners (get_or rows state 0) state) → AddsListed owners more index
    → IsListed more (get_or rows index 0) index
    → (state : ℕ) → state < index + 1 → IsListed more (get_or rows state 0) state
owned_more rows {more} {index} before adds last = below_more (λ state. IsListed more (get_or rows state 0) state) index
    (λ state less. adds.kept (get_or rows state 0) state (before state less)) last
