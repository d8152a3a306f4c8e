-- Lists of the states of classes, and what is looked at in them.
use Rattle.std.proofs.Common.{◌≡◌, ◌≢◌, ◌⊎◌, ℕ, ◌<◌, ◌+◌, List, [], ◌∷◌, ◌++◌, length, get_or, map, set, All, Contains, replicate, arith, refl, sym, ap, ◌∙◌, subst, inl, inr}
use Rattle.std.proofs.lemmas.Bool.{cases_lt, cases_eq}
use Rattle.std.proofs.lemmas.List.{length-set, get_or_default, get_or-map, get_or-set_same, get_or-set_other, length-replicate}
use Rattle.std.proofs.lemmas.List.Elements.{All-get_or, All-push, All-append, All-from_get_or, Contains-get_or, Contains-push, Contains-push_cases, Contains-append_left, Contains-append_right}
use Rattle.auto_refine.specs.declared.classes.Partition.{Partition}
use Rattle.auto_refine.specs.Coarsest.{AreMembers, IsPartition}
use Rattle.auto_refine.specs.Listing.{IsListing, AreListed, ArePruned}
use Rattle.auto_refine.specs.Moves.{AreCandidates}
use Rattle.auto_refine.proofs.Splits.{none, empty}

-- ---- states that are put into lists
-- a list in a list of lists, as it was read
pub list_read : {X Y : Type 0} (f : X → Y) (xs : List X) (i : ℕ) (x : X) (none : Y) → i < length xs → x ≡ get_or xs i x → get_or (map f xs) i none ≡ f x
list_read f xs i x none inside read = get_or-map f xs i x none inside ∙ ap f (sym read)

-- the first states in the lists of their classes too
pub record AreListedTo (old : List (List ℕ)) (states classes : List ℕ) (new : List (List ℕ)) (turns : ℕ) : Type 0 where
  pub size : length new ≡ length old
  pub kept : (class state : ℕ) → Contains (get_or old class []) state → Contains (get_or new class []) state
  pub added : (turn : ℕ) → turn < turns → Contains (get_or new (get_or classes turn 0) []) (get_or states turn 0)
  pub only : (class state : ℕ) → Contains (get_or new class []) state → Contains (get_or old class []) state ⊎ Contains states state

module _ (lists : List (List ℕ)) (class state : ℕ) (within : class < length lists) where
  abbrev more : List ℕ
  more = get_or lists class [] ++ state ∷ []

  here : get_or (set lists class more) class [] ≡ more
  here = get_or-set_same lists class more [] within

  put_keeps : (c x : ℕ) → Contains (get_or lists c []) x → Contains (get_or (set lists class more) c []) x
  put_keeps c x there = elim (cases_eq c class) [
    | inl e ↦ subst (λ k. Contains (get_or (set lists class more) k []) x) (sym e) (subst (λ list. Contains list x) (sym here)
        (Contains-append_left (get_or lists class []) (state ∷ []) x (subst (λ k. Contains (get_or lists k []) x) e there)))
    | inr other ↦ subst (λ list. Contains list x) (sym (get_or-set_other lists class c more [] other)) there
  ]

  put_there : Contains (get_or (set lists class more) class []) state
  put_there = subst (λ list. Contains list state) (sym here) (Contains-push (get_or lists class []) state)

  put_only : (c x : ℕ) → Contains (get_or (set lists class more) c []) x → Contains (get_or lists c []) x ⊎ (state ≡ x)
  put_only c x there = elim (cases_eq c class) [
    | inl e ↦ subst (λ k. Contains (get_or lists k []) x ⊎ (state ≡ x)) (sym e) (Contains-push_cases (get_or lists class []) state x
        (subst (λ list. Contains list x) here (subst (λ k. Contains (get_or (set lists class more) k []) x) e there)))
    | inr other ↦ inl (subst (λ list. Contains list x) (get_or-set_other lists class c more [] other) there)
  ]

pub AreListedTo-put : {old : List (List ℕ)} {states classes : List ℕ} {new : List (List ℕ)} (next : List (List ℕ)) {turn : ℕ} (class state : ℕ)
    → AreListedTo old states classes new turn → turn < length states → class < length new
    → class ≡ get_or classes turn 0 → state ≡ get_or states turn 0 → next ≡ set new class (get_or new class [] ++ state ∷ []) → AreListedTo old states classes next (turn + 1)
AreListedTo-put {states} {classes} {new} next {turn} class state t within inside class_is state_is is = record {
  size = ap length is ∙ length-set new class (get_or new class [] ++ state ∷ []) ∙ t.size;
  kept = λ c x there. subst (λ lists. Contains (get_or lists c []) x) (sym is) (put_keeps new class state inside c x (t.kept c x there));
  added = λ k less. elim (cases_lt k turn) [
    | inl before ↦ subst (λ lists. Contains (get_or lists (get_or classes k 0) []) (get_or states k 0)) (sym is) (put_keeps new class state inside _ _ (t.added k before))
    | inr past ↦
        let same : turn ≡ k = omega (arith, less, past) in
        subst (λ n. Contains (get_or next (get_or classes n 0) []) (get_or states n 0)) same
        (subst (λ c. Contains (get_or next c []) (get_or states turn 0)) class_is (subst (λ s. Contains (get_or next class []) s) state_is
        (subst (λ lists. Contains (get_or lists class []) state) (sym is) (put_there new class state inside))))
  ];
  only = λ c x there. elim (put_only new class state inside c x (subst (λ lists. Contains (get_or lists c []) x) is there)) [
    | inl before ↦ t.only c x before
    | inr same ↦ inr (subst (Contains states) (sym state_is ∙ same) (Contains-get_or states turn 0 within))
  ];
}

-- all states in the lists of their classes, which were empty
pub IsListing-first : {classes : List ℕ} {count : ℕ} {representatives : List ℕ} (states : List ℕ) {lists : List (List ℕ)} → AreMembers classes count representatives → length states ≡ length classes
    → ((state : ℕ) → state < length classes → get_or states state 0 ≡ state) → AreListed (replicate count []) states classes lists → IsListing classes count representatives lists
IsListing-first {classes} {count} states {lists} members size each l = record {
  members = members;
  size = l.size ∙ length-replicate count [];
  within = λ class state there. elim (l.only class state there) [
    | inl before ↦ absurd (none state (subst (λ list. Contains list state) (empty [] count class) before))
    | inr h ↦
        let inside = h.1 in
        let is = sym (each h.0 (omega (arith, inside, size))) ∙ get_or_default states h.0 0 state inside ∙ h.2 in
        omega (arith, inside, size, is)
  ];
  listed = λ state within.
      let is = each state within in
      let there = l.added state (omega (arith, within, size)) in
      subst (λ s. Contains (get_or lists (get_or classes state 0) []) s) is there;
}

-- ---- lists that are pruned
pub ArePruned-set : (classes : List ℕ) (lists : List (List ℕ)) (class : ℕ) (was kept : List ℕ) → class < length lists → get_or lists class [] ≡ was
    → ((state : ℕ) → Contains kept state → Contains was state)
    → ((state : ℕ) → Contains was state → get_or classes state 0 ≡ class → Contains kept state) → ArePruned classes lists (set lists class kept)
ArePruned-set classes lists class was kept inside was_is fewer stays = record {
  size = length-set lists class kept;
  fewer = λ c state there. elim (cases_eq c class) [
    | inl e ↦
        let in_kept = subst (λ list. Contains list state) (ap (λ k. get_or (set lists class kept) k []) e ∙ get_or-set_same lists class kept [] inside) there in
        subst (λ list. Contains list state) (sym was_is ∙ ap (λ k. get_or lists k []) (sym e)) (fewer state in_kept)
    | inr other ↦ subst (λ list. Contains list state) (get_or-set_other lists class c kept [] other) there
  ];
  kept = λ c state there has. elim (cases_eq c class) [
    | inl e ↦
        let in_was = subst (λ list. Contains list state) (ap (λ k. get_or lists k []) e ∙ was_is) there in
        subst (λ list. Contains list state) (sym (get_or-set_same lists class kept [] inside) ∙ ap (λ k. get_or (set lists class kept) k []) (sym e)) (stays state in_was (has ∙ e))
    | inr other ↦ subst (λ list. Contains list state) (sym (get_or-set_other lists class c kept [] other)) there
  ];
}

pub IsListing-pruned : {classes : List ℕ} {count : ℕ} {representatives : List ℕ} {lists pruned : List (List ℕ)}
    → IsListing classes count representatives lists → ArePruned classes lists pruned → IsListing classes count representatives pruned
IsListing-pruned {classes} l p = record {
  members = l.members;
  size = p.size ∙ l.size;
  within = λ class state there. l.within class state (p.fewer class state there);
  listed = λ state within. p.kept (get_or classes state 0) state (l.listed state within) refl;
}

-- ---- what is looked at
-- the first of some states, and all of a class for which one of these stands
pub record AreCandidatesTo (classes representatives stale found : List ℕ) (turns : ℕ) : Type 0 where
  pub within : All (λ state. state < length classes) found
  pub each : (turn : ℕ) → turn < turns → Contains found (get_or stale turn 0)
  pub led : (turn : ℕ) → turn < turns → (state : ℕ) → state < length classes → get_or stale turn 0 ≡ get_or representatives (get_or classes state 0) 0 → Contains found state

module _ (size : ℕ) (classes : List ℕ) (count : ℕ) (representatives : List ℕ) (lists : List (List ℕ)) (l : IsListing classes count representatives lists) (p : IsPartition size classes count)
    (stale found : List ℕ) (turn state class : ℕ) (t : AreCandidatesTo classes representatives stale found turn)
    (state_is : state ≡ get_or stale turn 0) (known : state < length classes) (class_is : class ≡ get_or classes state 0) where
  -- a state for whose class this one stands is in its class
  stood_for : (s : ℕ) → s < length classes → get_or stale turn 0 ≡ get_or representatives (get_or classes s 0) 0 → class ≡ get_or classes s 0
  stood_for s within is =
      class_is ∙ ap (λ k. get_or classes k 0) (state_is ∙ is) ∙ l.members.has (get_or classes s 0) (All-get_or (λ c. c < count) classes s 0 within p.within)

  pub AreCandidatesTo-list : (list : List ℕ) → get_or lists class [] ≡ list → AreCandidatesTo classes representatives stale (found ++ list) (turn + 1)
  AreCandidatesTo-list list list_is = record {
    within = All-append (λ s. s < length classes) found list t.within (All-from_get_or (λ s. s < length classes) list 0 (λ i inside. l.within class
        (get_or list i 0) (subst (λ all. Contains all (get_or list i 0)) (sym list_is) (Contains-get_or list i 0 inside))));
    each = λ k less. elim (cases_lt k turn) [
      | inl before ↦ Contains-append_left found list _ (t.each k before)
      | inr past ↦
          let same : turn ≡ k = omega (arith, less, past) in
          let there = subst (λ all. Contains all state) (ap (λ c. get_or lists c []) (sym class_is) ∙ list_is) (l.listed state known) in
          subst (λ n. Contains (found ++ list) (get_or stale n 0)) same (subst (λ s. Contains (found ++ list) s) state_is (Contains-append_right found list state there))
    ];
    led = λ k less s within is. elim (cases_lt k turn) [
      | inl before ↦ Contains-append_left found list s (t.led k before s within is)
      | inr past ↦
          let same : turn ≡ k = omega (arith, less, past) in
          let in_class = stood_for s within (ap (λ n. get_or stale n 0) same ∙ is) in
          Contains-append_right found list s (subst (λ all. Contains all s) (ap (λ c. get_or lists c []) (sym in_class) ∙ list_is) (l.listed s within))
    ];
  }

  pub AreCandidatesTo-push : get_or representatives class 0 ≢ state → AreCandidatesTo classes representatives stale (found ++ state ∷ []) (turn + 1)
  AreCandidatesTo-push other = record {
    within = All-push (λ s. s < length classes) found state t.within known;
    each = λ k less. elim (cases_lt k turn) [
      | inl before ↦ Contains-append_left found (state ∷ []) _ (t.each k before)
      | inr past ↦ let same : turn ≡ k = omega (arith, less, past) in subst (λ n. Contains (found ++ state ∷ []) (get_or stale n 0)) same
          (subst (λ s. Contains (found ++ state ∷ []) s) state_is (Contains-push found state))
    ];
    led = λ k less s within is. elim (cases_lt k turn) [
      | inl before ↦ Contains-append_left found (state ∷ []) s (t.led k before s within is)
      | inr past ↦
          let same : turn ≡ k = omega (arith, less, past) in
          let stands = ap (λ n. get_or stale n 0) same ∙ is in
          absurd (other (ap (λ c. get_or representatives c 0) (stood_for s within stands) ∙ sym stands ∙ sym state_is))
    ];
  }

pub AreCandidates-to : (p : Partition) (representatives stale found : List ℕ)
    → AreCandidatesTo p.classes.items representatives stale found (length stale) → AreCandidates p representatives stale found
AreCandidates-to p representatives stale found t = record {
  within = t.within;
  each = λ state there. subst (Contains found) (get_or_default stale there.0 0 state there.1 ∙ there.2) (t.each there.0 there.1);
  led = λ state within there. t.led there.0 there.1 state within (get_or_default stale there.0 0 (get_or representatives (get_or p.classes.items state 0) 0) there.1 ∙ there.2);
}

-- the same states, some of them less often
pub AreCandidates-once : {p : Partition} {representatives stale found : List ℕ} (once : List ℕ) → AreCandidates p representatives stale found
    → All (λ state. state < length p.classes.items) once → ((state : ℕ) → Contains found state → Contains once state)
    → AreCandidates p representatives stale once
AreCandidates-once once c within all = record {
  within = within;
  each = λ state there. all state (c.each state there);
  led = λ state known there. all state (c.led state known there);
}
