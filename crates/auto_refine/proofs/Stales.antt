-- Rows that are led again, and those whose nodes still lead to the right classes.
use Rattle.std.proofs.Common.{◌≡◌, ◌≢◌, ◌⊎◌, ℕ, ◌<◌, ◌+◌, List, [], ◌∷◌, ◌++◌, length, get_or, set, Some, All, Contains, arith, sym, ap, ◌∙◌, subst, inl, inr}
use Rattle.std.proofs.lemmas.Bool.{cases_eq, cases_lt}
use Rattle.std.proofs.lemmas.List.{get_or_read, get_or_default, get_or-set_same, get_or-set_other}
use Rattle.std.proofs.lemmas.List.Elements.{All-get_or, All-from_get_or, Contains-append_left, Contains-get_or, Contains-push}
use Rattle.std.proofs.lemmas.Option.{slice_get-get_or, get_or_from_slice_get}
use Rattle.letter_diagram.specs.declared.diagrams.Shape.{Shape}
use Rattle.letter_diagram.specs.Listed.{EachAnswers}
use Rattle.auto_core.specs.Automaton.{Automaton, next_state}
use Rattle.auto_refine.specs.Coarsest.{AreMembers}
use Rattle.auto_refine.specs.Listing.{IsListing}
use Rattle.auto_refine.specs.Moves.{AreSettled}
use Rattle.auto_predecessors.specs.RowNodes.{AreRowNodes}
use Rattle.auto_refine.specs.Picked.{ArePicked}
use Rattle.auto_refine.specs.Led.{IsLed, IsShared, HasSharing, AreLedRows, AreLedAgain}
use Rattle.auto_refine.specs.Put.{IsPut}
use Rattle.auto_refine.specs.Leading.{IsLedFrom}
use Rattle.auto_refine.proofs.Rounds.{IsLed-from}

-- ---- states whose rows are to be led again
-- two states stand in the list of a class that a state shares
pub shared_listed : {classes : List ℕ} {count : ℕ} {representatives : List ℕ} {lists : List (List ℕ)} {state : ℕ}
    → IsListing classes count representatives lists → state < length classes → IsShared classes state
    → 1 < length (get_or lists (get_or classes state 0) [])
shared_listed {classes} {lists} {state} l within h =
    let list = get_or lists (get_or classes state 0) [] in
    let one = l.listed state within in
    let two = subst (λ class. Contains (get_or lists class []) h.other) (sym h.same) (l.listed h.other h.within) in
    let apart : one.0 ≢ two.0 = (λ e. h.differ (sym one.2 ∙ get_or_default list one.0 state h.other one.1 ∙ ap (λ k. get_or list k h.other) e ∙ two.2)) in
    let first = one.1 in
    let second = two.1 in
    omega (arith, first, second, apart)

-- a state whose class has several states in its list is among the stale ones
abbrev pub IsSorted : List (List ℕ) → List ℕ → List ℕ → ℕ → Type 0
IsSorted lists classes stale state = 1 < length (get_or lists (get_or classes state 0) []) → Contains stale state

pub sorted_all : (found stale classes : List ℕ) (count : ℕ) (representatives : List ℕ) (lists : List (List ℕ))
    → IsListing classes count representatives lists → All (λ state. state < length classes) found
    → ((turn : ℕ) → turn < length found → IsSorted lists classes stale (get_or found turn 0)) → HasSharing classes found stale
sorted_all found stale classes count representatives lists l within sorted state there alike =
    let is : get_or found there.0 0 ≡ state = get_or_default found there.0 0 state there.1 ∙ there.2 in
    let known : state < length classes = subst (λ s. s < length classes) is (All-get_or (λ s. s < length classes) found there.0 0 there.1 within) in
    let several = shared_listed l known alike in
    subst (Contains stale) is (sorted there.0 there.1 (subst (λ s. 1 < length (get_or lists (get_or classes s 0) [])) (sym is) several))

-- ---- values at their places
-- a place has its value, or what it had if its turn has not come
abbrev pub IsPutTo : {A : Type 0} → List A → List ℕ → List A → List A → ℕ → ℕ → Type 0
IsPutTo {A} old places values new turns place =
    ((turn : ℕ) × (turn < turns) × (get_or places turn 0 ≡ place) × ((d : A) → get_or new place d ≡ get_or values turn d))
    ⊎ (((turn : ℕ) → turn < turns → get_or places turn 0 ≢ place) × ((d : A) → get_or new place d ≡ get_or old place d))

pub IsPutTo-set : {A : Type 0} (old : List A) (places : List ℕ) (values list : List A) (turns at : ℕ) (value : A) (place : ℕ) → at < length list
    → at ≡ get_or places turns 0 → ((d : A) → value ≡ get_or values turns d)
    → IsPutTo old places values list turns place → IsPutTo old places values (set list at value) (turns + 1) place
IsPutTo-set old places values list turns at value place within at_is value_is before = elim (cases_eq place at) [
  | inl e ↦ inl (turns, omega arith, sym at_is ∙ sym e, λ d. ap (λ k. get_or (set list at value) k d) e ∙ get_or-set_same list at value d within ∙ value_is d)
  | inr other ↦
      let same = get_or-set_other list at place value in
      elim before [
        | inl h ↦ inl (h.0, (let less = h.1 in omega (arith, less)), h.2, λ d. same d other ∙ h.3 d)
        | inr h ↦ inr (
          λ turn less is. elim (cases_eq turn turns) [
            | inl e ↦ other (sym is ∙ ap (λ t. get_or places t 0) e ∙ sym at_is)
            | inr earlier ↦ h.0 turn (omega (arith, less, earlier)) is
          ],
          λ d. same d other ∙ h.1 d,
        )
      ]
]

pub IsPut-from : {A : Type 0} (old : List A) (places : List ℕ) (values new : List A) → length new ≡ length old
    → ((place : ℕ) → place < length old → IsPutTo old places values new (length places) place) → IsPut old places values new
IsPut-from old places values new size to = record {
  size = size;
  put = λ place within there. elim (to place within) [
    | inl h ↦ record { turn = h.0; within = h.1; place_is = h.2; value_is = h.3 }
    | inr h ↦ absurd (h.0 there.0 there.1 (sym (get_or_read places there.0 place there.1 (sym there.2) 0)))
  ];
  kept = λ place within absent. elim (to place within) [
    | inl h ↦ absurd (absent (h.0, h.1, get_or_from_slice_get places h.0 place place (slice_get-get_or places h.0 0 h.1 ∙ ap Some h.2)))
    | inr h ↦ h.1
  ];
}

-- ---- rows that are led again
pub All-picked : (P : ℕ → Type 0) {rows order : List ℕ} (picked : List ℕ) → ArePicked rows order picked → All (λ state. state < length rows) order → All P rows → All P picked
All-picked P {rows} {order} picked p within all = All-from_get_or P picked 0 (λ i inside.
    let here : i < length order = let s = p.size in omega (arith, s, inside) in
    subst P (sym (p.at i here)) (All-get_or P rows (get_or order i 0) 0 (All-get_or (λ state. state < length rows) order i 0 here within) all))

pub AreLedAgain-from : (a : Automaton) (shapes : List Shape) (rows picked nodes states classes : List ℕ) {old new : List ℕ} → AreRowNodes a rows → length old ≡ length a.accept
    → ArePicked rows states picked → EachAnswers (IsLedFrom a.shapes shapes classes) picked nodes → IsPut old states nodes new
    → All (λ state. state < length a.accept) states → AreLedAgain a shapes states classes old new
AreLedAgain-from a shapes rows picked nodes states classes r size p m put within = record {
  size = put.size;
  led = λ state known there.
      let h = put.put state (omega (arith, known, size)) there in
      let inside : h.turn < length picked = let w = h.within in let s = p.size in omega (arith, w, s) in
      let row : get_or picked h.turn 0 ≡ get_or rows state 0 = p.at h.turn h.within ∙ ap (λ s. get_or rows s 0) h.place_is in
      let mapped = subst (λ node. IsLedFrom a.shapes shapes classes node (get_or nodes h.turn 0)) row (m.each h.turn inside) in
      subst (λ node. IsLed a classes shapes node (next_state a state)) (sym (h.value_is 0)) (IsLed-from shapes classes state (get_or nodes h.turn 0) r known mapped);
  kept = λ state known absent. put.kept state (omega (arith, known, size)) absent 0;
}

-- nodes that lead to classes, for the first time
pub AreLedRows-first : {a : Automaton} (shapes : List Shape) {rows : List ℕ} (classes : List ℕ) {led : List ℕ} → AreRowNodes a rows → length classes ≡ length a.accept
    → EachAnswers (IsLedFrom a.shapes shapes classes) rows led → AreLedRows a shapes classes led
AreLedRows-first shapes classes {led} r size m = record {
  classes_size = size;
  size = m.size ∙ r.size;
  at = λ state within shared. IsLed-from shapes classes state (get_or led state 0) r within (m.each state (let s = r.size in omega (arith, s, within)));
}

-- states whose nodes were kept are as settled as they were
pub AreSettled-follow : (a : Automaton) (shapes : List Shape) (classes : List ℕ) (count : ℕ) (representatives stale led next : List ℕ)
    → length classes ≡ length a.accept → All (λ class. class < count) classes → AreMembers classes count representatives
    → AreSettled classes representatives led [] → AreLedAgain a shapes stale classes led next → AreSettled classes representatives next stale
AreSettled-follow a shapes classes count representatives stale led next size within m s again = record {
  at = λ state known fresh too.
      let class = All-get_or (λ c. c < count) classes state 0 known within in
      let members_size = m.size in
      let stands = All-get_or (λ k. k < length classes) representatives (get_or classes state 0) 0 (omega (arith, class, members_size)) m.within in
      again.kept state (omega (arith, known, size)) fresh ∙ s.at state known (λ h. absurd (omega (arith, h.1))) (λ h. absurd (omega (arith, h.1)))
      ∙ sym (again.kept (get_or representatives (get_or classes state 0) 0) (omega (arith, stands, size)) too);
}

-- where all states are stale, none has to be settled
pub AreSettled-first : (classes representatives nodes stale : List ℕ) (size : ℕ) → length classes ≡ size → length stale ≡ size
    → ((state : ℕ) → state < size → get_or stale state 0 ≡ state) → AreSettled classes representatives nodes stale
AreSettled-first classes representatives nodes stale size classes_size stale_size each = record {
  at = λ state within fresh _. absurd (fresh (subst (Contains stale) (each state (omega (arith, within, classes_size)))
      (Contains-get_or stale state 0 (omega (arith, within, classes_size, stale_size)))));
}
