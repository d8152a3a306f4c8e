-- Steps of the walk over heads.
use Rattle.std.proofs.Common.{◌≡◌, ◌≢◌, ◌↔◌, ℕ, ◌+◌, ◌*◌, ◌/◌, ◌%◌, ◌<◌, ◌≤◌, Bool, true, false, cond, nat_eq, List, [], ◌∷◌, length, get_or, set, Option, Some, None, option_map, arith, inl, inr, ◌⊎◌, refl, sym, ap, ◌∙◌, subst}
use Rattle.std.proofs.lemmas.Bool.{cases_eq, cases_lt}
use Rattle.std.proofs.lemmas.Bool.Decides.{nat_tests}
use Rattle.std.proofs.lemmas.List.{length-set, get_or-set_same, get_or-set_other}
use Rattle.auto_core.specs.Automaton.{Automaton}
use Rattle.auto_search.specs.declared.ray.TrackRay.{TrackRay}
use Rattle.std.proofs.lemmas.Nat.{same_from_place}
use Rattle.track_word.proofs.Spelling.{integer_bit-lt}
use Rattle.auto_core.specs.Automaton.{next_state}
use Rattle.auto_search.specs.Bits.{sum_at, letter_at}
use Rattle.auto_search.specs.Search.{Suits, IsFront}
use Rattle.auto_search.specs.Met.{IsAfter, Adds, Walks, HasSizes, Begins}
use Rattle.auto_search.proofs.Sums.{added-le}
use Rattle.auto_search.proofs.Fronts.{option_map-some, slot-parts}
use Rattle.auto_search.specs.Heads.{IsTrimmed, headed, IsOpened}
use Rattle.auto_search.specs.Met.{Trace, up, moment, IsSlot, Entered, Once, Twice, Known, IsFirst, Follows, IsMet, HasPlace, KeepsTrace}

-- a value changed at one place
put : {A : Type 0} → (ℕ → A) → ℕ → A → ℕ → A
put f n x k = cond (nat_eq k n) x (f k)

put-here : {A : Type 0} (f : ℕ → A) (n : ℕ) (x : A) → put f n x n ≡ x
unfolding put
put-here f n x = let e : nat_eq n n ≡ true = grind (arith, nat_tests) in rw e refl

put-below : {A : Type 0} (f : ℕ → A) (n k : ℕ) (x : A) → k < n → put f n x k ≡ f k
unfolding put
put-below f n k x h = let e : nat_eq k n ≡ false = grind (arith, nat_tests, h) in rw e refl

pub grown : Trace → ℕ → List Bool → ℕ → Bool → ℕ → Trace
grown g n head parent bit key = record { heads = put g.heads n head; parent = put g.parent n parent; bit = put g.bit n bit; key = put g.key n key }

-- what was known stays so
module _ (g new : Trace) (states slots states' slots' : List ℕ) (len : ℕ) (goes : KeepsTrace g new len)
    (same_states : (j : ℕ) → j < len → get_or states' j 0 ≡ get_or states j 0) (same_slots : (j : ℕ) → j < len → get_or slots' j 0 ≡ get_or slots j 0)
    (len' : ℕ) (more : len ≤ len') where
  Entered-kept : (head : List Bool) (slot state : ℕ) → Entered g states slots len head slot state → Entered new states' slots' len' head slot state
  Entered-kept head slot state e = record {
    entry = e.entry;
    within = let h = e.within in omega (arith, h, more);
    is_head = goes.heads e.entry e.within ∙ e.is_head;
    is_slot = same_slots e.entry e.within ∙ e.is_slot;
    is_state = same_states e.entry e.within ∙ e.is_state;
  }

  Once-kept : (slot state : ℕ) → Once g states slots len slot state → Once new states' slots' len' slot state
  Once-kept slot state e = record {
    entry = e.entry;
    within = let h = e.within in omega (arith, h, more);
    some = λ n. e.some (sym (goes.heads e.entry e.within) ∙ n);
    is_slot = same_slots e.entry e.within ∙ e.is_slot;
    is_state = same_states e.entry e.within ∙ e.is_state;
  }

  Twice-kept : (slot state : ℕ) → Twice g states slots len slot state → Twice new states' slots' len' slot state
  Twice-kept slot state e =
      let f : e.first < len = let h = e.order in let w = e.within in omega (arith, h, w) in
      record {
        first = e.first;
        second = e.second;
        order = e.order;
        within = let h = e.within in omega (arith, h, more);
        some_first = λ n. e.some_first (sym (goes.heads e.first f) ∙ n);
        some_second = λ n. e.some_second (sym (goes.heads e.second e.within) ∙ n);
        first_slot = same_slots e.first f ∙ e.first_slot;
        first_state = same_states e.first f ∙ e.first_state;
        second_slot = same_slots e.second e.within ∙ e.second_slot;
        second_state = same_states e.second e.within ∙ e.second_state;
      }

  Known-kept : (head : List Bool) (slot state : ℕ) → Known g states slots len head slot state → Known new states' slots' len' head slot state
  Known-kept head slot state k = elim k [ inl e ↦ inl (Entered-kept head slot state e) | inr t ↦ inr (Twice-kept slot state t) ]

-- the moment passes, and there was nothing to enter
pub met-wait : {a : Automaton} {ray : TrackRay} {g : Trace} {times states slots : List ℕ} {len starts now : ℕ} → IsMet a ray g times states slots len starts now
    → ((slot state : ℕ) → slot ≡ now → slot < 9 → IsSlot ray slot → headed a ray [] (slot / 3) (slot % 3) ≡ Some state → Entered g states slots len [] slot state)
    → ((k slot state : ℕ) (bit : Bool) → k < len → slot < 9 → moment k bit slot ≡ now → (g.heads k ≡ [] → bit ≡ true) → IsSlot ray slot
    → headed a ray (bit ∷ g.heads k) (slot / 3) (slot % 3) ≡ Some state
    → up ray bit slot ≡ get_or slots k 0 → Known g states slots len (bit ∷ g.heads k) slot state)
    → IsMet a ray g times states slots len starts (now + 1)
met-wait {now} is first here = record {
  trimmed = is.trimmed;
  reads = is.reads;
  small = is.small;
  origin = is.origin;
  enough = is.enough;
  begins = is.begins;
  increasing = is.increasing;
  before = λ j h. let b = is.before j h in omega (arith, b);
  firsts = λ slot state h small fits e. elim (cases_lt slot now) [
    | inl below ↦ is.firsts slot state below small fits e
    | inr past ↦ first slot state (omega (arith, past, h)) small fits e
  ];
  once = is.once;
  twice = is.twice;
  closed = λ k slot state bit known small h some fits e u. elim (cases_lt (moment k bit slot) now) [
    | inl below ↦ is.closed k slot state bit known small below some fits e u
    | inr past ↦ here k slot state bit known small (omega (arith, past, h)) some fits e u
  ];
}

module _ (a : Automaton) (ray : TrackRay) (g : Trace) (times times' states slots : List ℕ) (len starts starts' now : ℕ) (is : IsMet a ray g times states slots len starts now)
    (head : List Bool) (parent : ℕ) (bit : Bool) (slot state : ℕ) (in_states : len < length states) (in_slots : len < length slots) where
  abbrev pub next : Trace
  next = grown g len head parent bit now

  pub next-goes : KeepsTrace g next len
  unfolding grown
  next-goes = record {
    heads = λ j h. put-below g.heads len j head h;
    parent = λ j h. put-below g.parent len j parent h;
    bit = λ j h. put-below g.bit len j bit h;
    key = λ j h. put-below g.key len j now h;
  }

  head-here : next.heads len ≡ head
  unfolding grown
  head-here = put-here g.heads len head

  key-here : next.key len ≡ now
  unfolding grown
  key-here = put-here g.key len now

  pub slot-here : get_or (set slots len slot) len 0 ≡ slot
  slot-here = get_or-set_same slots len slot 0 in_slots

  pub state-here : get_or (set states len state) len 0 ≡ state
  state-here = get_or-set_same states len state 0 in_states

  pub slot-below : (j : ℕ) → j < len → get_or (set slots len slot) j 0 ≡ get_or slots j 0
  slot-below j h = get_or-set_other slots len j slot 0 (λ e. omega (arith, h, e))

  pub state-below : (j : ℕ) → j < len → get_or (set states len state) j 0 ≡ get_or states j 0
  state-below j h = get_or-set_other states len j state 0 (λ e. omega (arith, h, e))

  last : (j : ℕ) → len ≤ j → j < len + 1 → j ≡ len
  last j h k = omega (arith, h, k)

  Known-next : (head : List Bool) (slot' state' : ℕ) → Known g states slots len head slot' state' → Known next (set states len state) (set slots len slot) (len + 1) head slot' state'
  Known-next = Known-kept g next states slots (set states len state) (set slots len slot) len next-goes state-below slot-below (len + 1) (omega arith)

  origin-kept : (j : ℕ) → j < len → IsFirst g slots j ⊎ Follows ray g slots j → IsFirst next (set slots len slot) j ⊎ Follows ray next (set slots len slot) j
  origin-kept j h o = elim o [
    | inl f ↦ inl (record { head = next-goes.heads j h ∙ f.head; key = next-goes.key j h ∙ f.key ∙ sym (slot-below j h) })
    | inr f ↦
        let p : g.parent j < len = let b = f.before in omega (arith, b, h) in
        let np = next-goes.parent j h in
        let nb = next-goes.bit j h in
        let ns = slot-below j h in
        inr (record {
          head = next-goes.heads j h ∙ f.head ∙ ap (λ b. b ∷ g.heads (g.parent j)) (sym nb) ∙ ap (λ l. next.bit j ∷ l) (sym (next-goes.heads (g.parent j) p) ∙ ap next.heads (sym np));
          before = let b = f.before in omega (arith, b, np);
          slot = ap (λ k. get_or (set slots len slot) k 0) np ∙ slot-below (g.parent j) p ∙ f.slot ∙ ap (λ b. up ray b (get_or slots j 0)) (sym nb) ∙ ap (up ray (next.bit j)) (sym ns);
          key =
              next-goes.key j h ∙ f.key ∙ ap (λ k. moment k (g.bit j) (get_or slots j 0)) (sym np)
              ∙ ap (λ b. moment (next.parent j) b (get_or slots j 0)) (sym nb) ∙ ap (moment (next.parent j) (next.bit j)) (sym ns);
        })
  ]

  module _ (trimmed : IsTrimmed head) (reads : headed a ray head (slot / 3) (slot % 3) ≡ Some state) (small : slot < 9) (known : state < length a.accept)
      (origin : IsFirst next (set slots len slot) len ⊎ Follows ray next (set slots len slot) len)
      (enough : starts' ≤ len + 1)
      (begins : (j : ℕ) → j < len + 1 → (next.heads j ≡ []) ↔ (j < starts'))
      (once : (slot' state' : ℕ) → slot' < 9 → 1 ≤ get_or times' (state' * 9 + slot') 0 → Once next (set states len state) (set slots len slot) (len + 1) slot' state')
      (twice : (slot' state' : ℕ) → slot' < 9 → 2 ≤ get_or times' (state' * 9 + slot') 0 → Twice next (set states len state) (set slots len slot) (len + 1) slot' state')
      (later : (bit' : Bool) (slot' : ℕ) → now < moment len bit' slot')
      (first : (slot' state' : ℕ) → slot' ≡ now → slot' < 9 → IsSlot ray slot' → headed a ray [] (slot' / 3) (slot' % 3) ≡ Some state'
      → Entered next (set states len state) (set slots len slot) (len + 1) [] slot' state')
      (here : (k slot' state' : ℕ) (bit' : Bool) → k < len → slot' < 9 → moment k bit' slot' ≡ now → IsSlot ray slot'
      → headed a ray (bit' ∷ g.heads k) (slot' / 3) (slot' % 3) ≡ Some state'
      → up ray bit' slot' ≡ get_or slots k 0 → Known next (set states len state) (set slots len slot) (len + 1) (bit' ∷ g.heads k) slot' state') where
    pub met-push : IsMet a ray next times' (set states len state) (set slots len slot) (len + 1) starts' (now + 1)
    met-push = record {
      trimmed = λ j h. elim (cases_lt j len) [
        | inl b ↦ subst IsTrimmed (sym (next-goes.heads j b)) (is.trimmed j b)
        | inr p ↦ subst IsTrimmed (sym (ap next.heads (last j p h) ∙ head-here)) trimmed
      ];
      reads = λ j h. elim (cases_lt j len) [
        | inl b ↦ rw (next-goes.heads j b, slot-below j b, state-below j b) (is.reads j b)
        | inr p ↦ rw (last j p h) (rw (head-here, slot-here, state-here) reads)
      ];
      small = λ j h. elim (cases_lt j len) [
        | inl b ↦ rw (slot-below j b, state-below j b) (is.small j b)
        | inr p ↦ rw (last j p h) (rw (slot-here, state-here) (small, known))
      ];
      origin = λ j h. elim (cases_lt j len) [
        | inl b ↦ origin-kept j b (is.origin j b)
        | inr p ↦ subst (λ j. IsFirst next (set slots len slot) j ⊎ Follows ray next (set slots len slot) j) (sym (last j p h)) origin
      ];
      enough = enough;
      begins = begins;
      increasing = λ i j o h. elim (cases_lt j len) [
        | inl b ↦ rw (next-goes.key j b, next-goes.key i (let o' = o in omega (arith, o', b))) (is.increasing i j o b)
        | inr p ↦
            let i_below : i < len = omega (arith, o, h) in
            rw (last j p h) (rw (key-here, next-goes.key i i_below) (is.before i i_below))
      ];
      before = λ j h. elim (cases_lt j len) [
        | inl b ↦ let k = is.before j b in let e = next-goes.key j b in omega (arith, k, e)
        | inr p ↦ rw (last j p h) (rw key-here (omega arith))
      ];
      firsts = λ slot' state' h s fits e. elim (cases_lt slot' now) [
        | inl below ↦
            Entered-kept g next states slots (set states len state) (set slots len slot) len next-goes state-below slot-below (len + 1) (omega arith)
            [] slot' state' (is.firsts slot' state' below s fits e)
        | inr past ↦ first slot' state' (omega (arith, past, h)) s fits e
      ];
      once = once;
      twice = twice;
      closed = λ k slot' state' bit' kh s h some fits e u. elim (cases_lt k len) [
        | inl b ↦
            let eh = next-goes.heads k b in
            let e' = subst (λ l. headed a ray (bit' ∷ l) (slot' / 3) (slot' % 3) ≡ Some state') eh e in
            let u' = u ∙ slot-below k b in
            let some' = λ (n : g.heads k ≡ []). some (eh ∙ n) in
            subst (λ l. Known next (set states len state) (set slots len slot) (len + 1) (bit' ∷ l) slot' state') (sym eh) (elim (cases_lt (moment k bit' slot') now) [
              | inl below ↦ Known-next (bit' ∷ g.heads k) slot' state' (is.closed k slot' state' bit' b s below some' fits e' u')
              | inr past ↦ here k slot' state' bit' b s (omega (arith, past, h)) fits e' u'
            ])
        | inr p ↦ let w = later bit' slot' in let same = last k p kh in let w' = subst (λ j. now < moment j bit' slot') (sym same) w in absurd (omega (arith, w', h))
      ];
    }

-- a moment tells its entry, bit and slot
moment-same : (k slot k' slot' : ℕ) (bit bit' : Bool) → slot < 9 → slot' < 9 → moment k bit slot ≡ moment k' bit' slot' → (k ≡ k') × (bit ≡ bit') × (slot ≡ slot')
moment-same k slot k' slot' true true h h' e = (omega (arith, e, h, h'), refl, omega (arith, e, h, h'))
moment-same k slot k' slot' false false h h' e = (omega (arith, e, h, h'), refl, omega (arith, e, h, h'))
moment-same k slot k' slot' true false h h' e = absurd (omega (arith, e, h, h'))
moment-same k slot k' slot' false true h h' e = absurd (omega (arith, e, h, h'))

moment-late : (k len slot slot' : ℕ) (bit bit' : Bool) → slot < 9 → k < len → moment k bit slot < moment len bit' slot'
moment-late k len slot slot' true true h l = omega (arith, h, l)
moment-late k len slot slot' true false h l = omega (arith, h, l)
moment-late k len slot slot' false true h l = omega (arith, h, l)
moment-late k len slot slot' false false h l = omega (arith, h, l)

trimmed-more : (head : List Bool) (bit : Bool) → IsTrimmed head → (head ≡ [] → bit ≡ true) → IsTrimmed (bit ∷ head)
trimmed-more head true is some = (is, omega arith)
trimmed-more [] false is some = absurd (let e = some refl in cc)
trimmed-more (b ∷ head) false is some = (is, let h = is.1 in omega (arith, h))

-- the front after one more bit of one state, as heads say it
module _ (a : Automaton) (ray : TrackRay) (suits : Suits a ray) (slot0 state0 : ℕ) (bit : Bool) (after : List (Option ℕ)) (is : IsAfter a ray slot0 state0 bit after) (head : List Bool)
    (reads : headed a ray head (slot0 / 3) (slot0 % 3) ≡ Some state0) where
  low-part : (slot : ℕ) → IsSlot ray slot → sum_at ray.y ray.top (slot % 3) bit / 2 ≤ 2
  low-part slot fits =
      let s = suits.y_small in
      let f = fits.1 in
      let b = integer_bit-lt ray.y.base ray.top in
      let w = added-le ray.y bit in
      omega (arith, s, f, b, w)

  -- what the head's state leads to
  led : (slot : ℕ) → IsSlot ray slot → up ray bit slot ≡ slot0
      → headed a ray (bit ∷ head) (slot / 3) (slot % 3) ≡ Some (next_state a state0 (letter_at ray ray.top (sum_at ray.x ray.top (slot / 3) bit) (sum_at ray.y ray.top (slot % 3) bit)))
  led slot fits e =
      let sx = sum_at ray.x ray.top (slot / 3) bit in
      let sy = sum_at ray.y ray.top (slot % 3) bit in
      let parts = slot-parts (sx / 2) (sy / 2) (low-part slot fits) in
      let r = rw (← e, parts.0, parts.1) at reads in
      ap (option_map (λ (state : ℕ). next_state a state (letter_at ray ray.top sx sy))) r

  pub child-to : (slot state : ℕ) → slot < 9 → get_or after slot None ≡ Some state
      → IsSlot ray slot × (slot0 ≡ up ray bit slot) × (headed a ray (bit ∷ head) (slot / 3) (slot % 3) ≡ Some state)
  child-to slot state small e =
      let fits = is.step.only slot state e in
      let sx = sum_at ray.x ray.top (slot / 3) bit in
      let sy = sum_at ray.y ray.top (slot % 3) bit in
      let s = sym (is.step.at slot small fits.0 fits.1) ∙ e in
      let some = option_map-some (λ (state : ℕ). next_state a state (letter_at ray ray.top sx sy)) (get_or is.front (3 * (sx / 2) + sy / 2) None) state s in
      let alone = is.alone.only (3 * (sx / 2) + sy / 2) some.0 some.1 in
      (fits, sym alone.0, led slot fits alone.0 ∙ ap (λ q. Some (next_state a q (letter_at ray ray.top sx sy))) (sym alone.1) ∙ ap Some some.2)

  pub child-from : (slot state : ℕ) → slot < 9 → IsSlot ray slot → up ray bit slot ≡ slot0
      → headed a ray (bit ∷ head) (slot / 3) (slot % 3) ≡ Some state → get_or after slot None ≡ Some state
  child-from slot state small fits e h =
      let sx = sum_at ray.x ray.top (slot / 3) bit in
      let sy = sum_at ray.y ray.top (slot % 3) bit in
      is.step.at slot small fits.0 fits.1
      ∙ ap (option_map (λ (state : ℕ). next_state a state (letter_at ray ray.top sx sy))) (ap (λ k. get_or is.front k None) e ∙ is.alone.there)
      ∙ sym (led slot fits e) ∙ h

-- one try
module _ {a : Automaton} {ray : TrackRay} (suits : Suits a ray) {g : Trace} {times states slots : List ℕ} {len starts : ℕ} (entry slot : ℕ) (bit : Bool)
    (is : IsMet a ray g times states slots len starts (moment entry bit slot))
    (place : HasPlace a times states slots len) (within : entry < len) (small : slot < 9) (some : g.heads entry ≡ [] → bit ≡ true)
    {after : List (Option ℕ)} (is_after : IsAfter a ray (get_or slots entry 0) (get_or states entry 0) bit after) (front : IsFront a after) where
  now-late : (slot' : ℕ) → slot' ≡ moment entry bit slot → slot' < 9 → ⊥
  now-late slot' e h = late bit slot' e h
    where
      late : (bit : Bool) (slot' : ℕ) → slot' ≡ moment entry bit slot → slot' < 9 → ⊥
      late true slot' e h = omega (arith, e, h)
      late false slot' e h = omega (arith, e, h)

  -- a child at this moment is the front's state
  child : (k slot' state' : ℕ) (bit' : Bool) → slot' < 9 → moment k bit' slot' ≡ moment entry bit slot → IsSlot ray slot'
      → headed a ray (bit' ∷ g.heads k) (slot' / 3) (slot' % 3) ≡ Some state' → up ray bit' slot' ≡ get_or slots k 0
      → (k ≡ entry) × (bit' ≡ bit) × (slot' ≡ slot) × (get_or after slot None ≡ Some state')
  child k slot' state' bit' s e fits h u =
      let same = moment-same k slot' entry slot bit' bit s small e in
      let h1 = rw (same.0, same.1, same.2) at h in
      let u1 = rw (same.0, same.1, same.2) at u in
      let f1 = rw same.2 at fits in
      (same.0, same.1, same.2, child-from a ray suits (get_or slots entry 0) (get_or states entry 0) bit after is_after (g.heads entry) (is.reads entry within) slot state' small f1 u1 h1)

  pub try-none : get_or after slot None ≡ None → IsMet a ray g times states slots len starts (moment entry bit slot + 1)
  try-none none =
      met-wait is (λ slot' state' e h f r. absurd (now-late slot' e h))
      (λ k slot' state' bit' kh s e sm fits h u. let c = child k slot' state' bit' s e fits h u in absurd (let bad = sym none ∙ c.3 in cc))

  pub try-twice : (state : ℕ) → get_or after slot None ≡ Some state → 2 ≤ get_or times (state * 9 + slot) 0 → IsMet a ray g times states slots len starts (moment entry bit slot + 1)
  try-twice state found two =
      met-wait is (λ slot' state' e h f r. absurd (now-late slot' e h))
      (λ k slot' state' bit' kh s e sm fits h u.
      let c = child k slot' state' bit' s e fits h u in
      let same : state ≡ state' = let x = sym found ∙ c.3 in cc in
      inr (rw (c.2, ← same) (is.twice slot state small two)))

  module _ (state : ℕ) (found : get_or after slot None ≡ Some state) (in_states : len < length states) (in_slots : len < length slots) where
    pub g' : Trace
    g' = grown g len (bit ∷ g.heads entry) entry bit (moment entry bit slot)

    goes : KeepsTrace g g' len
    unfolding g'
    goes = next-goes a ray g times times states slots len starts starts (moment entry bit slot) is (bit ∷ g.heads entry) entry bit slot state in_states in_slots

    here-head : g'.heads len ≡ bit ∷ g.heads entry
    unfolding g' grown
    here-head = put-here g.heads len (bit ∷ g.heads entry)

    here-parent : g'.parent len ≡ entry
    unfolding g' grown
    here-parent = put-here g.parent len entry

    here-bit : g'.bit len ≡ bit
    unfolding g' grown
    here-bit = put-here g.bit len bit

    here-key : g'.key len ≡ moment entry bit slot
    unfolding g' grown
    here-key = put-here g.key len (moment entry bit slot)

    abbrev pub states' : List ℕ
    states' = set states len state

    abbrev pub slots' : List ℕ
    slots' = set slots len slot

    abbrev pub times' : List ℕ
    times' = set times (state * 9 + slot) (get_or times (state * 9 + slot) 0 + 1)

    to : IsSlot ray slot × (get_or slots entry 0 ≡ up ray bit slot) × (headed a ray (bit ∷ g.heads entry) (slot / 3) (slot % 3) ≡ Some state)
    to = child-to a ray suits (get_or slots entry 0) (get_or states entry 0) bit after is_after (g.heads entry) (is.reads entry within) slot state small found

    sl-here : get_or slots' len 0 ≡ slot
    sl-here = get_or-set_same slots len slot 0 in_slots

    st-here : get_or states' len 0 ≡ state
    st-here = get_or-set_same states len state 0 in_states

    sl-below : (j : ℕ) → j < len → get_or slots' j 0 ≡ get_or slots j 0
    sl-below j h = get_or-set_other slots len j slot 0 (λ e. omega (arith, h, e))

    st-below : (j : ℕ) → j < len → get_or states' j 0 ≡ get_or states j 0
    st-below j h = get_or-set_other states len j state 0 (λ e. omega (arith, h, e))

    follows : Follows ray g' slots' len
    follows = record {
      head = here-head ∙ ap (λ b. b ∷ g.heads entry) (sym here-bit) ∙ ap (λ l. g'.bit len ∷ l) (sym (goes.heads entry within) ∙ ap g'.heads (sym here-parent));
      before = let p = here-parent in omega (arith, p, within);
      slot = ap (λ k. get_or slots' k 0) here-parent ∙ sl-below entry within ∙ to.1 ∙ ap (λ b. up ray b slot) (sym here-bit) ∙ ap (up ray (g'.bit len)) (sym sl-here);
      key = here-key ∙ ap (λ k. moment k bit slot) (sym here-parent) ∙ ap (λ b. moment (g'.parent len) b slot) (sym here-bit) ∙ ap (moment (g'.parent len) (g'.bit len)) (sym sl-here);
    }

    some-here : g'.heads len ≢ []
    some-here n = let e = sym here-head ∙ n in cc

    once' : (slot' state' : ℕ) → slot' < 9 → 1 ≤ get_or times' (state' * 9 + slot') 0 → Once g' states' slots' (len + 1) slot' state'
    once' slot' state' s h = elim (cases_eq (state' * 9 + slot') (state * 9 + slot)) [
      | inl e ↦
          let same = same_from_place state' slot' state slot 9 s small e in
          record { entry = len; within = omega arith; some = some-here; is_slot = sl-here ∙ sym same.1; is_state = st-here ∙ sym same.0 }
      | inr ne ↦
          Once-kept g g' states slots states' slots' len goes st-below sl-below (len + 1) (omega arith) slot' state'
          (is.once slot' state' s
          (rw (get_or-set_other times (state * 9 + slot) (state' * 9 + slot') (get_or times (state * 9 + slot) 0 + 1) 0 ne) at h))
    ]

    twice' : state < length a.accept → (slot' state' : ℕ) → slot' < 9 → 2 ≤ get_or times' (state' * 9 + slot') 0 → Twice g' states' slots' (len + 1) slot' state'
    twice' known slot' state' s h = elim (cases_eq (state' * 9 + slot') (state * 9 + slot)) [
      | inl e ↦
          let same = same_from_place state' slot' state slot 9 s small e in
          let size = place.times_size in
          let inside : state * 9 + slot < length times = omega (arith, size, known, small) in
          let h1 = rw (e, get_or-set_same times (state * 9 + slot) (get_or times (state * 9 + slot) 0 + 1) 0 inside) at h in
          let o = Once-kept g g' states slots states' slots' len goes st-below sl-below (len + 1) (omega arith) slot state (is.once slot state small (omega (arith, h1))) in
          let o0 = is.once slot state small (omega (arith, h1)) in
          record {
            first = o0.entry;
            second = len;
            order = o0.within;
            within = omega arith;
            some_first = λ n. o0.some (sym (goes.heads o0.entry o0.within) ∙ n);
            some_second = some-here;
            first_slot = sl-below o0.entry o0.within ∙ o0.is_slot ∙ sym same.1;
            first_state = st-below o0.entry o0.within ∙ o0.is_state ∙ sym same.0;
            second_slot = sl-here ∙ sym same.1;
            second_state = st-here ∙ sym same.0;
          }
      | inr ne ↦
          Twice-kept g g' states slots states' slots' len goes st-below sl-below (len + 1) (omega arith) slot' state'
          (is.twice slot' state' s
          (rw (get_or-set_other times (state * 9 + slot) (state' * 9 + slot') (get_or times (state * 9 + slot) 0 + 1) 0 ne) at h))
    ]

    begins' : (j : ℕ) → j < len + 1 → (g'.heads j ≡ []) ↔ (j < starts)
    begins' j h = elim (cases_lt j len) [
      | inl b ↦ let o = is.begins j b in (λ e. o.0 (sym (goes.heads j b) ∙ e), λ l. goes.heads j b ∙ o.1 l)
      | inr p ↦
          let same : j ≡ len = omega (arith, p, h) in
          let n = is.enough in
          (λ e. absurd (some-here (ap g'.heads (sym same) ∙ e)), λ l. absurd (omega (arith, l, same, n)))
    ]

    pub try-push : IsMet a ray g' times' states' slots' (len + 1) starts (moment entry bit slot + 1)
    unfolding g'
    try-push =
        let known = front.states slot state found in
        met-push a ray g times times' states slots len starts starts (moment entry bit slot) is (bit ∷ g.heads entry) entry bit slot state in_states in_slots
        (trimmed-more (g.heads entry) bit (is.trimmed entry within) some) to.2 small known (inr follows) (let n = is.enough in omega (arith, n)) begins' once' (twice' known)
        (λ bit' slot'. moment-late entry len slot slot' bit bit' small within)
        (λ slot' state' e h f r. absurd (now-late slot' e h))
        (λ k slot' state' bit' kh s e fits h u.
        let c = child k slot' state' bit' s e fits h u in
        let same : state ≡ state' = let x = sym found ∙ c.3 in cc in
        inl (record {
          entry = len;
          within = omega arith;
          is_head = here-head ∙ ap (λ b. b ∷ g.heads entry) (sym c.1) ∙ ap (λ k. bit' ∷ g.heads k) (sym c.0);
          is_slot = sl-here ∙ sym c.2;
          is_state = st-here ∙ same;
        }))

    pub push-goes : KeepsTrace g g' len
    push-goes = goes

moment-suc : (entry slot : ℕ) (bit : Bool) → moment entry bit slot + 1 ≡ moment entry bit (slot + 1)
moment-suc entry slot bit = omega arith

KeepsTrace-trans : {f g h : Trace} {len len' : ℕ} → len ≤ len' → KeepsTrace f g len → KeepsTrace g h len' → KeepsTrace f h len
KeepsTrace-trans more p q = record {
  heads = λ j l. q.heads j (omega (arith, l, more)) ∙ p.heads j l;
  parent = λ j l. q.parent j (omega (arith, l, more)) ∙ p.parent j l;
  bit = λ j l. q.bit j (omega (arith, l, more)) ∙ p.bit j l;
  key = λ j l. q.key j (omega (arith, l, more)) ∙ p.key j l;
}

-- a try of a walk
module _ {a : Automaton} {ray : TrackRay} (suits : Suits a ray) {times states slots times' states' slots' : List ℕ} {len len' starts now : ℕ} (entry slot : ℕ) (bit : Bool)
    (walk : Walks a ray times states slots len times' states' slots' len' starts starts now (moment entry bit slot))
    (within : entry < len) (small : slot < 9) (may : (bit ≡ true) ⊎ (starts ≤ entry)) {after : List (Option ℕ)}
    (is_after : IsAfter a ray (get_or slots entry 0) (get_or states entry 0) bit after) (front : IsFront a after) where
  after-here : IsAfter a ray (get_or slots' entry 0) (get_or states' entry 0) bit after
  after-here = rw (walk.same_slots entry within, walk.same_states entry within) is_after

  within-here : entry < len'
  within-here = let l = walk.longer in omega (arith, l, within)

  may-here : {g : Trace} → IsMet a ray g times' states' slots' len' starts (moment entry bit slot) → g.heads entry ≡ [] → bit ≡ true
  may-here is e = elim may [
    | inl y ↦ y
    | inr n ↦ let b = (is.begins entry within-here).0 e in absurd (omega (arith, b, n))
  ]

  pub walk-none : get_or after slot None ≡ None → Walks a ray times states slots len times' states' slots' len' starts starts now (moment entry bit (slot + 1))
  walk-none none = record {
    longer = walk.longer;
    same_states = walk.same_states;
    same_slots = walk.same_slots;
    sizes = walk.sizes;
    place = walk.place;
    met = λ g is.
        let w = walk.met g is in
        let n = try-none suits entry slot bit w.1 walk.place within-here small (may-here w.1) after-here front none in
        (w.0, rw (← moment-suc entry slot bit) n, w.2);
  }

  pub walk-add : (state : ℕ) → get_or after slot None ≡ Some state → {times'' states'' slots'' : List ℕ} {len'' : ℕ}
      → Adds times' states' slots' len' times'' states'' slots'' len'' state slot → HasPlace a times'' states'' slots'' len''
      → len' < length states' ⊎ (2 ≤ get_or times' (state * 9 + slot) 0) → len' < length slots' ⊎ (2 ≤ get_or times' (state * 9 + slot) 0)
      → Walks a ray times states slots len times'' states'' slots'' len'' starts starts now (moment entry bit (slot + 1))
  walk-add state found adds place in1 in2 = elim adds [
    | inl same ↦ record {
      longer = let l = walk.longer in let e = same.4 in omega (arith, l, e);
      same_states = λ j h. ap (λ l. get_or l j 0) same.2 ∙ walk.same_states j h;
      same_slots = λ j h. ap (λ l. get_or l j 0) same.3 ∙ walk.same_slots j h;
      sizes = record { times_kept = ap length same.1 ∙ walk.sizes.times_kept; states_kept = ap length same.2 ∙ walk.sizes.states_kept; slots_kept = ap length same.3 ∙ walk.sizes.slots_kept };
      place = place;
      met = λ g is.
          let w = walk.met g is in
          let n = try-twice suits entry slot bit w.1 walk.place within-here small (may-here w.1) after-here front state found same.0 in
          (w.0, rw (← moment-suc entry slot bit, same.1, same.2, same.3, same.4) n, w.2);
    }
    | inr more ↦
        let i1 : len' < length states' = elim in1 [ inl y ↦ y | inr n ↦ absurd (let m = more.0 in omega (arith, m, n)) ] in
        let i2 : len' < length slots' = elim in2 [ inl y ↦ y | inr n ↦ absurd (let m = more.0 in omega (arith, m, n)) ] in
        record {
          longer = let l = walk.longer in let e = more.4 in omega (arith, l, e);
          same_states = λ j h. ap (λ l. get_or l j 0) more.2 ∙ get_or-set_other states' len' j state 0 (λ e. let l = walk.longer in omega (arith, h, e, l)) ∙ walk.same_states j h;
          same_slots = λ j h. ap (λ l. get_or l j 0) more.3 ∙ get_or-set_other slots' len' j slot 0 (λ e. let l = walk.longer in omega (arith, h, e, l)) ∙ walk.same_slots j h;
          sizes = record {
            times_kept = ap length more.1 ∙ length-set times' (state * 9 + slot) (get_or times' (state * 9 + slot) 0 + 1) ∙ walk.sizes.times_kept;
            states_kept = ap length more.2 ∙ length-set states' len' state ∙ walk.sizes.states_kept;
            slots_kept = ap length more.3 ∙ length-set slots' len' slot ∙ walk.sizes.slots_kept;
          };
          place = place;
          met = λ g is.
              let w = walk.met g is in
              let n = try-push suits entry slot bit w.1 walk.place within-here small (may-here w.1) after-here front state found i1 i2 in
              let goes = push-goes suits entry slot bit w.1 walk.place within-here small (may-here w.1) after-here front state found i1 i2 in (
                g' suits entry slot bit w.1 walk.place within-here small (may-here w.1) after-here front state found i1 i2,
                rw (← moment-suc entry slot bit, more.1, more.2, more.3, more.4) n,
                KeepsTrace-trans walk.longer w.2 goes,
              );
        }
  ]

within-block : (k entry slot : ℕ) (bit : Bool) → slot < 9 → moment entry false 0 ≤ moment k bit slot → moment k bit slot < moment entry false 9 → (k ≡ entry) × (bit ≡ false)
within-block k entry slot false h l u = (omega (arith, h, l, u), refl)
within-block k entry slot true h l u = absurd (omega (arith, h, l, u))

-- no try by 0 from an entry that the walk begins with
pub walk-skip : (a : Automaton) (ray : TrackRay) (times states slots : List ℕ) (len starts entry : ℕ) → HasPlace a times states slots len → entry < len → entry < starts
    → Walks a ray times states slots len times states slots len starts starts (moment entry false 0) (moment entry false 9)
walk-skip a ray times states slots len starts entry place within start = record {
  longer = omega arith;
  same_states = λ j h. refl;
  same_slots = λ j h. refl;
  sizes = record { times_kept = refl; states_kept = refl; slots_kept = refl };
  place = place;
  met = λ g is. (
    g,
    record {
      trimmed = is.trimmed;
      reads = is.reads;
      small = is.small;
      origin = is.origin;
      enough = is.enough;
      begins = is.begins;
      increasing = is.increasing;
      before = λ j h. let b = is.before j h in omega (arith, b);
      firsts = λ slot state h small fits e. is.firsts slot state (omega (arith, small)) small fits e;
      once = is.once;
      twice = is.twice;
      closed = λ k slot state bit known small h some fits e u. elim (cases_lt (moment k bit slot) (moment entry false 0)) [
        | inl below ↦ is.closed k slot state bit known small below some fits e u
        | inr past ↦
            let b = within-block k entry slot bit small past h in
            let root = (is.begins entry within).1 start in
            let yes = some (ap g.heads b.0 ∙ root) in
            absurd (let no = sym b.1 ∙ yes in cc)
      ];
    },
    record { heads = λ j h. refl; parent = λ j h. refl; bit = λ j h. refl; key = λ j h. refl },
  );
}

here-nil : (g : Trace) (len slot : ℕ) → (grown g len [] 0 false slot).heads len ≡ []
unfolding grown
here-nil g len slot = put-here g.heads len []

here-now : (g : Trace) (len slot : ℕ) → (grown g len [] 0 false slot).key len ≡ slot
unfolding grown
here-now g len slot = put-here g.key len slot

blank : Trace
blank = record { heads = λ j. []; parent = λ j. 0; bit = λ j. false; key = λ j. 0 }

-- nothing was met
pub begin-empty : {a : Automaton} {ray : TrackRay} {times states slots : List ℕ} {len : ℕ} → HasSizes a times states slots
    → ((k : ℕ) → get_or times k 0 ≡ 0) → len ≡ 0 → Begins a ray times states slots len 0
unfolding blank
begin-empty sizes none e = rw e (record {
  sizes = sizes;
  none = none;
  little = omega arith;
  trace = blank;
  met = record {
    trimmed = λ j h. absurd (omega (arith, h));
    reads = λ j h. absurd (omega (arith, h));
    small = λ j h. absurd (omega (arith, h));
    origin = λ j h. absurd (omega (arith, h));
    enough = omega arith;
    begins = λ j h. absurd (omega (arith, h));
    increasing = λ i j o h. absurd (omega (arith, h));
    before = λ j h. absurd (omega (arith, h));
    firsts = λ slot state h s f r. absurd (omega (arith, h));
    once = λ slot state s h. absurd (let z = none (state * 9 + slot) in omega (arith, z, h));
    twice = λ slot state s h. absurd (let z = none (state * 9 + slot) in omega (arith, z, h));
    closed = λ k slot state bit h s m some f r u. absurd (omega (arith, h));
  };
})

module _ {a : Automaton} {ray : TrackRay} {times states slots : List ℕ} {len slot : ℕ} (is : Begins a ray times states slots len slot) (small : slot < 9)
    {front : List (Option ℕ)} (opened : IsOpened a ray front) (fits : IsFront a front) where
  not-now : (k slot' : ℕ) (bit : Bool) → moment k bit slot' ≡ slot → ⊥
  not-now k slot' true e = omega (arith, e, small)
  not-now k slot' false e = omega (arith, e, small)

  first-found : (slot' state' : ℕ) → slot' ≡ slot → slot' < 9 → IsSlot ray slot' → headed a ray [] (slot' / 3) (slot' % 3) ≡ Some state' → get_or front slot None ≡ Some state'
  first-found slot' state' e h f r =
      let f1 = rw e at f in
      let r1 = rw e at r in
      opened.at slot small f1.0 f1.1 ∙ r1

  pub begin-none : get_or front slot None ≡ None → Begins a ray times states slots len (slot + 1)
  begin-none none = record {
    sizes = is.sizes;
    none = is.none;
    little = let l = is.little in omega (arith, l);
    trace = is.trace;
    met = met-wait is.met
        (λ slot' state' e h f r. absurd (let bad = sym none ∙ first-found slot' state' e h f r in cc))
        (λ k slot' state' bit' kh s e some f r u. absurd (not-now k slot' bit' e));
  }

  pub begin-some : (state : ℕ) → get_or front slot None ≡ Some state → {times' states' slots' : List ℕ} {len' : ℕ} → times' ≡ times
      → states' ≡ set states len state → slots' ≡ set slots len slot → len' ≡ len + 1 → Begins a ray times' states' slots' len' (slot + 1)
  begin-some state found et es el en =
      let in_states : len < length states = let l = is.little in let z = is.sizes.states_size in omega (arith, l, z, small) in
      let in_slots : len < length slots = let l = is.little in let z = is.sizes.slots_size in omega (arith, l, z, small) in
      let only = opened.only slot state found in
      let g = is.trace in
      let new = grown g len [] 0 false slot in
      let goes = next-goes a ray g times times states slots len len (len + 1) slot is.met [] 0 false slot state in_states in_slots in
      let size = is.sizes in
      rw (et, es, el, en) (record {
        sizes = record {
          times_size = size.times_size;
          states_size = let z = size.states_size in let l = length-set states len state in omega (arith, z, l);
          slots_size = let z = size.slots_size in let l = length-set slots len slot in omega (arith, z, l);
        };
        none = is.none;
        little = let l = is.little in omega (arith, l);
        trace = new;
        met = met-push a ray g times times states slots len len (len + 1) slot is.met [] 0 false slot state in_states in_slots
            tt (sym (opened.at slot small only.0 only.1) ∙ found) small (fits.states slot state found)
            (inl (record { head = here-nil g len slot; key = here-now g len slot ∙ sym (get_or-set_same slots len slot 0 in_slots) }))
            (omega arith)
            (λ j h. elim (cases_lt j len) [
              | inl b ↦ (λ e. omega (arith, b), λ l. goes.heads j b ∙ (is.met.begins j b).1 b)
              | inr p ↦ let same : j ≡ len = omega (arith, p, h) in (λ e. h, λ l. rw same (here-nil g len slot))
            ])
            (λ slot' state' s h. absurd (let z = is.none (state' * 9 + slot') in omega (arith, z, h)))
            (λ slot' state' s h. absurd (let z = is.none (state' * 9 + slot') in omega (arith, z, h)))
            (λ bit' slot'. late bit' slot')
            (λ slot' state' e h f r.
            let same : state ≡ state' = let x = sym found ∙ first-found slot' state' e h f r in cc in
            record {
              entry = len;
              within = omega arith;
              is_head = here-nil g len slot;
              is_slot = get_or-set_same slots len slot 0 in_slots ∙ sym e;
              is_state = get_or-set_same states len state 0 in_states ∙ same;
            })
            (λ k slot' state' bit' kh s e f r u. absurd (not-now k slot' bit' e));
      })
    where
      late : (bit' : Bool) (slot' : ℕ) → slot < moment len bit' slot'
      late true slot' = omega (arith, small)
      late false slot' = omega (arith, small)
