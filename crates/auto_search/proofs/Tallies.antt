-- What a walk's entries yield, counted.
use Rattle.std.proofs.Common.{◌≡◌, ℕ, ◌+◌, ◌*◌, ◌/◌, ◌%◌, ◌^◌, ◌<◌, ◌≤◌, Bool, true, false, List, length, get_or, Option, None, arith, inl, inr, ◌⊎◌, refl, sym, ap, ◌∙◌, subst}
use Rattle.std.proofs.lemmas.Bool.{cases_eq, cases_lt}
use Rattle.std.proofs.lemmas.Nat.{same_from_place}
use Rattle.auto_core.specs.Automaton.{Automaton}
use Rattle.auto_search.specs.declared.ray.TrackRay.{TrackRay}
use Rattle.auto_search.specs.declared.few.Few.{Few}
use Rattle.auto_search.specs.declared.few.Few.TheVariants.{Zero, One, More}
use Rattle.auto_search.specs.Fews.{HasFew, plus_of}
use Rattle.auto_search.specs.Bits.{number, slot_of, carry}
use Rattle.auto_search.specs.Search.{Suits, CompletedBy, Leads}
use Rattle.auto_search.specs.Heads.{head_number}
use Rattle.auto_search.specs.Met.{Trace, moment, IsSlot, IsMet, KeepsTrace, IsAlone, Walks, Yields, Meets, Counting, IsEntered}
use Rattle.auto_search.proofs.Sums.{carry-le}
use Rattle.auto_search.proofs.Fronts.{slot-parts, number-lt}
use Rattle.auto_search.proofs.Counts.{plus-has, raised-has, Raised}
use Rattle.auto_search.proofs.Rooms.{place-inside}
use Rattle.auto_search.proofs.Walked.{number-same, trimmed-same, apart, known-all}

-- equal sets have as many numbers
pub has-same : (f : Few) (P Q : ℕ → Type 0) → HasFew f P → ((t : ℕ) → P t → Q t) → ((t : ℕ) → Q t → P t) → HasFew f Q
has-same Zero P Q h to from = λ t q. h t (from t q)
has-same One P Q h to from = (h.0, to h.0 h.1, λ u q. h.2 u (from u q))
has-same More P Q h to from = (h.0, h.1, h.2, to h.0 h.3, to h.1 h.4)

-- a number tells its head and the bits after it
parts-same : (top m n : ℕ) (b c : List Bool) → length b ≡ top → length c ≡ top → m * 2 ^ top + number b ≡ n * 2 ^ top + number c → (m ≡ n) × (b ≡ c)
parts-same top m n b c lb lc e =
    let hb : number b < 2 ^ top = subst (λ k. number b < 2 ^ k) lb (number-lt b) in
    let hc : number c < 2 ^ top = subst (λ k. number c < 2 ^ k) lc (number-lt c) in
    let s = same_from_place m (number b) n (number c) (2 ^ top) hb hc e in
    (s.0, number-same b c (lb ∙ sym lc) s.1)

Yields-kept : (a : Automaton) (ray : TrackRay) {g h : Trace} (states slots states' slots' : List ℕ) {len : ℕ} (end : ℕ) → end ≤ len → KeepsTrace g h len
    → ((j : ℕ) → j < len → get_or states' j 0 ≡ get_or states j 0) → ((j : ℕ) → j < len → get_or slots' j 0 ≡ get_or slots j 0)
    → (n : ℕ) → Yields a ray g states slots end n → Yields a ray h states' slots' end n
Yields-kept a ray states slots states' slots' {len} end inside goes ss sl n y =
    let w : y.entry < len = let v = y.within in omega (arith, v, inside) in
    record {
      entry = y.entry;
      within = y.within;
      lo = y.lo;
      size = y.size;
      is = y.is ∙ ap (λ l. head_number l * 2 ^ ray.top + number y.lo) (sym (goes.heads y.entry w));
      slot = y.slot ∙ sym (sl y.entry w);
      leads = subst (λ s. Leads a ray s y.lo) (sym (ss y.entry w)) y.leads;
    }

KeepsTrace-back : {g h : Trace} {len : ℕ} → KeepsTrace g h len → KeepsTrace h g len
KeepsTrace-back p = record { heads = λ j l. sym (p.heads j l); parent = λ j l. sym (p.parent j l); bit = λ j l. sym (p.bit j l); key = λ j l. sym (p.key j l) }

-- what one entry yields
alone-yields : (a : Automaton) (ray : TrackRay) (g : Trace) (states slots : List ℕ) (end : ℕ) {front : List (Option ℕ)} → IsAlone (get_or slots end 0) (get_or states end 0) front → (n : ℕ)
    → Raised (head_number (g.heads end) * 2 ^ ray.top) (CompletedBy a ray ray.top front) n → Yields a ray g states slots (end + 1) n
alone-yields a ray g states slots end is n (m, e, by) =
    let only = is.only (slot_of ray by.bits) by.completes.state by.completes.found in
    record {
      entry = end;
      within = omega arith;
      lo = by.bits;
      size = by.size;
      is = e ∙ ap (λ k. head_number (g.heads end) * 2 ^ ray.top + k) (sym by.is);
      slot = only.0;
      leads = subst (λ s. Leads a ray s by.bits) only.1 by.completes.leads;
    }

module _ (a : Automaton) (ray : TrackRay) (suits : Suits a ray) (g : Trace) (times states slots : List ℕ) (len starts now end : ℕ)
    (is : IsMet a ray g times states slots len starts now) (within : end < len)
    (front : List (Option ℕ)) (alone : IsAlone (get_or slots end 0) (get_or states end 0) front) where
  split : (n : ℕ) → Yields a ray g states slots (end + 1) n → Yields a ray g states slots end n ⊎ Raised (head_number (g.heads end) * 2 ^ ray.top) (CompletedBy a ray ray.top front) n
  split n y = elim (cases_lt y.entry end) [
    | inl below ↦ inl (record { entry = y.entry; within = below; lo = y.lo; size = y.size; is = y.is; slot = y.slot; leads = y.leads })
    | inr past ↦
        let same : y.entry ≡ end = let w = y.within in omega (arith, past, w) in
        inr (
          number y.lo,
          y.is ∙ ap (λ k. head_number (g.heads k) * 2 ^ ray.top + number y.lo) same,
          record {
            bits = y.lo;
            size = y.size;
            is = refl;
            completes = record {
              state = get_or states end 0;
              found = ap (λ k. get_or front k None) (y.slot ∙ ap (λ k. get_or slots k 0) same) ∙ alone.there;
              leads = subst (λ k. Leads a ray (get_or states k 0) y.lo) same y.leads;
            };
          },
        )
  ]

  disjoint : (n : ℕ) → Yields a ray g states slots end n → Raised (head_number (g.heads end) * 2 ^ ray.top) (CompletedBy a ray ray.top front) n → ⊥
  disjoint n y r =
      let by = r.2 in
      let e : head_number (g.heads y.entry) * 2 ^ ray.top + number y.lo ≡ head_number (g.heads end) * 2 ^ ray.top + number by.bits =
      sym y.is ∙ r.1 ∙ ap (λ k. head_number (g.heads end) * 2 ^ ray.top + k) (sym by.is) in
      let p = parts-same ray.top (head_number (g.heads y.entry)) (head_number (g.heads end)) y.lo by.bits y.size by.size e in
      let below : y.entry < len = let w = y.within in omega (arith, w, within) in
      let heads = trimmed-same (g.heads y.entry) (g.heads end) (is.trimmed y.entry below) (is.trimmed end within) p.0 in
      let only = alone.only (slot_of ray by.bits) by.completes.state by.completes.found in
      apart a ray suits g times states slots len starts now is end y.entry end (omega arith) y.within within heads (sym y.slot ∙ ap (slot_of ray) p.1 ∙ only.0)

  pub one-more : (few more : Few) → HasFew few (Yields a ray g states slots end) → HasFew more (CompletedBy a ray ray.top front)
      → HasFew (plus_of few more) (Yields a ray g states slots (end + 1))
  one-more few more h k =
      plus-has few more (Yields a ray g states slots end) (Raised (head_number (g.heads end) * 2 ^ ray.top) (CompletedBy a ray ray.top front)) (Yields a ray g states slots (end + 1)) h
      (raised-has more (head_number (g.heads end) * 2 ^ ray.top) (CompletedBy a ray ray.top front) k)
      (λ n y. record { entry = y.entry; within = (let w = y.within in omega (arith, w)); lo = y.lo; size = y.size; is = y.is; slot = y.slot; leads = y.leads })
      (alone-yields a ray g states slots end alone) split disjoint

-- one more entry is counted, and followed
pub turn-counts : {a : Automaton} {ray : TrackRay} (suits : Suits a ray) (times states slots times1 states1 slots1 times2 states2 slots2 : List ℕ)
    (len len1 len2 starts end : ℕ) (few more : Few) (front : List (Option ℕ))
    → Counting a ray times states slots len starts end few → end < len → IsAlone (get_or slots end 0) (get_or states end 0) front → HasFew more (CompletedBy a ray ray.top front)
    → Walks a ray times states slots len times1 states1 slots1 len1 starts starts (moment end false 0) (moment end false 9)
    → Walks a ray times1 states1 slots1 len1 times2 states2 slots2 len2 starts starts (moment end true 0) (moment end true 9)
    → Counting a ray times2 states2 slots2 len2 starts (end + 1) (plus_of few more)
turn-counts {a} {ray} suits times states slots times1 states1 slots1 times2 states2 slots2 len len1 len2 starts end few more front is within alone done w1 w2 =
    let m1 = w1.met is.trace is.met in
    let t1 : moment end false 9 ≡ moment end true 0 = omega arith in
    let m1' = subst (λ t. IsMet a ray m1.0 times1 states1 slots1 len1 starts t) t1 m1.1 in
    let m2 = w2.met m1.0 m1' in
    let t2 : moment end true 9 ≡ moment (end + 1) false 0 = omega arith in
    let m2' = subst (λ t. IsMet a ray m2.0 times2 states2 slots2 len2 starts t) t2 m2.1 in
    let l1 = w1.longer in
    let l2 = w2.longer in
    let goes : KeepsTrace is.trace m2.0 len = record {
      heads = λ j h. m2.2.heads j (omega (arith, h, l1)) ∙ m1.2.heads j h;
      parent = λ j h. m2.2.parent j (omega (arith, h, l1)) ∙ m1.2.parent j h;
      bit = λ j h. m2.2.bit j (omega (arith, h, l1)) ∙ m1.2.bit j h;
      key = λ j h. m2.2.key j (omega (arith, h, l1)) ∙ m1.2.key j h;
    } in
    let ss = λ (j : ℕ) (h : j < len). w2.same_states j (omega (arith, h, l1)) ∙ w1.same_states j h in
    let sl = λ (j : ℕ) (h : j < len). w2.same_slots j (omega (arith, h, l1)) ∙ w1.same_slots j h in
    let next = one-more a ray suits is.trace times states slots len starts (moment end false 0) end is.met within front alone few more is.few_yields done in
    let inside : end + 1 ≤ len = omega (arith, within) in
    record {
      enough = omega (arith, within, l1, l2);
      place = w2.place;
      trace = m2.0;
      met = m2';
      few_yields = has-same (plus_of few more) (Yields a ray is.trace states slots (end + 1)) (Yields a ray m2.0 states2 slots2 (end + 1)) next
          (Yields-kept a ray states slots states2 slots2 (end + 1) inside goes ss sl)
          (Yields-kept a ray states2 slots2 states slots (end + 1) inside (KeepsTrace-back goes) (λ j h. sym (ss j h)) (λ j h. sym (sl j h)));
    }

module _ {a : Automaton} {ray : TrackRay} (suits : Suits a ray) {times states slots : List ℕ} {len starts end : ℕ} {few : Few} (is : Counting a ray times states slots len starts end few) where
  pub yields-meets : {n : ℕ} → Yields a ray is.trace states slots end n → Meets a ray n
  yields-meets y =
      let w : y.entry < len = let v = y.within in let e = is.enough in omega (arith, v, e) in
      record {
        head = is.trace.heads y.entry;
        trimmed = is.met.trimmed y.entry w;
        lo = y.lo;
        size = y.size;
        is = y.is;
        state = get_or states y.entry 0;
        reads = rw y.slot (is.met.reads y.entry w);
        leads = y.leads;
      }

  -- several already
  pub more-meets : few ≡ More → HasFew More (Meets a ray)
  more-meets e = let h = subst (λ f. HasFew f (Yields a ray is.trace states slots end)) e is.few_yields in (h.0, h.1, h.2, yields-meets h.3, yields-meets h.4)

  -- all are counted
  module _ (done : end ≡ len) where
    at-once : (entry n : ℕ) (lo : List Bool) → entry < len → length lo ≡ ray.top → slot_of ray lo ≡ get_or slots entry 0
        → Leads a ray (get_or states entry 0) lo → n ≡ head_number (is.trace.heads entry) * 2 ^ ray.top + number lo
        → Yields a ray is.trace states slots end n
    at-once entry n lo w size slot leads e = record { entry = entry; within = omega (arith, w, done); lo = lo; size = size; is = e; slot = slot; leads = leads }

    in-slot : (lo : List Bool) → (slot_of ray lo < 9) × IsSlot ray (slot_of ray lo)
    in-slot lo =
        let hx = carry-le ray.x lo in
        let hy = carry-le ray.y lo in
        let sx = suits.x_small in
        let sy = suits.y_small in
        let parts = slot-parts (carry ray.x lo) (carry ray.y lo) (omega (arith, hy, sy)) in
        (omega (arith, hx, hy, sx, sy), (rw parts.0 hx, rw parts.1 hy))

    -- what is met is yielded, or two numbers are
    meets-yields : {n : ℕ} → Meets a ray n → Yields a ray is.trace states slots end n ⊎ HasFew More (Yields a ray is.trace states slots end)
    meets-yields {n} m =
        let now : moment end false 0 ≡ moment len false 0 = ap (λ k. moment k false 0) done in
        let s = in-slot m.lo in
        elim (known-all a ray suits is.trace times states slots len starts (moment end false 0) is.met now m.head (slot_of ray m.lo) m.state m.trimmed s.0 s.1 m.reads) [
          | inl e ↦
              inl
              (at-once e.entry n m.lo e.within m.size (sym e.is_slot) (subst (λ q. Leads a ray q m.lo) (sym e.is_state) m.leads)
              (m.is ∙ ap (λ l. head_number l * 2 ^ ray.top + number m.lo) (sym e.is_head)))
          | inr t ↦
              let f : t.first < len = let o = t.order in let w = t.within in omega (arith, o, w) in
              let n1 = head_number (is.trace.heads t.first) * 2 ^ ray.top + number m.lo in
              let n2 = head_number (is.trace.heads t.second) * 2 ^ ray.top + number m.lo in
              let y1 = at-once t.first n1 m.lo f m.size (sym t.first_slot) (subst (λ q. Leads a ray q m.lo) (sym t.first_state) m.leads) refl in
              let y2 = at-once t.second n2 m.lo t.within m.size (sym t.second_slot) (subst (λ q. Leads a ray q m.lo) (sym t.second_state) m.leads) refl in
              elim (cases_eq n1 n2) [
                | inl same ↦
                    let p = parts-same ray.top (head_number (is.trace.heads t.first)) (head_number (is.trace.heads t.second)) m.lo m.lo m.size m.size same in
                    let heads = trimmed-same (is.trace.heads t.first) (is.trace.heads t.second) (is.met.trimmed t.first f) (is.met.trimmed t.second t.within) p.0 in
                    absurd
                    (apart a ray suits is.trace times states slots len starts (moment end false 0) is.met t.second t.first t.second (omega arith)
                    t.order t.within heads (t.first_slot ∙ sym t.second_slot))
                | inr other ↦ elim (cases_lt n1 n2) [
                  | inl less ↦ inr (n1, n2, less, y1, y2)
                  | inr more ↦ inr (n2, n1, omega (arith, more, other), y2, y1)
                ]
              ]
        ]

    -- so the count is that of all numbers that are met
    pub all-counted : HasFew few (Meets a ray)
    all-counted = at few is.few_yields
      where
        at : (f : Few) → HasFew f (Yields a ray is.trace states slots end) → HasFew f (Meets a ray)
        at Zero h = λ n m. elim (meets-yields m) [ inl y ↦ h n y | inr two ↦ h two.0 two.3 ]
        at One h = (
          h.0,
          yields-meets h.1,
          λ n m. elim (meets-yields m) [
            | inl y ↦ h.2 n y
            | inr two ↦
                let e1 = h.2 two.0 two.3 in
                let e2 = h.2 two.1 two.4 in
                let o = two.2 in
                absurd (omega (arith, e1, e2, o))
          ],
        )
        at More h = (h.0, h.1, h.2, yields-meets h.3, yields-meets h.4)

-- a state that was entered for a slot has an entry
pub counting-entered : {a : Automaton} {ray : TrackRay} {times states slots : List ℕ} {len starts end : ℕ} {few : Few}
    → Counting a ray times states slots len starts end few → IsEntered times states slots len
counting-entered {a} {ray} {times} {states} {slots} {len} is =
    let inside = place-inside is.place in
    record {
      in_states = inside.0;
      in_slots = inside.1;
      within = λ j h. let s = is.met.small j h in let s0 = s.0 in let s1 = s.1 in let size = is.place.times_size in omega (arith, s0, s1, size);
      each = λ k some. each k some;
    }
  where
    each : (k : ℕ) → 0 < get_or times k 0 → (j : ℕ) × (j < len) × (get_or states j 0 * 9 + get_or slots j 0 ≡ k)
    each k some =
        let parts : k / 9 * 9 + k % 9 ≡ k = omega arith in
        let o = is.met.once (k % 9) (k / 9) (omega arith) (rw parts some) in
        let s = o.is_slot in
        let q = o.is_state in
        (o.entry, o.within, rw (s, q) parts)
