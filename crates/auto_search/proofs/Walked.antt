-- A walk that is done has met each head, or a state twice.
use Rattle.std.proofs.Common.{◌≡◌, ◌≢◌, ℕ, zero, suc, ◌+◌, ◌/◌, ◌%◌, ◌^◌, ◌<◌, ◌≤◌, Bool, true, false, List, [], ◌∷◌, ◌++◌, length, get_or, Some, option_map, arith, inl, inr, refl, sym, ap, ◌∙◌, subst}
use Rattle.std.proofs.lemmas.Bool.{cases_eq, cases_lt}
use Rattle.track_word.proofs.Spelling.{integer_bit-lt}
use Rattle.auto_core.specs.Automaton.{Automaton, next_state}
use Rattle.auto_search.specs.declared.ray.TrackRay.{TrackRay}
use Rattle.auto_search.specs.Bits.{number, sum_at, letter_at}
use Rattle.auto_search.specs.Search.{Suits}
use Rattle.auto_search.specs.Heads.{IsTrimmed, headed, head_number, read, zeros}
use Rattle.auto_search.specs.Met.{Trace, up, moment, IsSlot, Entered, Twice, Known, IsMet}
use Rattle.auto_search.proofs.Sums.{added-le}
use Rattle.auto_search.proofs.Fronts.{option_map-some, slot-parts, number-lt}

-- bits of one number, and as many, are the same
pub number-same : (b c : List Bool) → length b ≡ length c → number b ≡ number c → b ≡ c
number-same [] [] l e = refl
number-same [] (y ∷ c) l e = absurd (omega (arith, l))
number-same (x ∷ b) [] l e = absurd (omega (arith, l))
number-same (true ∷ b) (true ∷ c) l e = let l' : length b ≡ length c = omega (arith, l) in let p = ap (λ k. 2 ^ k) l' in ap (λ t. true ∷ t) (number-same b c l' (omega (arith, e, p)))
number-same (false ∷ b) (false ∷ c) l e = let l' : length b ≡ length c = omega (arith, l) in ap (λ t. false ∷ t) (number-same b c l' (omega (arith, e)))
number-same (true ∷ b) (false ∷ c) l e = let l' : length b ≡ length c = omega (arith, l) in let p = ap (λ k. 2 ^ k) l' in let h = number-lt c in absurd (omega (arith, e, p, h))
number-same (false ∷ b) (true ∷ c) l e = let l' : length b ≡ length c = omega (arith, l) in let p = ap (λ k. 2 ^ k) l' in let h = number-lt b in absurd (omega (arith, e, p, h))

-- so are trimmed heads of one number
pub trimmed-same : (g h : List Bool) → IsTrimmed g → IsTrimmed h → head_number g ≡ head_number h → g ≡ h
trimmed-same [] [] p q e = refl
trimmed-same [] (y ∷ h) p q e = absurd (let s = q.1 in omega (arith, s, e))
trimmed-same (x ∷ g) [] p q e = absurd (let s = p.1 in omega (arith, s, e))
trimmed-same (true ∷ g) (true ∷ h) p q e = ap (λ t. true ∷ t) (trimmed-same g h p.0 q.0 (omega (arith, e)))
trimmed-same (false ∷ g) (false ∷ h) p q e = ap (λ t. false ∷ t) (trimmed-same g h p.0 q.0 (omega (arith, e)))
trimmed-same (true ∷ g) (false ∷ h) p q e = absurd (omega (arith, e))
trimmed-same (false ∷ g) (true ∷ h) p q e = absurd (omega (arith, e))

cons-parts : (x y : Bool) (g h : List Bool) → x ∷ g ≡ y ∷ h → (x ≡ y) × (g ≡ h)
cons-parts x y g h e = (cc, cc)

never-nil : (x : Bool) (g : List Bool) → x ∷ g ≡ [] → ⊥
never-nil x g e = cc

module _ (a : Automaton) (ray : TrackRay) (suits : Suits a ray) (g : Trace) (times states slots : List ℕ) (len starts now : ℕ) (is : IsMet a ray g times states slots len starts now) where
  -- two entries have different heads or slots
  pub apart : (fuel i j : ℕ) → j ≤ fuel → i < j → j < len → g.heads i ≡ g.heads j → get_or slots i 0 ≡ get_or slots j 0 → ⊥
  apart zero i j f o h eh es = omega (arith, f, o)
  apart (suc fuel) i j f o h eh es =
      let hi : i < len = omega (arith, o, h) in
      elim (is.origin i hi) [
        | inl fi ↦ elim (is.origin j h) [
          | inl fj ↦ let k = is.increasing i j o h in let ki = fi.key in let kj = fj.key in omega (arith, k, ki, kj, es)
          | inr wj ↦ never-nil (g.bit j) (g.heads (g.parent j)) (sym wj.head ∙ sym eh ∙ fi.head)
        ]
        | inr wi ↦ elim (is.origin j h) [
          | inl fj ↦ never-nil (g.bit i) (g.heads (g.parent i)) (sym wi.head ∙ eh ∙ fj.head)
          | inr wj ↦
              let parts = cons-parts (g.bit i) (g.bit j) (g.heads (g.parent i)) (g.heads (g.parent j)) (sym wi.head ∙ eh ∙ wj.head) in
              let s : get_or slots (g.parent i) 0 ≡ get_or slots (g.parent j) 0 = wi.slot ∙ ap (λ b. up ray b (get_or slots i 0)) parts.0 ∙ ap (up ray (g.bit j)) es ∙ sym wj.slot in
              let bi = wi.before in
              let bj = wj.before in
              elim (cases_eq (g.parent i) (g.parent j)) [
                | inl same ↦
                    let k = is.increasing i j o h in
                    let key : g.key i ≡ g.key j =
                    wi.key ∙ ap (λ p. moment p (g.bit i) (get_or slots i 0)) same ∙ ap (λ b. moment (g.parent j) b (get_or slots i 0)) parts.0
                    ∙ ap (moment (g.parent j) (g.bit j)) es ∙ sym wj.key in
                    omega (arith, k, key)
                | inr other ↦ elim (cases_lt (g.parent i) (g.parent j)) [
                  | inl less ↦ apart fuel (g.parent i) (g.parent j) (omega (arith, bj, f)) less (omega (arith, bj, h)) parts.1 s
                  | inr more ↦ apart fuel (g.parent j) (g.parent i) (omega (arith, bi, o, f)) (omega (arith, more, other)) (omega (arith, bi, hi)) (sym parts.1) (sym s)
                ]
              ]
        ]
      ]

  module _ (done : now ≡ moment len false 0) where
    moment-in : (k slot : ℕ) (bit : Bool) → k < len → slot < 9 → moment k bit slot < now
    moment-in k slot true h s = rw done (omega (arith, h, s))
    moment-in k slot false h s = rw done (omega (arith, h, s))

    nine : (slot : ℕ) → slot < 9 → slot < now
    nine slot s = rw done (omega (arith, s))

    small-up : (slot : ℕ) (bit : Bool) → IsSlot ray slot
        → (sum_at ray.x ray.top (slot / 3) bit / 2 ≤ ray.x.zero + ray.x.one) × (sum_at ray.y ray.top (slot % 3) bit / 2 ≤ ray.y.zero + ray.y.one)
    small-up slot bit fits =
        let fx = fits.0 in
        let fy = fits.1 in
        let bx = integer_bit-lt ray.x.base ray.top in
        let by = integer_bit-lt ray.y.base ray.top in
        let wx = added-le ray.x bit in
        let wy = added-le ray.y bit in
        (omega (arith, fx, bx, wx), omega (arith, fy, by, wy))

    -- each head that leads to a state is entered, or the state twice
    pub known-all : (head : List Bool) (slot state : ℕ) → IsTrimmed head → slot < 9 → IsSlot ray slot
        → headed a ray head (slot / 3) (slot % 3) ≡ Some state → Known g states slots len head slot state
    known-all [] slot state trimmed small fits e = inl (is.firsts slot state (nine slot small) small fits e)
    known-all (bit ∷ head) slot state trimmed small fits e =
        let sx = sum_at ray.x ray.top (slot / 3) bit in
        let sy = sum_at ray.y ray.top (slot % 3) bit in
        let some = option_map-some (λ (q : ℕ). next_state a q (letter_at ray ray.top sx sy)) (read a ray (head ++ zeros) (sx / 2) (sy / 2)) state e in
        let su = small-up slot bit fits in
        let xs = suits.x_small in
        let ys = suits.y_small in
        let su0 = su.0 in
        let su1 = su.1 in
        let parts = slot-parts (sx / 2) (sy / 2) (omega (arith, su1, ys)) in
        let above_small : up ray bit slot < 9 = omega (arith, su0, su1, xs, ys) in
        let above_fits : IsSlot ray (up ray bit slot) = (rw parts.0 su0, rw parts.1 su1) in
        let above : headed a ray head (up ray bit slot / 3) (up ray bit slot % 3) ≡ Some some.0 = rw (parts.0, parts.1) some.1 in
        elim (known-all head (up ray bit slot) some.0 trimmed.0 above_small above_fits above) [
          | inl entered ↦
              let nontop = λ (n : g.heads entered.entry ≡ []). top-bit head bit trimmed (sym entered.is_head ∙ n) in
              let k =
              is.closed entered.entry slot state bit entered.within small (moment-in entered.entry slot bit entered.within small) nontop fits
              (subst (λ l. headed a ray (bit ∷ l) (slot / 3) (slot % 3) ≡ Some state) (sym entered.is_head) e) (sym entered.is_slot) in
              subst (λ l. Known g states slots len (bit ∷ l) slot state) entered.is_head k
          | inr twice ↦ both twice some.1 some.2
        ]
      where
        top-bit : (head : List Bool) (bit : Bool) → IsTrimmed (bit ∷ head) → head ≡ [] → bit ≡ true
        top-bit head true t e = refl
        top-bit [] false t e = absurd (let h = t.1 in omega (arith, h))
        top-bit (b ∷ head) false t e = absurd (never-nil b head e)

        both : {q : ℕ} → Twice g states slots len (up ray bit slot) q → read a ray (head ++ zeros) (sum_at ray.x ray.top (slot / 3) bit / 2) (sum_at ray.y ray.top (slot % 3) bit / 2) ≡ Some q
            → next_state a q (letter_at ray ray.top (sum_at ray.x ray.top (slot / 3) bit) (sum_at ray.y ray.top (slot % 3) bit)) ≡ state → Known g states slots len (bit ∷ head) slot state
        both {q} twice r n =
            let w1 : twice.first < len = let o = twice.order in let w = twice.within in omega (arith, o, w) in
            let k1 = led twice.first w1 twice.some_first twice.first_slot twice.first_state in
            let k2 = led twice.second twice.within twice.some_second twice.second_slot twice.second_state in
            elim k1 [
              | inr t ↦ inr t
              | inl e1 ↦ elim k2 [
                | inr t ↦ inr t
                | inl e2 ↦ inr (two e1 e2)
              ]
            ]
          where
            led : (k : ℕ) → k < len → g.heads k ≢ [] → get_or slots k 0 ≡ up ray bit slot → get_or states k 0 ≡ q → Known g states slots len (bit ∷ g.heads k) slot state
            led k h some es eq =
                let su = small-up slot bit fits in
                let su1 = su.1 in
                let ys = suits.y_small in
                let parts = slot-parts (sum_at ray.x ray.top (slot / 3) bit / 2) (sum_at ray.y ray.top (slot % 3) bit / 2) (omega (arith, su1, ys)) in
                let r = rw (es, parts.0, parts.1, eq) at (is.reads k h) in
                is.closed k slot state bit h small (moment-in k slot bit h small) (λ e. absurd (some e)) fits
                (ap (option_map (λ (s : ℕ). next_state a s (letter_at ray ray.top (sum_at ray.x ray.top (slot / 3) bit) (sum_at ray.y ray.top (slot % 3) bit)))) r ∙ ap Some n) (sym es)

            two : Entered g states slots len (bit ∷ g.heads twice.first) slot state → Entered g states slots len (bit ∷ g.heads twice.second) slot state → Twice g states slots len slot state
            two e1 e2 = elim (cases_eq e1.entry e2.entry) [
              | inl same ↦
                  let heads = cons-parts bit bit (g.heads twice.first) (g.heads twice.second) (sym e1.is_head ∙ ap g.heads same ∙ e2.is_head) in
                  absurd (apart twice.second twice.first twice.second (omega arith) twice.order twice.within heads.1 (twice.first_slot ∙ sym twice.second_slot))
              | inr other ↦ elim (cases_lt e1.entry e2.entry) [
                | inl less ↦ record {
                  first = e1.entry;
                  second = e2.entry;
                  order = less;
                  within = e2.within;
                  some_first = λ n. never-nil bit (g.heads twice.first) (sym e1.is_head ∙ n);
                  some_second = λ n. never-nil bit (g.heads twice.second) (sym e2.is_head ∙ n);
                  first_slot = e1.is_slot;
                  first_state = e1.is_state;
                  second_slot = e2.is_slot;
                  second_state = e2.is_state;
                }
                | inr more ↦ record {
                  first = e2.entry;
                  second = e1.entry;
                  order = omega (arith, more, other);
                  within = e1.within;
                  some_first = λ n. never-nil bit (g.heads twice.second) (sym e2.is_head ∙ n);
                  some_second = λ n. never-nil bit (g.heads twice.first) (sym e1.is_head ∙ n);
                  first_slot = e2.is_slot;
                  first_state = e2.is_state;
                  second_slot = e1.is_slot;
                  second_state = e1.is_state;
                }
              ]
            ]
