-- Masks of states, bit by bit and state by state.
use Rattle.std.proofs.Common.{◌≡◌, ℕ, zero, suc, ◌+◌, ◌*◌, ◌/◌, ◌^◌, ◌<◌, ◌≤◌, Bool, true, false, nat_eq, List, [], ◌∷◌, ◌++◌, get_or, add-one, arith, inl, inr, refl, sym, ap, ◌∙◌}
use Rattle.std.specs.Int.{bit_at}
use Rattle.std.specs.Int.Bits.{bit_or}
use Rattle.std.specs.Int.RustNames.{bit_and}
use Rattle.std.proofs.lemmas.Bool.{cases_eq}
use Rattle.std.proofs.lemmas.Bool.Decides.{nat_tests}
use Rattle.std.proofs.lemmas.List.{get_or_push, get_or_append_left, length-append}
use Rattle.std.proofs.lemmas.Nat.{or_lt}
use Rattle.std.proofs.lemmas.Nat.Bits.{bit_at-lt, shr_and_one, bit_at_or, bit_at-suc, bit_at_lowest}
use Rattle.std.proofs.Math.Nat.{pow-le-pow_right}
use Rattle.auto_core.specs.Automaton.{Automaton, next_state, is_final}
use Rattle.auto_numbers.specs.Reading.{LeadsNone}
use Rattle.auto_numbers.specs.Outlook.{IsMask, AreMasks}
use Rattle.auto_numbers.proofs.Readings.{doubled}
use Rattle.auto_numbers.proofs.Searches.{none-zero, none-zero-not, none-behind-0, none-behind-1, none-both}

pub AreMasks-push : {a : Automaton} {flag : Bool} {most count : ℕ} {masks : List ℕ} {mask : ℕ} → AreMasks a flag most count masks → IsMask a flag most count mask
    → AreMasks a flag most (count + 1) (masks ++ mask ∷ [])
AreMasks-push {a} {flag} {most} {count} {masks} {mask} are is = record {
  size = let s = are.size in let l = length-append masks (mask ∷ []) in omega (arith, s, l);
  each = λ state h. elim (cases_eq state count) [
    | inl last ↦ rw (last, get_or_push masks mask 0 count are.size) is
    | inr other ↦
        let below : state < count = omega (arith, h, other) in
        let s = are.size in
        let same : get_or (masks ++ mask ∷ []) state 0 ≡ get_or masks state 0 = get_or_append_left masks (mask ∷ []) 0 state (omega (arith, below, s)) in
        rw same (are.each state below)
  ];
}

pub mask-now : (a : Automaton) (flag : Bool) (state bit : ℕ) → bit < 2 → (bit ≡ 1 → is_final a state ≡ flag) → (bit ≡ 0 → is_final a state ≡ flag → ⊥)
    → IsMask a flag 0 state bit
mask-now a flag state bit small is not = record {
  small = omega (arith, small);
  some = λ bits few set.
      let z : bits ≡ 0 = omega (arith, few) in
      let set' = rw z at set in
      rw z (λ none. none-zero-not a flag state (is (let l = bit_at_lowest bit in omega (arith, small, l, set'))) none);
  none = λ bits few clear.
      let z : bits ≡ 0 = omega (arith, few) in
      let clear' = rw z at clear in
      rw z (none-zero a flag state 0 (not (let l = bit_at_lowest bit in omega (arith, small, l, clear'))));
}

-- a mask for no bits, and those of the two states to which a bit leads
pub mask-more : (a : Automaton) (flag : Bool) (most state low high own : ℕ) → own < 2 → IsMask a flag 0 state own
    → IsMask a flag most (next_state a state 0) low → IsMask a flag most (next_state a state 1) high
    → IsMask a flag (most + 1) state (2 * bit_or low high + own)
mask-more a flag most state low high own small here lows highs = record {
  small =
      let h = or_lt (most + 1) low high lows.small highs.small in
      let e : 2 ^ (most + 1 + 1) ≡ 2 * 2 ^ (most + 1) = ap (λ k. 2 ^ k) (add-one (most + 1)) ∙ doubled (most + 1) in
      omega (arith, h, e, small);
  some = some;
  none = none;
}
  where
    half : (2 * bit_or low high + own) / 2 ≡ bit_or low high
    half = omega (arith, small)

    -- the bits but the lowest are those of both masks
    later : (bits : ℕ) → bit_at (2 * bit_or low high + own) (suc bits) ≡ bit_at (bit_or low high) bits
    later bits = bit_at-suc (2 * bit_or low high + own) bits ∙ ap (λ n. bit_at n bits) half

    some : (bits : ℕ) → bits ≤ most + 1 → bit_at (2 * bit_or low high + own) bits ≡ 1 → ¬ LeadsNone a flag state bits 0
    some zero few set =
        here.some zero (omega arith)
        (bit_at_lowest own ∙ (let l = bit_at_lowest (2 * bit_or low high + own) in omega (arith, l, set, small)))
    some (suc bits) few set = elim (cases_eq (bit_at low bits) 1) [
      | inl is ↦ λ none. lows.some bits (omega (arith, few)) is (none-behind-0 a flag state bits none)
      | inr other ↦
          let e = sym (later bits) ∙ set in
          let m = bit_at_or low high bits in
          let s = bit_at-lt low bits in
          λ none. highs.some bits (omega (arith, few)) (omega (arith, e, m, s, other)) (none-behind-1 a flag state bits none)
    ]

    none : (bits : ℕ) → bits ≤ most + 1 → bit_at (2 * bit_or low high + own) bits ≡ 0 → LeadsNone a flag state bits 0
    none zero few clear =
        here.none zero (omega arith)
        (bit_at_lowest own ∙ (let l = bit_at_lowest (2 * bit_or low high + own) in omega (arith, l, clear, small)))
    none (suc bits) few clear =
        let e = sym (later bits) ∙ clear in
        let m = bit_at_or low high bits in
        let l : bit_at low bits ≡ 0 = omega (arith, e, m) in
        let h : bit_at high bits ≡ 0 = omega (arith, e, m) in
        none-both a flag state refl 0 (lows.none bits (omega (arith, few)) l) (highs.none bits (omega (arith, few)) h)

-- a bit that is set, and one that is not
pub mask-set : {a : Automaton} {flag : Bool} {most state mask : ℕ} → IsMask a flag most state mask → (bits : ℕ) → bits ≤ most
    → nat_eq (bit_and (mask / 2 ^ bits) 1) 1 ≡ true → ¬ LeadsNone a flag state bits 0
mask-set {mask} is bits few set = is.some bits few (one-bit (bit_at mask bits) (rw shr_and_one at set))
  where
    one-bit : (bit : ℕ) → nat_eq bit 1 ≡ true → bit ≡ 1
    one-bit bit is = grind (arith, nat_tests, is)

pub mask-clear : {a : Automaton} {flag : Bool} {most state mask : ℕ} → IsMask a flag most state mask → (bits : ℕ) → bits ≤ most
    → nat_eq (bit_and (mask / 2 ^ bits) 1) 1 ≡ false → LeadsNone a flag state bits 0
mask-clear {mask} is bits few clear = is.none bits few (zero-bit (bit_at mask bits) (bit_at-lt mask bits) (rw shr_and_one at clear))
  where
    zero-bit : (bit : ℕ) → bit < 2 → nat_eq bit 1 ≡ false → bit ≡ 0
    zero-bit bit small not = grind (arith, nat_tests, not)

-- a mask of few bits has room for one more
pub mask-room : (most low high own : ℕ) → most ≤ 100 → low < 2 ^ (most + 1) → high < 2 ^ (most + 1) → own < 2 → 2 * bit_or low high + own < 2 ^ 128
mask-room most low high own few lows highs small =
    let h = or_lt (most + 1) low high lows highs in
    let p : 2 ^ (most + 1) ≤ 2 ^ 101 = pow-le-pow_right {n = 2} (omega arith) {i = most + 1} {j = 101} (omega (arith, few)) in
    omega (arith, h, p, small)
