-- The mask after a capture.
use Rattle.std.proofs.Common.{◌≡◌, ◌≢◌, ℕ, zero, suc, ◌*◌, ◌-◌, ◌%◌, ◌/◌, ◌^◌, ◌<◌, ◌≤◌, Bool, true, false, ◌&&◌, not, inl, inr, refl, subst, sym, ap, ◌∙◌, arith}
use Rattle.std.specs.Prelude.{◌==◌}
use Rattle.std.specs.Int.{bit_at}
use Rattle.std.proofs.Math.Nat.{pow-succ'}
use Rattle.std.proofs.lemmas.Bool.{eqb-true}
use Rattle.std.proofs.lemmas.Nat.Bits.{bit_at-suc, bit_at_lowest}
use Rattle.rule_formula.specs.Placed.{is_live, without}
use Rattle.rule_formula.specs.Fits.{mask_without}
use Rattle.rule_formula.proofs.MoveLemmas.{kept_live, same_number, taken_gone}

-- a number with a bit is not below its power
pub power_in : (t m : ℕ) → bit_at m t ≡ 1 → 2 ^ t ≤ m
power_in zero m bit = let odd = bit_at_lowest m in omega (arith, odd, bit)
power_in (suc t) m bit =
    let half = power_in t (m / 2) (sym (bit_at-suc m t) ∙ bit) in
    let power : 2 ^ suc t ≡ 2 * 2 ^ t = pow-succ' 2 t in omega (arith, half, power)

-- the bit goes, and the others stay
minus_same : (t m : ℕ) → bit_at m t ≡ 1 → bit_at (m - 2 ^ t) t ≡ 0
minus_same zero m bit =
    let odd = bit_at_lowest m in
    let even = bit_at_lowest (m - 1) in
    let e : (m - 1) % 2 ≡ 0 = omega (arith, odd, bit) in even ∙ e
minus_same (suc t) m bit =
    let bit_half : bit_at (m / 2) t ≡ 1 = sym (bit_at-suc m t) ∙ bit in
    let low = power_in t (m / 2) bit_half in
    let power : 2 ^ suc t ≡ 2 * 2 ^ t = pow-succ' 2 t in
    let half : (m - 2 ^ suc t) / 2 ≡ m / 2 - 2 ^ t = omega (arith, low, power) in
    bit_at-suc (m - 2 ^ suc t) t ∙ ap (λ n. bit_at n t) half ∙ minus_same t (m / 2) bit_half

minus_other : (t m i : ℕ) → bit_at m t ≡ 1 → i ≢ t → bit_at (m - 2 ^ t) i ≡ bit_at m i
minus_other zero m zero bit ne = absurd (ne refl)
minus_other zero m (suc i) bit ne =
    let odd = bit_at_lowest m in
    let half : (m - 1) / 2 ≡ m / 2 = omega (arith, odd, bit) in
    bit_at-suc (m - 1) i ∙ ap (λ n. bit_at n i) half ∙ sym (bit_at-suc m i)
minus_other (suc t) m zero bit ne =
    let bit_half : bit_at (m / 2) t ≡ 1 = sym (bit_at-suc m t) ∙ bit in
    let low = power_in t (m / 2) bit_half in
    let power : 2 ^ suc t ≡ 2 * 2 ^ t = pow-succ' 2 t in
    let rest : (m - 2 ^ suc t) % 2 ≡ m % 2 = omega (arith, low, power) in
    bit_at_lowest (m - 2 ^ suc t) ∙ rest ∙ sym (bit_at_lowest m)
minus_other (suc t) m (suc i) bit ne =
    let bit_half : bit_at (m / 2) t ≡ 1 = sym (bit_at-suc m t) ∙ bit in
    let low = power_in t (m / 2) bit_half in
    let power : 2 ^ suc t ≡ 2 * 2 ^ t = pow-succ' 2 t in
    let half : (m - 2 ^ suc t) / 2 ≡ m / 2 - 2 ^ t = omega (arith, low, power) in
    bit_at-suc (m - 2 ^ suc t) i ∙ ap (λ n. bit_at n i) half ∙ minus_other t (m / 2) i bit_half (λ e. ne (ap suc e)) ∙ sym (bit_at-suc m i)

tested : (a b : ℕ) → a ≡ b → (a == 1) ≡ (b == 1)
tested a b e = ap (λ n. n == 1) e

less_one : (t : ℕ) → suc t - 1 ≡ t
less_one t = omega arith

-- the bit of a man
pub live_bit_is : (m t : ℕ) → is_live m (suc t) ≡ true → bit_at m t ≡ 1
live_bit_is m t on = ap (bit_at m) (sym (less_one t)) ∙ eqb-true (bit_at m (suc t - 1)) 1 on

live_test : (m t : ℕ) → is_live m (suc t) ≡ (bit_at m t == 1)
live_test m t = ap (λ j. bit_at m j == 1) (less_one t)

kept_other : (b : Bool) (k t : ℕ) → k ≢ t → (b && not (k == t)) ≡ b
kept_other true k t ne = kept_live true k t refl ne
kept_other false k t ne = refl

-- the mask without a live man is that of the others
pub without_is : (m t k : ℕ) → 0 < k → (0 < t → is_live m t ≡ true) → is_live (mask_without m t) k ≡ without (is_live m) t k
without_is m zero k low on = sym (kept_other (is_live m k) k 0 (λ e. omega (arith, low, e)))
without_is m (suc t) zero low on = absurd (omega (arith, low))
without_is m (suc t) (suc i) low on =
    let bit : bit_at m t ≡ 1 = live_bit_is m t (on (omega arith)) in
    elim (same_number i t) [
      | inl e ↦
          let gone : bit_at (m - 2 ^ t) i ≡ 0 = ap (bit_at (m - 2 ^ t)) e ∙ minus_same t m bit in
          live_test (m - 2 ^ t) i ∙ tested (bit_at (m - 2 ^ t) i) 0 gone ∙ sym (taken_gone (is_live m (suc i)) (suc i) (suc t) (ap suc e))
      | inr ne ↦
          live_test (m - 2 ^ t) i ∙ tested (bit_at (m - 2 ^ t) i) (bit_at m i) (minus_other t m i bit ne) ∙ sym (live_test m i)
          ∙ sym (kept_other (is_live m (suc i)) (suc i) (suc t) (λ e. ne (omega (arith, e))))
    ]

-- it is no more than the mask
pub without_less : (m t : ℕ) → mask_without m t ≤ m
without_less m zero = omega arith
without_less m (suc t) = omega arith

-- the power of a live man's bit is in the mask
pub power_live : (m t : ℕ) → 1 ≤ t → is_live m t ≡ true → 2 ^ (t - 1) ≤ m
power_live m zero low on = absurd (omega (arith, low))
power_live m (suc t) low on = subst (λ j. 2 ^ j ≤ m) (sym (less_one t)) (power_in t m (live_bit_is m t on))

pub without_minus : (m t : ℕ) → 1 ≤ t → m - 2 ^ (t - 1) ≡ mask_without m t
without_minus m zero low = absurd (omega (arith, low))
without_minus m (suc t) low = ap (λ j. m - 2 ^ j) (less_one t)

pub ruleset bits = (power_live, without_minus)
