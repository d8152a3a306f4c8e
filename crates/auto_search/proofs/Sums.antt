-- Sums of bits, and the values that they are the bits of.
use Rattle.std.proofs.Common.{◌≡◌, ◌≢◌, ℕ, zero, suc, ℤ, pos, negsuc, ◌+ℤ◌, ◌*ℤ◌, ◌+◌, ◌-◌, ◌*◌, ◌/◌, ◌%◌, ◌^◌, ◌<◌, ◌≤◌, Bool, true, false, cond, List, [], ◌∷◌, length, get_or, set, arith, sym, ap, ◌∙◌}
use Rattle.std.specs.Int.{bit_at, int_shr}
use Rattle.std.proofs.lemmas.Int.{ints}
use Rattle.std.proofs.lemmas.Nat.{shr-shr}
use Rattle.std.proofs.lemmas.Nat.Bits.{bit_at-zero}
use Rattle.std.proofs.lemmas.List.{length-set, get_or-set_other}
use Rattle.track_word.specs.Word.{integer_bit, letter_of}
use Rattle.track_word.proofs.Spelling.{integer_bit-lt}
use Rattle.auto_search.specs.declared.axis.Axis.{Axis}
use Rattle.auto_search.specs.TupleRay.{IsSlope}
use Rattle.auto_search.specs.Bits.{carry}

-- what a bit adds
abbrev pub added : Axis → Bool → ℕ
added axis bit = cond bit axis.one axis.zero

pub added-le : (axis : Axis) (bit : Bool) → added axis bit ≤ axis.zero + axis.one
added-le axis true = omega arith
added-le axis false = omega arith

-- little is carried over
pub carry-le : (axis : Axis) (bits : List Bool) → carry axis bits ≤ axis.zero + axis.one
carry-le axis [] = omega arith
carry-le axis (bit ∷ bits) =
    let before = carry-le axis bits in
    let b = integer_bit-lt axis.base (length bits) in
    let w = added-le axis bit in
    omega (arith, before, b, w)

-- the value without its last bits, one bit at a time
pub int_shr-suc : (z : ℤ) (place : ℕ) → int_shr z place ≡ int_shr z (suc place) +ℤ int_shr z (suc place) +ℤ pos (integer_bit z place)
int_shr-suc (pos n) place =
    let h : n / 2 ^ place / 2 ^ 1 ≡ n / 2 ^ (suc place) = shr-shr n place 1 ∙ ap (λ k. n / 2 ^ k) (omega arith) in
    halves (n / 2 ^ place) (n / 2 ^ (suc place)) h
  where
    halves : (m k : ℕ) → m / 2 ^ 1 ≡ k → pos m ≡ pos k +ℤ pos k +ℤ pos (m % 2)
    halves m k e = omega (arith, ints, e)
int_shr-suc (negsuc n) place =
    let h : n / 2 ^ place / 2 ^ 1 ≡ n / 2 ^ (suc place) = shr-shr n place 1 ∙ ap (λ k. n / 2 ^ k) (omega arith) in
    halves (n / 2 ^ place) (n / 2 ^ (suc place)) h
  where
    halves : (m k : ℕ) → m / 2 ^ 1 ≡ k → negsuc m ≡ negsuc k +ℤ negsuc k +ℤ pos (1 - m % 2)
    halves m k e = omega (arith, ints, e)

-- a claim for each slope
pub each_slope : (P : ℤ → Type 0) → P (negsuc 1) → P (negsuc 0) → P (pos 0) → P (pos 1) → P (pos 2) → (d : ℤ) → IsSlope d → P d
each_slope P m2 m1 p0 p1 p2 (pos zero) is = p0
each_slope P m2 m1 p0 p1 p2 (pos (suc zero)) is = p1
each_slope P m2 m1 p0 p1 p2 (pos (suc (suc zero))) is = p2
each_slope P m2 m1 p0 p1 p2 (pos (suc (suc (suc n)))) is = absurd (let h = is.1 in omega (arith, ints, h))
each_slope P m2 m1 p0 p1 p2 (negsuc zero) is = m1
each_slope P m2 m1 p0 p1 p2 (negsuc (suc zero)) is = m2
each_slope P m2 m1 p0 p1 p2 (negsuc (suc (suc n))) is = absurd (let h = is.0 in omega (arith, ints, h))

pub times-double : (d : ℤ) → IsSlope d → (hi b : ℕ) → pos (2 * hi + b) *ℤ d ≡ (pos hi *ℤ d) +ℤ (pos hi *ℤ d) +ℤ (pos b *ℤ d)
times-double d is hi b =
    each_slope (λ d. pos (2 * hi + b) *ℤ d ≡ (pos hi *ℤ d) +ℤ (pos hi *ℤ d) +ℤ (pos b *ℤ d))
    (omega (arith, ints)) (omega (arith, ints)) (omega (arith, ints)) (omega (arith, ints)) (omega (arith, ints)) d is

pub times-add : (d : ℤ) → IsSlope d → (s t : ℕ) → pos (s + t) *ℤ d ≡ (pos s *ℤ d) +ℤ (pos t *ℤ d)
times-add d is s t =
    each_slope (λ d. pos (s + t) *ℤ d ≡ (pos s *ℤ d) +ℤ (pos t *ℤ d))
    (omega (arith, ints)) (omega (arith, ints)) (omega (arith, ints)) (omega (arith, ints)) (omega (arith, ints)) d is

pub carry-step : (S S' A A' D D' e : ℤ) (c a w x z : ℕ) → S' +ℤ pos z ≡ A' +ℤ D' +ℤ pos c → A' ≡ A +ℤ A +ℤ pos a
    → S' ≡ S +ℤ S +ℤ pos x → x < 2 → D' ≡ D +ℤ D +ℤ e → pos w ≡ pos z +ℤ e
    → (S +ℤ pos z ≡ A +ℤ D +ℤ pos ((c + a + w) / 2)) × ((c + a + w) % 2 ≡ x)
carry-step S S' A A' D D' e c a w x z h1 h2 h3 h4 h5 h6 = (omega (arith, ints, h1, h2, h3, h4, h5, h6), omega (arith, ints, h1, h2, h3, h4, h5, h6))

lifted : (v l l' g x p q : ℕ) → q ≡ 2 * p → l' + g * p ≡ l + x * p → v + 2 * l' + g * q ≡ v + 2 * l + x * q
lifted v l l' g x p q e h = rw e (omega (arith, h))

-- a letter of values of which one is changed
pub letter_of-set : (values : List ℤ) (i place : ℕ) (x : ℤ) → i < length values
    → letter_of (set values i x) place + integer_bit (get_or values i (pos 0)) place * 2 ^ i ≡ letter_of values place + integer_bit x place * 2 ^ i
letter_of-set [] i place x h = absurd (omega (arith, h))
letter_of-set (v ∷ values) zero place x h = omega arith
letter_of-set (v ∷ values) (suc i) place x h =
    lifted (integer_bit v place) (letter_of values place) (letter_of (set values i x) place) (integer_bit (get_or values i (pos 0)) place) (integer_bit x place) (2 ^ i) (2 ^ suc i) (omega arith)
    (letter_of-set values i place x (omega (arith, h)))

-- a letter of values of which two are changed
pub letter_of-set2 : (values : List ℤ) (i j place : ℕ) (x y : ℤ) → i < length values → j < length values → i ≢ j
    → letter_of (set (set values i x) j y) place + integer_bit (get_or values i (pos 0)) place * 2 ^ i + integer_bit (get_or values j (pos 0))
    place * 2 ^ j ≡ letter_of values place + integer_bit x place * 2 ^ i + integer_bit y place * 2 ^ j
letter_of-set2 values i j place x y hi hj ne =
    let one = letter_of-set values i place x hi in
    let two = letter_of-set (set values i x) j place y (rw length-set hj) in
    let other : get_or (set values i x) j (pos 0) ≡ get_or values j (pos 0) = get_or-set_other values i j x (pos 0) (λ e. ne (sym e)) in
    let two' = rw other at two in
    omega (arith, one, two')

-- the bits of two tracks are part of the letter
pub letter-parts : (values : List ℤ) (i j place : ℕ) → i < length values → j < length values → i ≢ j
    → letter_of (set (set values i (pos 0)) j (pos 0)) place + integer_bit (get_or values i (pos 0)) place * 2 ^ i + integer_bit (get_or values j (pos 0)) place * 2 ^ j ≡ letter_of values place
letter-parts values i j place hi hj ne =
    let h = letter_of-set2 values i j place (pos 0) (pos 0) hi hj ne in
    let z : bit_at 0 place ≡ 0 = bit_at-zero place in
    let h' = rw z at h in
    omega (arith, h')
