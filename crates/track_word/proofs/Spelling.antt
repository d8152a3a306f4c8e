-- Words that spell given integers. Other crates cite these lemmas.
use Rattle.std.proofs.Common.{◌≡◌, ℕ, zero, suc, ℤ, pos, negsuc, ◌-ℤ◌, ◌+◌, ◌-◌, ◌*◌, ◌%◌, ◌^◌, ◌<◌, ◌≤◌, List, [], ◌∷◌, length, All, get_or, arith, inl, inr, ◌⊎◌, refl, sym, ap, ◌∙◌}
use Rattle.std.specs.Int.{bit_at}
use Rattle.std.proofs.lemmas.Int.{ints}
use Rattle.std.proofs.lemmas.Nat.{pow_pos, mod_below, mod-pow-add}
use Rattle.std.proofs.lemmas.Nat.Bits.{bit_at-lt, bit_at-suc, bit_at_lowest, bit_at_above, same_from_bits_below}
use Rattle.std.proofs.Math.Nat.{mod-eq_of_lt, mod-one}
use Rattle.track_word.proofs.LetterBits.{bit_cases, half, lowest}
use Rattle.track_word.specs.Word.{integer_bit, low_value, val, IsWord, Spells, letter_of, letters_below, spelled, FitsBelow}

pub integer_bit-lt : (z : ℤ) (place : ℕ) → integer_bit z place < 2
integer_bit-lt (pos n) place = bit_at-lt n place
integer_bit-lt (negsuc n) place = omega arith

pub bit_at-letter : (integers : List ℤ) (place t : ℕ) → t < length integers → bit_at (letter_of integers place) t ≡ integer_bit (get_or integers t (pos 0)) place
bit_at-letter [] place t h = absurd (omega (arith, h))
bit_at-letter (z ∷ integers) place zero h = bit_at_lowest (letter_of (z ∷ integers) place) ∙ lowest (integer_bit z place) (letter_of integers place) (integer_bit-lt z place)
bit_at-letter (z ∷ integers) place (suc t) h =
    bit_at-suc (letter_of (z ∷ integers) place) t
    ∙ ap (λ n. bit_at n t) (half (integer_bit z place) (letter_of integers place) (integer_bit-lt z place))
    ∙ bit_at-letter integers place t (omega (arith, h))

pub letter-lt : (integers : List ℤ) (place : ℕ) → letter_of integers place < 2 ^ length integers
letter-lt [] place = omega arith
letter-lt (z ∷ integers) place =
    let power : 2 ^ suc (length integers) ≡ 2 * 2 ^ length integers = omega arith in
    let b = integer_bit-lt z place in
    let r = letter-lt integers place in
    omega (arith, power, b, r)

letters-lt : (integers : List ℤ) (place : ℕ) → All (λ letter. letter < 2 ^ length integers) (letters_below integers place)
letters-lt integers zero i d h = absurd (omega (arith, h))
letters-lt integers (suc place) zero d h = letter-lt integers place
letters-lt integers (suc place) (suc i) d h = letters-lt integers place i d (omega (arith, h))

pub length-letters : (integers : List ℤ) (place : ℕ) → length (letters_below integers place) ≡ place
length-letters integers zero = refl
length-letters integers (suc place) = ap suc (length-letters integers place)

more-bits : (m n : ℕ) → bit_at m n * 2 ^ n + m % 2 ^ n ≡ m % 2 ^ suc n
more-bits m n =
    let e : suc n ≡ 1 + n = omega arith in
    let split = mod-pow-add m 1 n in
    sym (ap (λ k. m % 2 ^ k) e ∙ split)

-- the lowest bits of an integer as a number
abbrev pub low_of : ℤ → ℕ → ℕ
low_of (pos m) n = m % 2 ^ n
low_of (negsuc m) n = 2 ^ n - 1 - m % 2 ^ n

low-more : (z : ℤ) (n : ℕ) → integer_bit z n * 2 ^ n + low_of z n ≡ low_of z (suc n)
low-more (pos m) n = more-bits m n
low-more (negsuc m) n =
    let power : 2 ^ suc n ≡ 2 * 2 ^ n = omega arith in
    let bits = more-bits m n in
    let below = mod_below m (2 ^ n) (pow_pos n) in
    elim (bit_cases m n) [
      | inl z ↦ flipped-zero (bit_at m n) (2 ^ n) (m % 2 ^ n) (m % 2 ^ suc n) (2 ^ suc n) z power bits below
      | inr o ↦ flipped-one (bit_at m n) (2 ^ n) (m % 2 ^ n) (m % 2 ^ suc n) (2 ^ suc n) o power bits below
    ]
  where
    flipped-zero : (b p r s q : ℕ) → b ≡ 0 → q ≡ 2 * p → b * p + r ≡ s → r < p → (1 - b) * p + (p - 1 - r) ≡ q - 1 - s
    flipped-zero b p r s q z e f h = let f' = rw z at f in rw z (omega (arith, e, f', h))

    flipped-one : (b p r s q : ℕ) → b ≡ 1 → q ≡ 2 * p → b * p + r ≡ s → r < p → (1 - b) * p + (p - 1 - r) ≡ q - 1 - s
    flipped-one b p r s q o e f h = let f' = rw o at f in rw o (omega (arith, e, f', h))

low-letters : (integers : List ℤ) (t n : ℕ) → t < length integers → low_value (letters_below integers n) t ≡ low_of (get_or integers t (pos 0)) n
low-letters integers t zero h = none (get_or integers t (pos 0))
  where
    none : (z : ℤ) → 0 ≡ low_of z 0
    none (pos m) = sym (mod-one m)
    none (negsuc m) = omega arith
low-letters integers t (suc n) h =
    ap (λ k. bit_at (letter_of integers n) t * 2 ^ k + low_value (letters_below integers n) t) (length-letters integers n)
    ∙ ap (λ b. b * 2 ^ n + low_value (letters_below integers n) t) (bit_at-letter integers n t h)
    ∙ ap (λ l. integer_bit (get_or integers t (pos 0)) n * 2 ^ n + l) (low-letters integers t n h) ∙ low-more (get_or integers t (pos 0)) n

whole : (z : ℤ) (n : ℕ) → FitsBelow n z → pos (low_of z n) -ℤ pos (integer_bit z n * 2 ^ n) ≡ z
whole (pos m) n fits = rw (bit_at_above m n n fits (omega arith), mod-eq_of_lt fits) (omega (arith, ints))
whole (negsuc m) n fits = rw (bit_at_above m n n fits (omega arith), mod-eq_of_lt fits) (omega (arith, ints, fits))

pub val-spelled : (integers : List ℤ) (n t : ℕ) → t < length integers → FitsBelow n (get_or integers t (pos 0)) → val (spelled integers n) t ≡ get_or integers t (pos 0)
val-spelled integers n t h fits =
    ap (λ l. pos l -ℤ pos (bit_at (letter_of integers n) t * 2 ^ length (letters_below integers n))) (low-letters integers t n h)
    ∙ ap (λ k. pos (low_of (get_or integers t (pos 0)) n) -ℤ pos (bit_at (letter_of integers n) t * 2 ^ k)) (length-letters integers n)
    ∙ ap (λ b. pos (low_of (get_or integers t (pos 0)) n) -ℤ pos (b * 2 ^ n)) (bit_at-letter integers n t h) ∙ whole (get_or integers t (pos 0)) n fits

pub IsWord-spelled : (integers : List ℤ) (n : ℕ) → IsWord (length integers) (spelled integers n)
IsWord-spelled integers n = record {
  nonempty = λ e. never (letter_of integers n) (letters_below integers n) e;
  letters = letters-lt integers (suc n);
}
  where
    never : (l : ℕ) (ls : List ℕ) → l ∷ ls ≡ [] → ⊥
    never l ls e = cc

pub Spells-spelled : (integers : List ℤ) (n : ℕ) → All (FitsBelow n) integers → Spells integers (spelled integers n)
Spells-spelled integers n fits = record {
  is_word = IsWord-spelled integers n;
  values = λ t h. val-spelled integers n t h (fits t (pos 0) h);
}

-- a place from which on all integers have their sign alone
abbrev pub bound_of : List ℤ → ℕ
bound_of [] = 0
bound_of (pos n ∷ integers) = n + bound_of integers
bound_of (negsuc n ∷ integers) = n + bound_of integers

lt-pow : (n : ℕ) → n < 2 ^ n
lt-pow zero = omega arith
lt-pow (suc n) = let h = lt-pow n in let power : 2 ^ suc n ≡ 2 * 2 ^ n = omega arith in omega (arith, h, power)

lt-pow-later : (n place : ℕ) → n ≤ place → n < 2 ^ place
lt-pow-later n place h = let p = lt-pow place in omega (arith, h, p)

pub fits-bound : (integers : List ℤ) (place : ℕ) → bound_of integers ≤ place → All (FitsBelow place) integers
fits-bound [] place h i d within = absurd (omega (arith, within))
fits-bound (pos n ∷ integers) place h zero d within = lt-pow-later n place (omega (arith, h))
fits-bound (negsuc n ∷ integers) place h zero d within = lt-pow-later n place (omega (arith, h))
fits-bound (pos n ∷ integers) place h (suc i) d within = fits-bound integers place (omega (arith, h)) i d (omega (arith, within))
fits-bound (negsuc n ∷ integers) place h (suc i) d within = fits-bound integers place (omega (arith, h)) i d (omega (arith, within))

pub low_value-lt : (letters : List ℕ) (t : ℕ) → low_value letters t < 2 ^ length letters
low_value-lt [] t = omega arith
low_value-lt (l ∷ letters) t =
    let power : 2 ^ suc (length letters) ≡ 2 * 2 ^ length letters = omega arith in
    let r = low_value-lt letters t in
    elim (bit_cases l t) [
      | inl z ↦ rw z (omega (arith, power, r))
      | inr o ↦ rw o (omega (arith, power, r))
    ]

-- a bit and what comes below it
pub record SameParts (b c r s : ℕ) : Type 0 where
  pub bits : b ≡ c
  pub rests : r ≡ s

parts : (b c p r s : ℕ) → (b ≡ 0) ⊎ (b ≡ 1) → (c ≡ 0) ⊎ (c ≡ 1) → r < p → s < p → b * p + r ≡ c * p + s → SameParts b c r s
parts b c p r s (inl x) (inl y) hr hs e = let e' = rw (x, y) at e in record { bits = x ∙ sym y; rests = omega (arith, e') }
parts b c p r s (inl x) (inr y) hr hs e = let e' = rw (x, y) at e in absurd (omega (arith, e', hr, hs))
parts b c p r s (inr x) (inl y) hr hs e = let e' = rw (x, y) at e in absurd (omega (arith, e', hr, hs))
parts b c p r s (inr x) (inr y) hr hs e = let e' = rw (x, y) at e in record { bits = x ∙ sym y; rests = omega (arith, e') }

signed-parts : (b c p r s : ℕ) → (b ≡ 0) ⊎ (b ≡ 1) → (c ≡ 0) ⊎ (c ≡ 1) → r < p → s < p → pos r -ℤ pos (b * p) ≡ pos s -ℤ pos (c * p) → SameParts b c r s
signed-parts b c p r s (inl x) (inl y) hr hs e = let e' = rw (x, y) at e in record { bits = x ∙ sym y; rests = omega (arith, ints, e') }
signed-parts b c p r s (inl x) (inr y) hr hs e = let e' = rw (x, y) at e in absurd (omega (arith, ints, e', hr, hs))
signed-parts b c p r s (inr x) (inl y) hr hs e = let e' = rw (x, y) at e in absurd (omega (arith, ints, e', hr, hs))
signed-parts b c p r s (inr x) (inr y) hr hs e = let e' = rw (x, y) at e in record { bits = x ∙ sym y; rests = omega (arith, ints, e') }

same-letters : (tracks : ℕ) (v w : List ℕ) → All (λ l. l < 2 ^ tracks) v → All (λ l. l < 2 ^ tracks) w → length v ≡ length w → ((t : ℕ) → t < tracks → low_value v t ≡ low_value w t) → v ≡ w
same-letters tracks [] [] av aw size same = refl
same-letters tracks [] (m ∷ w) av aw size same = absurd (omega (arith, size))
same-letters tracks (l ∷ v) [] av aw size same = absurd (omega (arith, size))
same-letters tracks (l ∷ v) (m ∷ w) av aw size same =
    let sizes : length v ≡ length w = omega (arith, size) in
    let at = λ (t : ℕ) (h : t < tracks).
    parts (bit_at l t) (bit_at m t) (2 ^ length v) (low_value v t) (low_value w t) (bit_cases l t) (bit_cases m t) (low_value-lt v t) (rw sizes (low_value-lt w t))
    (same t h ∙ ap (λ k. bit_at m t * 2 ^ k + low_value w t) (sym sizes)) in
    let letter : l ≡ m = same_from_bits_below tracks l m (av 0 0 (omega arith)) (aw 0 0 (omega arith)) (λ t h. (at t h).bits) in
    let others = same-letters tracks v w (λ i d h. av (suc i) d (omega (arith, h))) (λ i d h. aw (suc i) d (omega (arith, h))) sizes (λ t h. (at t h).rests) in
    ap (λ x. x ∷ v) letter ∙ ap (λ xs. m ∷ xs) others

pub same-words : (tracks : ℕ) (v w : List ℕ) → IsWord tracks v → IsWord tracks w → length v ≡ length w → ((t : ℕ) → t < tracks → val v t ≡ val w t) → v ≡ w
same-words tracks [] w av aw size same = absurd (av.nonempty refl)
same-words tracks (l ∷ v) [] av aw size same = absurd (aw.nonempty refl)
same-words tracks (l ∷ v) (m ∷ w) av aw size same =
    let sizes : length v ≡ length w = omega (arith, size) in
    let at = λ (t : ℕ) (h : t < tracks).
    signed-parts (bit_at l t) (bit_at m t) (2 ^ length v) (low_value v t) (low_value w t) (bit_cases l t) (bit_cases m t) (low_value-lt v t) (rw sizes (low_value-lt w t))
    (same t h ∙ ap (λ k. pos (low_value w t) -ℤ pos (bit_at m t * 2 ^ k)) (sym sizes)) in
    let letter : l ≡ m = same_from_bits_below tracks l m (av.letters 0 0 (omega arith)) (aw.letters 0 0 (omega arith)) (λ t h. (at t h).bits) in
    let others = same-letters tracks v w (λ i d h. av.letters (suc i) d (omega (arith, h))) (λ i d h. aw.letters (suc i) d (omega (arith, h))) sizes (λ t h. (at t h).rests) in
    ap (λ x. x ∷ v) letter ∙ ap (λ xs. m ∷ xs) others
