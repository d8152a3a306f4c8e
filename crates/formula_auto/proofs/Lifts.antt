-- Some integer in a variable's place is a lift of the word.
use Rattle.std.proofs.Common.{◌≡◌, ◌≢◌, ℕ, zero, suc, ◌+◌, ◌-◌, ◌*◌, ◌/◌, ◌%◌, ◌^◌, ◌<◌, ◌≤◌, List, [], ◌∷◌, length, Bool, true, false, if◌then◌else◌, ◌==◌, not, ℤ, pos, negsuc, ◌-ℤ◌, refl, sym, ap, ◌∙◌, subst, inl, inr, arith, lit<, eq-eqb}
use Rattle.std.specs.Int.{bit_at}
use Rattle.std.specs.List.{All}
use Rattle.std.proofs.lemmas.Int.{ints}
use Rattle.std.proofs.lemmas.Nat.Bits.{bit_at-lt, bit_at_above}
use Rattle.std.proofs.lemmas.Nat.{mod-pow-add, mod_low}
use Rattle.track_word.specs.declared.tracks.Var.{Var}
use Rattle.track_word.specs.Word.{IsWord, val, low_value, integer_bit, repeated}
use Rattle.track_word.specs.Tracks.{place, restrict, part_of, without_var}
use Rattle.auto_core.specs.Spread.{IsLift}
use Rattle.lin_formula.specs.Free.{IsOneOf}
use Rattle.std.proofs.lemmas.Bool.{eqb-true}
use Rattle.std.proofs.lemmas.List.Elements.{All-cons}
use Rattle.track_word.proofs.Repeats.{repeated_some, repeated-letters}
use Rattle.lin_formula.proofs.FreeVars.{if_cases, one_of-without_var}
use Rattle.formula_auto.specs.Distinct.{Apart}
use Rattle.formula_auto.proofs.Values.{bit_at-first, bit_at-rest, place-here, place-later, Cases, Same, Other, cases_of}

-- the letter over the other tracks, with a bit for the track x
abbrev pub inserted : Var → List Var → ℕ → ℕ → ℕ
inserted x [] letter bit = 0
inserted x (y ∷ ys) letter bit = if y.0 == x.0 then bit + 2 * inserted x ys letter bit else letter % 2 + 2 * inserted x ys (letter / 2) bit

inserted_cases : (P : ℕ → Type 0) (x y : Var) (ys : List Var) (letter bit : ℕ) → (y.0 == x.0 ≡ true → P (bit + 2 * inserted x ys letter bit))
    → (y.0 == x.0 ≡ false → P (letter % 2 + 2 * inserted x ys (letter / 2) bit)) → P (inserted x (y ∷ ys) letter bit)
inserted_cases P x y ys letter bit f g = if_cases (y.0 == x.0) (bit + 2 * inserted x ys letter bit) (letter % 2 + 2 * inserted x ys (letter / 2) bit) P f g

low : (letter : ℕ) → letter % 2 < 2
low letter = omega arith

pub inserted-below : (x : Var) (ys : List Var) (letter bit : ℕ) → bit < 2 → inserted x ys letter bit < 2 ^ length ys
inserted-below x [] letter bit less = lit< tt
inserted-below x (y ∷ ys) letter bit less =
    let one = inserted-below x ys letter bit less in
    let half = inserted-below x ys (letter / 2) bit less in
    let two : 2 ^ suc (length ys) ≡ 2 * 2 ^ length ys = omega arith in
    inserted_cases (λ n. n < 2 ^ length (y ∷ ys)) x y ys letter bit (λ e. omega (arith, two, one)) (λ e. omega (arith, two, half, low letter))

same_number : (x y : Var) → x ≡ y → y.0 == x.0 ≡ true
same_number x y is = eq-eqb y.0 x.0 (ap (λ (v : Var). v.0) (sym is))

same_var : (x y : Var) → y.0 == x.0 ≡ true → x ≡ y
same_var x y e = ap (λ n. record { 0 = n }) (sym (eqb-true y.0 x.0 e))

at_once : {x y : Var} (ys : List Var) (letter bit : ℕ) → bit < 2 → IsOneOf x (y ∷ ys) → Cases x y
    → (IsOneOf x ys → bit_at (inserted x ys (letter / 2) bit) (place ys x) ≡ bit) → bit_at (inserted x (y ∷ ys) letter bit) (place (y ∷ ys) x) ≡ bit
at_once {x} {y} ys letter bit less h (Same is) rest =
    inserted_cases (λ n. bit_at n (place (y ∷ ys) x) ≡ bit) x y ys letter bit
    (λ e. ap (λ k. bit_at (bit + 2 * inserted x ys letter bit) k) (place-here x y ys is) ∙ bit_at-first bit (inserted x ys letter bit) less)
    (λ e. let t = same_number x y is in absurd (cc))
at_once {x} {y} ys letter bit less h (Other other) rest =
    inserted_cases (λ n. bit_at n (place (y ∷ ys) x) ≡ bit) x y ys letter bit
    (λ e. absurd (other (same_var x y e)))
    (λ e. ap (λ k. bit_at (letter % 2 + 2 * inserted x ys (letter / 2) bit) k) (place-later x y ys other)
    ∙ (bit_at-rest (letter % 2) (inserted x ys (letter / 2) bit) (place ys x) (low letter) ∙ rest (elim h [ inl is ↦ absurd (other is) | inr k ↦ k ])))

-- the track x has the bit
pub bit_at-inserted : (x : Var) (ys : List Var) (letter bit : ℕ) → bit < 2 → IsOneOf x ys → bit_at (inserted x ys letter bit) (place ys x) ≡ bit
bit_at-inserted x [] letter bit less h = absurd h
bit_at-inserted x (y ∷ ys) letter bit less h = at_once ys letter bit less h (cases_of x y) (bit_at-inserted x ys (letter / 2) bit less)

-- tracks that come later look at the later bits alone
restrict-later : (g : Var) (gs ys : List Var) (bit rest : ℕ) → bit < 2 → (IsOneOf g ys → ⊥) → restrict (g ∷ gs) ys (bit + 2 * rest) ≡ restrict gs ys rest
restrict-later g gs [] bit rest less apart = refl
restrict-later g gs (y ∷ ys) bit rest less apart =
    let at : place (g ∷ gs) y ≡ suc (place gs y) = place-later y g gs (λ is. apart (inl (sym is))) in
    let bits : bit_at (bit + 2 * rest) (place (g ∷ gs) y) ≡ bit_at rest (place gs y) = ap (λ k. bit_at (bit + 2 * rest) k) at ∙ bit_at-rest bit rest (place gs y) less in
    let more : restrict (g ∷ gs) ys (bit + 2 * rest) ≡ restrict gs ys rest = restrict-later g gs ys bit rest less (λ is. apart (inr is)) in
    ap (λ n. n + 2 * restrict (g ∷ gs) ys (bit + 2 * rest)) bits ∙ ap (λ n. bit_at rest (place gs y) + 2 * n) more

others-step : (b : Bool) (g : Var) (gs w : List Var) (letter bit one half : ℕ) → bit < 2 → (IsOneOf g w → ⊥)
    → (letter < 2 ^ length w → restrict gs w one ≡ letter) → (letter / 2 < 2 ^ length w → restrict gs w half ≡ letter / 2)
    → letter < 2 ^ length (if not b then g ∷ w else w)
    → restrict (g ∷ gs) (if not b then g ∷ w else w) (if b then bit + 2 * one else letter % 2 + 2 * half) ≡ letter
others-step true g gs w letter bit one half less apart is_one is_half within = restrict-later g gs w bit one less apart ∙ is_one within
others-step false g gs w letter bit one half less apart is_one is_half within =
    let two : 2 ^ suc (length w) ≡ 2 * 2 ^ length w = omega arith in
    let first : bit_at (letter % 2 + 2 * half) (place (g ∷ gs) g) ≡ letter % 2 =
    ap (λ k. bit_at (letter % 2 + 2 * half) k) (place-here g g gs refl) ∙ bit_at-first (letter % 2) half (low letter) in
    let rest : restrict (g ∷ gs) w (letter % 2 + 2 * half) ≡ letter / 2 = restrict-later g gs w (letter % 2) half (low letter) apart ∙ is_half (omega (arith, two)) in
    ap (λ n. n + 2 * restrict (g ∷ gs) w (letter % 2 + 2 * half)) first ∙ (ap (λ n. letter % 2 + 2 * n) rest ∙ (omega arith))

-- the other tracks have the letter
pub restrict-inserted : (x : Var) (gs : List Var) (letter bit : ℕ) → bit < 2 → Apart gs → letter < 2 ^ length (without_var x gs)
    → restrict gs (without_var x gs) (inserted x gs letter bit) ≡ letter
restrict-inserted x [] letter bit less apart within = omega arith
restrict-inserted x (g ∷ gs) letter bit less apart within =
    others-step (g.0 == x.0) g gs (without_var x gs) letter bit (inserted x gs letter bit) (inserted x gs (letter / 2) bit) less
    (λ is. apart.0 ((one_of-without_var g x gs).0 is).1)
    (λ h. restrict-inserted x gs letter bit less apart.1 h) (λ h. restrict-inserted x gs (letter / 2) bit less apart.1 h) within

integer_bit-below : (n : ℤ) (k : ℕ) → integer_bit n k < 2
integer_bit-below (pos m) k = bit_at-lt m k
integer_bit-below (negsuc m) k = omega arith

-- the word with the integer on the track x
abbrev pub joined : Var → List Var → ℤ → List ℕ → List ℕ
joined x gs n [] = []
joined x gs n (l ∷ ls) = inserted x gs l (integer_bit n (length ls)) ∷ joined x gs n ls

length-joined : (x : Var) (gs : List Var) (n : ℤ) (ls : List ℕ) → length (joined x gs n ls) ≡ length ls
length-joined x gs n [] = refl
length-joined x gs n (l ∷ ls) = ap (λ k. suc k) (length-joined x gs n ls)

All-tail : (P : ℕ → Type 0) (l : ℕ) (ls : List ℕ) → All P (l ∷ ls) → All P ls
All-tail P l ls h = λ k d within. h (suc k) d (omega arith)

pub part-joined : (x : Var) (gs : List Var) (n : ℤ) (ls : List ℕ) → Apart gs → All (λ l. l < 2 ^ length (without_var x gs)) ls → part_of gs (without_var x gs) (joined x gs n ls) ≡ ls
part-joined x gs n [] apart all = refl
part-joined x gs n (l ∷ ls) apart all =
    let here = restrict-inserted x gs l (integer_bit n (length ls)) (integer_bit-below n (length ls)) apart (all 0 0 (omega arith)) in
    let rest = part-joined x gs n ls apart (All-tail (λ l. l < 2 ^ length (without_var x gs)) l ls all) in
    ap (λ k. k ∷ part_of gs (without_var x gs) (joined x gs n ls)) here ∙ ap (λ r. l ∷ r) rest

letters-joined : (x : Var) (gs : List Var) (n : ℤ) (ls : List ℕ) → All (λ l. l < 2 ^ length gs) (joined x gs n ls)
letters-joined x gs n [] = λ k d within. absurd (omega arith)
letters-joined x gs n (l ∷ ls) =
    All-cons (λ l. l < 2 ^ length gs) (inserted x gs l (integer_bit n (length ls))) (joined x gs n ls)
    (inserted-below x gs l (integer_bit n (length ls)) (integer_bit-below n (length ls))) (letters-joined x gs n ls)

pub IsWord-joined : (x : Var) (gs : List Var) (n : ℤ) (ls : List ℕ) → ls ≢ [] → IsWord (length gs) (joined x gs n ls)
IsWord-joined x gs n [] some = absurd (some refl)
IsWord-joined x gs n (l ∷ ls) some = record { nonempty = λ e. cc; letters = letters-joined x gs n (l ∷ ls) }

-- the lowest bits of an integer
abbrev pub low_bits : ℤ → ℕ → ℕ
low_bits n zero = 0
low_bits n (suc k) = integer_bit n k * 2 ^ k + low_bits n k

low_value-joined : (x : Var) (gs : List Var) (n : ℤ) (ls : List ℕ) → IsOneOf x gs → low_value (joined x gs n ls) (place gs x) ≡ low_bits n (length ls)
low_value-joined x gs n [] is = refl
low_value-joined x gs n (l ∷ ls) is =
    rw (bit_at-inserted x gs l (integer_bit n (length ls)) (integer_bit-below n (length ls)) is, length-joined x gs n ls, low_value-joined x gs n ls is)

low_bits-pos : (m k : ℕ) → low_bits (pos m) k ≡ m % 2 ^ k
low_bits-pos m zero = omega arith
low_bits-pos m (suc k) = rw (low_bits-pos m k) (let more = mod-pow-add m 1 k in let at : 1 + k ≡ suc k = omega arith in sym (subst (λ j. m % 2 ^ j ≡ (m / 2 ^ k % 2) * 2 ^ k + m % 2 ^ k) at more))

one_of_two : (b p : ℕ) → b < 2 → (1 - b) * p + b * p ≡ p
one_of_two zero p less = omega arith
one_of_two (suc zero) p less = omega arith
one_of_two (suc (suc b)) p less = absurd (omega arith)

low_bits-neg : (m k : ℕ) → low_bits (negsuc m) k + m % 2 ^ k + 1 ≡ 2 ^ k
low_bits-neg m zero = omega arith
low_bits-neg m (suc k) =
    let rest = low_bits-neg m k in
    let more = mod-pow-add m 1 k in
    let at : 1 + k ≡ suc k = omega arith in
    let split : m % 2 ^ suc k ≡ bit_at m k * 2 ^ k + m % 2 ^ k = subst (λ j. m % 2 ^ j ≡ (m / 2 ^ k % 2) * 2 ^ k + m % 2 ^ k) at more in
    let whole : (1 - bit_at m k) * 2 ^ k + bit_at m k * 2 ^ k ≡ 2 ^ k = one_of_two (bit_at m k) (2 ^ k) (bit_at-lt m k) in
    let two : 2 ^ suc k ≡ 2 * 2 ^ k = omega arith in
    omega (arith, rest, split, whole, two)

-- the size of an integer, in letters after the sign
abbrev pub size_of : ℤ → ℕ
size_of (pos m) = m
size_of (negsuc m) = m

small : (m k : ℕ) → m < 2 ^ k → m % 2 ^ k ≡ m
small m k less =
    let none : 0 * 2 ^ k + m ≡ m = omega arith in
    ap (λ n. n % 2 ^ k) (sym none) ∙ mod_low 0 k m less

signed : (n : ℤ) (k : ℕ) → size_of n < 2 ^ k → pos (low_bits n k) -ℤ pos (integer_bit n k * 2 ^ k) ≡ n
signed (pos m) k less =
    let bit : bit_at m k ≡ 0 = bit_at_above m k k less (omega arith) in
    let lows : low_bits (pos m) k ≡ m = low_bits-pos m k ∙ small m k less in
    rw (lows, bit) (omega (arith, ints))
signed (negsuc m) k less =
    let bit : bit_at m k ≡ 0 = bit_at_above m k k less (omega arith) in
    let lows : low_bits (negsuc m) k + m + 1 ≡ 2 ^ k = ap (λ r. low_bits (negsuc m) k + r + 1) (sym (small m k less)) ∙ low_bits-neg m k in
    rw bit (omega (arith, ints, lows))

pub val-joined : (x : Var) (gs : List Var) (n : ℤ) (word : List ℕ) → IsOneOf x gs → word ≢ [] → size_of n < 2 ^ (length word - 1) → val (joined x gs n word) (place gs x) ≡ n
val-joined x gs n [] is some less = absurd (some refl)
val-joined x gs n (l ∷ ls) is some less =
    let at : length (l ∷ ls) - 1 ≡ length ls = omega arith in
    rw (low_value-joined x gs n ls is, bit_at-inserted x gs l (integer_bit n (length ls)) (integer_bit-below n (length ls)) is, length-joined x gs n ls)
    (signed n (length ls) (subst (λ k. size_of n < 2 ^ k) at less))

below_power : (m k : ℕ) → m ≤ k → m < 2 ^ k
below_power m zero h = omega arith
below_power zero (suc k) h = let rest = below_power zero k (omega arith) in let two : 2 ^ suc k ≡ 2 * 2 ^ k = omega arith in omega (arith, rest, two)
below_power (suc m) (suc k) h = let rest = below_power m k (omega arith) in let two : 2 ^ suc k ≡ 2 * 2 ^ k = omega arith in omega (arith, rest, two)

some_letter : (word : List ℕ) → word ≢ [] → 0 < length word
some_letter [] some = absurd (some refl)
some_letter (l ∷ ls) some = omega arith

-- the integer on the track x, with the word on the others, its first letter repeated often enough
pub record Joins (x : Var) (gs : List Var) (word : List ℕ) (n : ℤ) (lift : List ℕ) : Type 0 where
  pub is_lift : IsLift (without_var x gs) gs word lift
  pub value : IsOneOf x gs → val lift (place gs x) ≡ n

pub joined-joins : (x : Var) (gs : List Var) {word : List ℕ} (n : ℤ) → Apart gs → IsWord (length (without_var x gs)) word → Joins x gs word n (joined x gs n (repeated (size_of n) word))
joined-joins x gs {word} n apart is =
    let more = repeated_some word (size_of n) is.nonempty in
    let letters = repeated-letters (2 ^ length (without_var x gs)) word (size_of n) is.letters in
    record {
      is_lift = record {
        is_word = IsWord-joined x gs n (repeated (size_of n) word) more.1;
        times = size_of n;
        repeats = part-joined x gs n (repeated (size_of n) word) apart letters;
      };
      value = λ one. val-joined x gs n (repeated (size_of n) word) one more.1
          (below_power (size_of n) (length (repeated (size_of n) word) - 1) (let some : 0 < length word = some_letter word is.nonempty in omega (arith, more.0)));
    }
