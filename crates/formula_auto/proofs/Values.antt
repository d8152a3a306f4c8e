-- The values of a word's part are the word's values.
use Rattle.std.proofs.Common.{◌≡◌, ◌≢◌, ℕ, suc, ◌+◌, ◌*◌, ◌/◌, ◌<◌, List, [], ◌∷◌, length, Bool, true, false, ◌==◌, refl, sym, ap, ◌∙◌, inl, inr, arith, eq-eqb}
use Rattle.std.specs.Int.{bit_at}
use Rattle.std.proofs.lemmas.Nat.Bits.{bit_at-lt, bit_at-suc, bit_at_lowest}
use Rattle.std.proofs.lemmas.Bool.{eqb-true}
use Rattle.track_word.specs.declared.tracks.Var.{Var}
use Rattle.track_word.specs.Word.{val, low_value}
use Rattle.track_word.specs.Tracks.{place, restrict, part_of}
use Rattle.lin_formula.specs.Free.{IsOneOf}

-- place by place, the one track of the one list has the bits of the other's
abbrev pub SameBits : List ℕ → ℕ → List ℕ → ℕ → Type 0
SameBits [] s [] t = Unit {0}
SameBits [] s (y ∷ ys) t = ⊥
SameBits (x ∷ xs) s [] t = ⊥
SameBits (x ∷ xs) s (y ∷ ys) t = (bit_at x s ≡ bit_at y t) × SameBits xs s ys t

length-same_bits : (xs ys : List ℕ) (s t : ℕ) → SameBits xs s ys t → length xs ≡ length ys
length-same_bits [] [] s t h = refl
length-same_bits [] (y ∷ ys) s t h = absurd h
length-same_bits (x ∷ xs) [] s t h = absurd h
length-same_bits (x ∷ xs) (y ∷ ys) s t h = ap (λ n. suc n) (length-same_bits xs ys s t h.1)

low_value-same_bits : (xs ys : List ℕ) (s t : ℕ) → SameBits xs s ys t → low_value xs s ≡ low_value ys t
low_value-same_bits [] [] s t h = refl
low_value-same_bits [] (y ∷ ys) s t h = absurd h
low_value-same_bits (x ∷ xs) [] s t h = absurd h
low_value-same_bits (x ∷ xs) (y ∷ ys) s t h = rw (h.0, length-same_bits xs ys s t h.1, low_value-same_bits xs ys s t h.1)

pub val-same_bits : (xs ys : List ℕ) (s t : ℕ) → SameBits xs s ys t → val xs s ≡ val ys t
val-same_bits [] [] s t h = refl
val-same_bits [] (y ∷ ys) s t h = absurd h
val-same_bits (x ∷ xs) [] s t h = absurd h
val-same_bits (x ∷ xs) (y ∷ ys) s t h = rw (h.0, length-same_bits xs ys s t h.1, low_value-same_bits xs ys s t h.1)

pub bit_at-first : (bit rest : ℕ) → bit < 2 → bit_at (bit + 2 * rest) 0 ≡ bit
bit_at-first bit rest less = bit_at_lowest (bit + 2 * rest) ∙ (omega arith)

pub bit_at-rest : (bit rest k : ℕ) → bit < 2 → bit_at (bit + 2 * rest) (suc k) ≡ bit_at rest k
bit_at-rest bit rest k less =
    let half : (bit + 2 * rest) / 2 ≡ rest = omega arith in
    bit_at-suc (bit + 2 * rest) k ∙ ap (λ n. bit_at n k) half

same_number : (n : ℕ) → n == n ≡ true
same_number n = eq-eqb n n refl

at_number : (b : Bool) → (b ≡ true → ⊥) → b ≡ false
at_number true h = absurd (h refl)
at_number false h = refl

other_number : (x y : Var) → x ≢ y → y.0 == x.0 ≡ false
other_number x y other = at_number (y.0 == x.0) (λ same. other (ap (λ n. record { 0 = n }) (sym (eqb-true y.0 x.0 same))))

-- the place of a variable in a longer list
pub place-here : (x y : Var) (ys : List Var) → x ≡ y → place (y ∷ ys) x ≡ 0
place-here x y ys is = let e : y.0 == x.0 ≡ true = ap (λ (v : Var). v.0 == x.0) (sym is) ∙ same_number x.0 in rw e refl

pub place-later : (x y : Var) (ys : List Var) → x ≢ y → place (y ∷ ys) x ≡ suc (place ys x)
place-later x y ys other = rw (other_number x y other) (omega arith)

-- the same or another
pub data Cases (x y : Var) : Type 0 where
  Same : x ≡ y → Cases x y
  Other : x ≢ y → Cases x y

cases_at : (x y : Var) (b : Bool) → x.0 == y.0 ≡ b → Cases x y
cases_at x y true e = Same (ap (λ n. record { 0 = n }) (eqb-true x.0 y.0 e))
cases_at x y false e = Other (λ is. let t : x.0 == y.0 ≡ true = eq-eqb x.0 y.0 (ap (λ (v : Var). v.0) is) in cc)

pub cases_of : (x y : Var) → Cases x y
cases_of x y = cases_at x y (x.0 == y.0) refl

restrict_cases : (all : List Var) {x : Var} (some : List Var) {y : Var} (letter : ℕ) → IsOneOf y (x ∷ some) → Cases y x
    → (IsOneOf y some → bit_at (restrict all some letter) (place some y) ≡ bit_at letter (place all y))
    → bit_at (restrict all (x ∷ some) letter) (place (x ∷ some) y) ≡ bit_at letter (place all y)
restrict_cases all {x} some {y} letter h (Same is) rest =
    ap (λ k. bit_at (restrict all (x ∷ some) letter) k) (place-here y x some is)
    ∙ (bit_at-first (bit_at letter (place all x)) (restrict all some letter) (bit_at-lt letter (place all x)) ∙ ap (λ v. bit_at letter (place all v)) (sym is))
restrict_cases all {x} some {y} letter h (Other other) rest =
    ap (λ k. bit_at (restrict all (x ∷ some) letter) k) (place-later y x some other)
    ∙ (bit_at-rest (bit_at letter (place all x)) (restrict all some letter) (place some y) (bit_at-lt letter (place all x))
    ∙ rest (elim h [ inl is ↦ absurd (other is) | inr k ↦ k ]))

-- a letter over some tracks has the bits of the letter over all
pub bit_at-restrict : (all some : List Var) (y : Var) (letter : ℕ) → IsOneOf y some → bit_at (restrict all some letter) (place some y) ≡ bit_at letter (place all y)
bit_at-restrict all [] y letter h = absurd h
bit_at-restrict all (x ∷ some) y letter h = restrict_cases all some letter h (cases_of y x) (bit_at-restrict all some y letter)

same_bits-part : (all some : List Var) (y : Var) (word : List ℕ) → IsOneOf y some → SameBits (part_of all some word) (place some y) word (place all y)
same_bits-part all some y [] h = tt
same_bits-part all some y (l ∷ ls) h = (bit_at-restrict all some y l h, same_bits-part all some y ls h)

-- the values of a word's part are the word's values
pub val-part : (all some : List Var) (y : Var) (word : List ℕ) → IsOneOf y some → val (part_of all some word) (place some y) ≡ val word (place all y)
val-part all some y word h = val-same_bits (part_of all some word) word (place some y) (place all y) (same_bits-part all some y word h)
