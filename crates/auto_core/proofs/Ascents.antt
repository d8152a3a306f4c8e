-- Ascending tracks.
use Rattle.std.proofs.Common.{◌≡◌, ℕ, zero, suc, ◌+◌, ◌<◌, Bool, true, false, not, List, [], ◌∷◌, length, map, get_or, slice_index, nat_lt, nat_eq, ◌==◌, if◌then◌else◌, arith, inl, inr, refl, subst}
use Rattle.std.proofs.lemmas.Grind.{common_steps}
use Rattle.std.proofs.lemmas.Bool.{cases_lt}
use Rattle.std.proofs.lemmas.List.{get_or-map, length-map}
use Rattle.std.proofs.lemmas.List.Sums.{prefix_len_is}
use Rattle.track_word.specs.declared.tracks.Var.{Var}
use Rattle.track_word.specs.Tracks.{IsAscending, with_var, with_vars, place}

-- each track comes after the one before it
abbrev pub Rising : List Var → Type 0
Rising [] = Unit {0}
Rising (x ∷ []) = Unit {0}
Rising (x ∷ y ∷ ys) = (x.0 < y.0) × Rising (y ∷ ys)

IsAscending-rising : (tracks : List Var) → Rising tracks → IsAscending tracks
IsAscending-rising [] rising k h = absurd (omega (arith, h))
IsAscending-rising (x ∷ []) rising k h = absurd (omega (arith, h))
IsAscending-rising (x ∷ y ∷ ys) rising zero h = rising.0
IsAscending-rising (x ∷ y ∷ ys) rising (suc k) h =
    let e : suc (k + 1) ≡ suc k + 1 = omega arith in
    let numbers = map (λ (v : Var). v.0) (y ∷ ys) in
    subst (λ n. slice_index numbers k < slice_index (x.0 ∷ numbers) n) e (IsAscending-rising (y ∷ ys) rising.1 k (omega (arith, h)))

before : (x y : ℕ) → nat_lt x y ≡ true → x < y
before x y h = grind (arith, common_steps, h)

after : (x y : ℕ) → nat_lt x y ≡ false → (x == y) ≡ false → y < x
after x y h e = grind (arith, common_steps, h, e)

-- y, and then a list with x
rise-after : (x y : Var) (ys : List Var) → y.0 < x.0 → Rising (y ∷ ys) → Rising (with_var x ys) → Rising (y ∷ with_var x ys)
rise-after x y [] h rising with_x = (h, tt)
rise-after x y (z ∷ ys) h rising with_x = by (nat_lt x.0 z.0) (x.0 == z.0) with_x
  where
    by : (b e : Bool) → Rising (if b then x ∷ z ∷ ys else (if e then z ∷ ys else z ∷ with_var x ys))
        → Rising (y ∷ (if b then x ∷ z ∷ ys else (if e then z ∷ ys else z ∷ with_var x ys)))
    by true e r = (h, r)
    by false true r = (rising.0, r)
    by false false r = (rising.0, r)

tail-rises : (y : Var) (ys : List Var) → Rising (y ∷ ys) → Rising ys
tail-rises y [] rising = tt
tail-rises y (z ∷ ys) rising = rising.1

Rising-with_var : (x : Var) (ys : List Var) → Rising ys → Rising (with_var x ys)
Rising-with_var x [] rising = tt
Rising-with_var x (y ∷ ys) rising = by (Rising-with_var x ys (tail-rises y ys rising)) (nat_lt x.0 y.0) refl (x.0 == y.0) refl
  where
    by : Rising (with_var x ys) → (b : Bool) → nat_lt x.0 y.0 ≡ b → (e : Bool) → (x.0 == y.0) ≡ e → Rising (if b then x ∷ y ∷ ys else (if e then y ∷ ys else y ∷ with_var x ys))
    by rest true h e g = (before x.0 y.0 h, rising)
    by rest false h true g = rising
    by rest false h false g = rise-after x y ys (after x.0 y.0 h g) rising rest

Rising-with_vars : (xs : List Var) → Rising (with_vars xs [])
Rising-with_vars [] = tt
Rising-with_vars (x ∷ xs) = Rising-with_var x (with_vars xs []) (Rising-with_vars xs)

pub IsAscending-with_vars : (xs : List Var) → IsAscending (with_vars xs [])
IsAscending-with_vars xs = IsAscending-rising (with_vars xs []) (Rising-with_vars xs)

-- an earlier track is lower
earlier : (numbers : List ℕ) → ((k : ℕ) → k + 1 < length numbers → slice_index numbers k < slice_index numbers (k + 1)) → (j n : ℕ) → j < n → n < length numbers
    → slice_index numbers j < slice_index numbers n
earlier numbers up j zero h l = absurd (omega (arith, h))
earlier numbers up j (suc n) h l =
    let step = up n (omega (arith, l)) in
    let next : n + 1 ≡ suc n = omega arith in
    let last : slice_index numbers n < slice_index numbers (suc n) = subst (λ k. slice_index numbers n < slice_index numbers k) next step in
    elim (cases_lt j n) [
      | inl below ↦ let e = earlier numbers up j n below (omega (arith, l)) in omega (arith, e, last)
      | inr past ↦ let same : n ≡ j = omega (arith, past, h) in subst (λ k. slice_index numbers k < slice_index numbers (suc n)) same last
    ]

number-at : (tracks : List Var) (k : ℕ) (d : Var) → k < length tracks → slice_index (map (λ v. v.0) tracks) k ≡ (get_or tracks k d).0
number-at tracks k d h = get_or-map (λ (v : Var). v.0) tracks k d 0 h

other : (a b : ℕ) → a < b → not (nat_eq a b) ≡ true
other a b h = grind (arith, common_steps, h)

itself : (a : ℕ) → not (nat_eq a a) ≡ false
itself a = grind (arith, common_steps)

-- the place of a track among ascending ones
pub place-at : (tracks : List Var) (n : ℕ) (d : Var) → IsAscending tracks → n < length tracks → place tracks (get_or tracks n d) ≡ n
place-at tracks n d up h =
    let size : length (map (λ (v : Var). v.0) tracks) ≡ length tracks = length-map tracks (λ (v : Var). v.0) in
    prefix_len_is (λ o. not (nat_eq o.0 (get_or tracks n d).0)) tracks n d (omega (arith, h))
    (λ k below. other (get_or tracks k d).0 (get_or tracks n d).0
    (let e = earlier (map (λ v. v.0) tracks) up k n below (omega (arith, size, h)) in
    let a = number-at tracks k d (omega (arith, below, h)) in
    let b = number-at tracks n d h in
    omega (arith, e, a, b)))
    (λ _. itself (get_or tracks n d).0)
