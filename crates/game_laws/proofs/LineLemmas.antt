-- Squares on one line: a row, a column, a diagonal or a knight's leaps.
use Rattle.std.proofs.Common.{◌≡◌, ◌⊎◌, inl, inr, ℕ, zero, suc, ◌+◌, ◌*◌, ◌<◌, ◌≤◌, Bool, true, false, ℤ, pos, negsuc, ◌+ℤ◌, ◌-ℤ◌, ◌*ℤ◌, unsigned_abs, sym, ap, subst, ◌∙◌, arith, refl, lit<, List, [], ◌∷◌}
use Rattle.std.specs.Int.{int_signum}
use Rattle.std.specs.List.{Any}
use Rattle.std.specs.Prelude.{◌==◌, if◌then◌else◌}
use Rattle.std.proofs.lemmas.Bool.Decides.{eqb_tells, nat_tests}
use Rattle.std.proofs.lemmas.Int.{ints, unsigned_abs-mul}
use Rattle.game_rules.specs.Game.{IsBetween, IsDirection, after_steps}
use Rattle.game_rules.specs.declared.men.Square.{Square}
use Rattle.game_laws.specs.Answer.{distance, step_toward, steps_of, toward_x, toward_y}

pub square_is : (a : Square) (x y : ℤ) → a.x ≡ x → a.y ≡ y → a ≡ record { x = x; y = y }
square_is a x y ex ey = ap (λ b. record { x = b; y = a.y }) ex ∙ ap (λ b. record { x = x; y = b }) ey

pub unit_cases : (d : ℤ) → unsigned_abs d ≤ 1 → (d ≡ negsuc 0) ⊎ ((d ≡ pos 0) ⊎ (d ≡ pos 1))
unit_cases d h = grind (arith, ints)

-- a property of each unit
pub each_unit : (P : ℤ → Type 0) → P (negsuc 0) → P (pos 0) → P (pos 1) → (d : ℤ) → unsigned_abs d ≤ 1 → P d
each_unit P minus none plus d small =
    elim (unit_cases d small) [
      | inl e ↦ subst P (sym e) minus
      | inr e ↦ elim e [ inl e ↦ subst P (sym e) none | inr e ↦ subst P (sym e) plus ]
    ]

-- a property of each number that is at most 2 in size
pub each_small : (P : ℤ → Type 0) → P (negsuc 1) → P (negsuc 0) → P (pos 0) → P (pos 1) → P (pos 2) → (d : ℤ) → unsigned_abs d ≤ 2 → P d
each_small P less minus none plus more (pos zero) small = none
each_small P less minus none plus more (pos (suc zero)) small = plus
each_small P less minus none plus more (pos (suc (suc zero))) small = more
each_small P less minus none plus more (pos (suc (suc (suc n)))) small = absurd (omega (arith, small))
each_small P less minus none plus more (negsuc zero) small = minus
each_small P less minus none plus more (negsuc (suc zero)) small = less
each_small P less minus none plus more (negsuc (suc (suc n))) small = absurd (omega (arith, small))

-- the sizes of the two parts of a direction
abbrev AreSizes : ℕ → ℕ → Type 0
AreSizes m n = ((m ≡ 1) × (n ≤ 2)) ⊎ ((n ≡ 1) × (m ≤ 2))

pub direction_small_x : (dx dy : ℤ) → IsDirection dx dy → unsigned_abs dx ≤ 2
direction_small_x dx dy (inl h) = omega (arith, h.0)
direction_small_x dx dy (inr h) = h.1

pub direction_small_y : (dx dy : ℤ) → IsDirection dx dy → unsigned_abs dy ≤ 2
direction_small_y dx dy (inl h) = h.1
direction_small_y dx dy (inr h) = omega (arith, h.0)

pub direction_turned : (dx dy : ℤ) → IsDirection dx dy → IsDirection dy dx
direction_turned dx dy (inl h) = inr h
direction_turned dx dy (inr h) = inl h

size_steps : (t : ℕ) (d : ℤ) → unsigned_abs (pos t *ℤ d) ≡ t * unsigned_abs d
size_steps t d = unsigned_abs-mul (pos t) d

steps_none : (m : ℕ) → steps_of m 0 ≡ m
steps_none zero = refl
steps_none (suc m) = refl

steps_left : (m n : ℕ) → m ≤ n → (m ≡ 0 → n ≡ 0) → steps_of m n ≡ m
steps_left zero n h none = none refl
steps_left (suc m) zero h none = absurd (omega (arith, h))
steps_left (suc m) (suc n) h none = omega (arith, h)

steps_right : (m n : ℕ) → n ≤ m → (n ≡ 0 → m ≡ 0) → steps_of m n ≡ n
steps_right zero n h none = refl
steps_right (suc m) zero h none = none refl
steps_right (suc m) (suc n) h none = omega (arith, h)

-- no step is none
pub steps_zero : (m n : ℕ) → steps_of m n ≡ 0 → (m ≡ 0) × (n ≡ 0)
steps_zero zero n h = (refl, h)
steps_zero (suc m) zero h = absurd (omega (arith, h))
steps_zero (suc m) (suc n) h = absurd (omega (arith, h))

steps_by_left : (t m n b : ℕ) → m ≡ t → n ≡ t * b → b ≤ 2 → steps_of m n ≡ t
steps_by_left t m n zero is of small = let none : n ≡ 0 = omega (arith, of) in ap (steps_of m) none ∙ steps_none m ∙ is
steps_by_left t m n (suc zero) is of small = steps_left m n (omega (arith, is, of)) (λ z. omega (arith, is, of, z)) ∙ is
steps_by_left t m n (suc (suc zero)) is of small = steps_left m n (omega (arith, is, of)) (λ z. omega (arith, is, of, z)) ∙ is
steps_by_left t m n (suc (suc (suc b))) is of small = absurd (omega (arith, small))

steps_by_right : (t m n b : ℕ) → n ≡ t → m ≡ t * b → b ≤ 2 → steps_of m n ≡ t
steps_by_right t m n zero is of small = let none : m ≡ 0 = omega (arith, of) in ap (λ k. steps_of k n) none ∙ is
steps_by_right t m n (suc zero) is of small = steps_right m n (omega (arith, is, of)) (λ z. omega (arith, is, of, z)) ∙ is
steps_by_right t m n (suc (suc zero)) is of small = steps_right m n (omega (arith, is, of)) (λ z. omega (arith, is, of, z)) ∙ is
steps_by_right t m n (suc (suc (suc b))) is of small = absurd (omega (arith, small))

times_unit : (t m : ℕ) → m ≡ 1 → t * m ≡ t
times_unit t m is = ap (λ k. t * k) is ∙ omega arith

-- how far a number of steps of a direction leads
pub far_steps : (dx dy : ℤ) → IsDirection dx dy → (t : ℕ) → steps_of (unsigned_abs (pos t *ℤ dx)) (unsigned_abs (pos t *ℤ dy)) ≡ t
far_steps dx dy (inl h) t =
    steps_by_left t _ _ (unsigned_abs dy) (size_steps t dx ∙ times_unit t (unsigned_abs dx) h.0) (size_steps t dy) h.1
far_steps dx dy (inr h) t =
    steps_by_right t _ _ (unsigned_abs dx) (size_steps t dy ∙ times_unit t (unsigned_abs dy) h.0) (size_steps t dx) h.1

chosen : (b : Bool) (x y : ℤ) → b ≡ true → (if b then x else y) ≡ x
chosen true x y is = refl
chosen false x y is = absurd (cc)

not_chosen : (b : Bool) (x y : ℤ) → b ≡ false → (if b then x else y) ≡ y
not_chosen true x y is = absurd (cc)
not_chosen false x y is = refl

pub step_double : (d e : ℤ) → unsigned_abs d ≡ unsigned_abs e + unsigned_abs e → step_toward d e ≡ int_signum d +ℤ int_signum d
step_double d e is = chosen _ _ _ (same_test (unsigned_abs d) (unsigned_abs e + unsigned_abs e) is)
  where
    same_test : (m n : ℕ) → m ≡ n → (m == n) ≡ true
    same_test m n is = grind (arith, nat_tests)

pub step_single : (d e : ℤ) → (unsigned_abs d ≡ unsigned_abs e + unsigned_abs e → ⊥) → step_toward d e ≡ int_signum d
step_single d e off = not_chosen _ _ _ (other_test (unsigned_abs d) (unsigned_abs e + unsigned_abs e) off)
  where
    other_test : (m n : ℕ) → (m ≡ n → ⊥) → (m == n) ≡ false
    other_test m n off = elim (eqb_tells m n) [ inl e ↦ absurd (off e.1) | inr e ↦ e.0 ]

sign_plus : (t : ℕ) → 0 < t → int_signum (pos t *ℤ pos 1) ≡ pos 1
sign_plus zero low = absurd (omega arith)
sign_plus (suc t) low = let e : pos (suc t) *ℤ pos 1 ≡ pos (suc t) = omega (arith, ints) in ap int_signum e ∙ ap pos (omega arith)

sign_minus : (t : ℕ) → 0 < t → int_signum (pos t *ℤ negsuc 0) ≡ negsuc 0
sign_minus zero low = absurd (omega arith)
sign_minus (suc t) low = let e : pos (suc t) *ℤ negsuc 0 ≡ negsuc t = omega (arith, ints) in ap int_signum e

sign_none : (t : ℕ) → int_signum (pos t *ℤ pos 0) ≡ pos 0
sign_none t = let e : pos t *ℤ pos 0 ≡ pos 0 = omega (arith, ints) in ap int_signum e

sign_more : (t : ℕ) → 0 < t → int_signum (pos t *ℤ pos 2) ≡ pos 1
sign_more zero low = absurd (omega arith)
sign_more (suc t) low = let e : pos (suc t) *ℤ pos 2 ≡ pos (suc (suc (t + t))) = omega (arith, ints) in ap int_signum e ∙ ap pos (omega arith)

sign_less : (t : ℕ) → 0 < t → int_signum (pos t *ℤ negsuc 1) ≡ negsuc 0
sign_less zero low = absurd (omega arith)
sign_less (suc t) low = let e : pos (suc t) *ℤ negsuc 1 ≡ negsuc (suc (t + t)) = omega (arith, ints) in ap int_signum e

-- some steps of one are not twice some of the other, unless the one is 2 in size
not_double : (t m n : ℕ) → 0 < t → AreSizes m n → m ≤ 1 → t * m ≡ (t * n) + (t * n) → ⊥
not_double t zero n low (inl h) less e = omega (arith, h.0)
not_double t zero n low (inr h) less e = let one : t * n ≡ t = times_unit t n h.0 in omega (arith, low, one, e)
not_double t (suc zero) zero low sizes less e = omega (arith, low, e)
not_double t (suc zero) (suc n) low sizes less e = omega (arith, low, e)
not_double t (suc (suc m)) n low sizes less e = omega (arith, less)

two_of : (dx dy : ℤ) → IsDirection dx dy → unsigned_abs dx ≡ 2 → unsigned_abs dy ≡ 1
two_of dx dy (inl h) two = absurd (omega (arith, h.0, two))
two_of dx dy (inr h) two = h.0

-- the step toward some steps of a direction is one of them
pub step_steps : (dx dy : ℤ) → IsDirection dx dy → (t : ℕ) → 0 < t → step_toward (pos t *ℤ dx) (pos t *ℤ dy) ≡ dx
step_steps dx dy d t low =
    each_small (λ dx. IsDirection dx dy → step_toward (pos t *ℤ dx) (pos t *ℤ dy) ≡ dx)
    (λ d. step_double (pos t *ℤ negsuc 1) (pos t *ℤ dy) (double (negsuc 1) d refl) ∙ ap (λ s. s +ℤ s) (sign_less t low) ∙ refl)
    (λ d. step_single (pos t *ℤ negsuc 0) (pos t *ℤ dy) (single (negsuc 0) d (omega arith)) ∙ sign_minus t low)
    (λ d. step_single (pos t *ℤ pos 0) (pos t *ℤ dy) (single (pos 0) d (omega arith)) ∙ sign_none t)
    (λ d. step_single (pos t *ℤ pos 1) (pos t *ℤ dy) (single (pos 1) d (omega arith)) ∙ sign_plus t low)
    (λ d. step_double (pos t *ℤ pos 2) (pos t *ℤ dy) (double (pos 2) d refl) ∙ ap (λ s. s +ℤ s) (sign_more t low) ∙ refl)
    dx (direction_small_x dx dy d) d
  where
    double : (dx : ℤ) → IsDirection dx dy → unsigned_abs dx ≡ 2 → unsigned_abs (pos t *ℤ dx) ≡ unsigned_abs (pos t *ℤ dy) + unsigned_abs (pos t *ℤ dy)
    double dx d two =
        let along : t * unsigned_abs dy ≡ t = times_unit t (unsigned_abs dy) (two_of dx dy d two) in
        let across : t * unsigned_abs dx ≡ t * 2 = ap (λ m. t * m) two in
        omega (arith, along, across, size_steps t dx, size_steps t dy)

    single : (dx : ℤ) → IsDirection dx dy → unsigned_abs dx ≤ 1 → unsigned_abs (pos t *ℤ dx) ≡ unsigned_abs (pos t *ℤ dy) + unsigned_abs (pos t *ℤ dy) → ⊥
    single dx d less e =
        not_double t (unsigned_abs dx) (unsigned_abs dy) low d less (omega (arith, e, size_steps t dx, size_steps t dy))

pub offset_of : (a b m : ℤ) → b ≡ a +ℤ m → b -ℤ a ≡ m
offset_of a b m h = omega (arith, ints)

-- so many steps from a toward b
abbrev pub toward : Square → Square → ℕ → Square
toward a b j = after_steps a j (toward_x a b) (toward_y a b)

-- where steps of a direction lead from a to b, it is the one toward b, and they are as many as the distance
module _ (a b : Square) (dx dy : ℤ) (direction : IsDirection dx dy) (t : ℕ) (to_b : b ≡ after_steps a t dx dy) where
  steps_x : b.x -ℤ a.x ≡ pos t *ℤ dx
  steps_x = offset_of a.x b.x (pos t *ℤ dx) (ap (λ s. s.x) to_b)

  steps_y : b.y -ℤ a.y ≡ pos t *ℤ dy
  steps_y = offset_of a.y b.y (pos t *ℤ dy) (ap (λ s. s.y) to_b)

  pub steps_distance : distance a b ≡ t
  steps_distance = rw (steps_x, steps_y) (far_steps dx dy direction t)

  pub steps_toward_x : 0 < t → toward_x a b ≡ dx
  steps_toward_x low = rw (steps_x, steps_y) (step_steps dx dy direction t low)

  pub steps_toward_y : 0 < t → toward_y a b ≡ dy
  steps_toward_y low = rw (steps_x, steps_y) (step_steps dy dx (direction_turned dx dy direction) t low)

  pub steps_toward : 0 < t → (j : ℕ) → after_steps a j dx dy ≡ toward a b j
  steps_toward low j = sym (ap (λ d. after_steps a j d (toward_y a b)) (steps_toward_x low) ∙ ap (λ d. after_steps a j dx d) (steps_toward_y low))

-- between two squares on a line is fewer steps from one toward the other
pub record IsOnWay (a b z : Square) : Type 0 where
  pub part : ℕ
  pub begun : 0 < part
  pub fewer : part < distance a b
  pub is : z ≡ toward a b part

pub on_way : {a b z : Square} → IsBetween a b z → IsOnWay a b z
on_way {a} {b} h =
    record {
      part = h.part;
      begun = h.begun;
      fewer = subst (λ n. h.part < n) (sym (steps_distance a b h.dx h.dy h.direction h.whole h.to_b)) h.fewer;
      is = h.to_z ∙ steps_toward a b h.dx h.dy h.direction h.whole h.to_b (omega (arith, h.begun, h.fewer)) h.part;
    }

-- the other lies on the line
abbrev pub IsAligned : Square → Square → Type 0
IsAligned a b = b ≡ toward a b (distance a b)

pub aligned : {a b z : Square} → IsBetween a b z → IsAligned a b
aligned {a} {b} h =
    h.to_b
    ∙ steps_toward a b h.dx h.dy h.direction h.whole h.to_b (omega (arith, h.begun, h.fewer)) h.whole
    ∙ ap (toward a b) (sym (steps_distance a b h.dx h.dy h.direction h.whole h.to_b))

sign_small : (d : ℤ) → unsigned_abs (int_signum d) ≤ 1
sign_small (pos zero) = omega arith
sign_small (pos (suc n)) = omega arith
sign_small (negsuc n) = omega arith

sign_size : (d : ℤ) → 0 < unsigned_abs d → unsigned_abs (int_signum d) ≡ 1
sign_size (pos zero) some = absurd (omega (arith, some))
sign_size (pos (suc n)) some = omega arith
sign_size (negsuc n) some = omega arith

twice_small : (s : ℤ) → unsigned_abs s ≤ 1 → unsigned_abs (s +ℤ s) ≤ 2
twice_small s h = omega (arith, ints, h)

-- where one offset is twice the other
double_direction : (x y : ℤ) → 0 < steps_of (unsigned_abs x) (unsigned_abs y) → unsigned_abs x ≡ unsigned_abs y + unsigned_abs y
    → (unsigned_abs (step_toward y x) ≡ 1) × (unsigned_abs (step_toward x y) ≤ 2)
double_direction x y some is =
    let up : 0 < unsigned_abs y = some_other (unsigned_abs x) (unsigned_abs y) some is in
    let single : step_toward y x ≡ int_signum y = step_single y x (λ e. omega (arith, e, is, up)) in
    let double : step_toward x y ≡ int_signum x +ℤ int_signum x = step_double x y is in
    (ap unsigned_abs single ∙ sign_size y up, subst (λ s. unsigned_abs s ≤ 2) (sym double) (twice_small (int_signum x) (sign_small x)))
  where
    some_other : (m n : ℕ) → 0 < steps_of m n → m ≡ n + n → 0 < n
    some_other m (suc n) some is = omega arith
    some_other zero zero some is = some
    some_other (suc m) zero some is = absurd (omega (arith, is))

sign_direction : (x y : ℤ) → 0 < steps_of (unsigned_abs x) (unsigned_abs y) → (unsigned_abs x ≡ unsigned_abs y + unsigned_abs y → ⊥)
    → (unsigned_abs y ≡ unsigned_abs x + unsigned_abs x → ⊥) → IsDirection (step_toward x y) (step_toward y x)
sign_direction x y some off other =
    let right : step_toward x y ≡ int_signum x = step_single x y off in
    let up : step_toward y x ≡ int_signum y = step_single y x other in
    elim (eqb_tells (unsigned_abs x) 0) [
      | inl none ↦
          let above : 0 < unsigned_abs y = omega (arith, some_right (unsigned_abs x) (unsigned_abs y) some none.1) in
          inr (ap unsigned_abs up ∙ sign_size y above, small right (sign_small x))
      | inr moves ↦ inl (ap unsigned_abs right ∙ sign_size x (positive (unsigned_abs x) moves.1), small up (sign_small y))
    ]
  where
    some_right : (m n : ℕ) → 0 < steps_of m n → m ≡ 0 → 0 < n
    some_right zero n some none = some
    some_right (suc m) n some none = absurd (omega (arith, none))

    positive : (m : ℕ) → (m ≡ 0 → ⊥) → 0 < m
    positive zero moves = absurd (moves refl)
    positive (suc m) moves = omega arith

    small : {d s : ℤ} → d ≡ s → unsigned_abs s ≤ 1 → unsigned_abs d ≤ 2
    small {d} {s} is h = let same : unsigned_abs d ≡ unsigned_abs s = ap unsigned_abs is in omega (arith, same, h)

-- the step toward an offset is a direction, unless it is none
pub step_direction : (x y : ℤ) → 0 < steps_of (unsigned_abs x) (unsigned_abs y) → IsDirection (step_toward x y) (step_toward y x)
step_direction x y some =
    elim (eqb_tells (unsigned_abs x) (unsigned_abs y + unsigned_abs y)) [
      | inl is ↦ inr (double_direction x y some is.1)
      | inr off ↦
          elim (eqb_tells (unsigned_abs y) (unsigned_abs x + unsigned_abs x)) [
            | inl is ↦ inl (double_direction y x (turned (unsigned_abs x) (unsigned_abs y) some) is.1)
            | inr other ↦ sign_direction x y some off.1 other.1
          ]
    ]
  where
    turned : (m n : ℕ) → 0 < steps_of m n → 0 < steps_of n m
    turned zero zero h = h
    turned zero (suc n) h = omega arith
    turned (suc m) zero h = omega arith
    turned (suc m) (suc n) h = omega arith

-- the direction toward another square
pub toward_direction : (a b : Square) → 0 < distance a b → IsDirection (toward_x a b) (toward_y a b)
toward_direction a b far = step_direction (b.x -ℤ a.x) (b.y -ℤ a.y) far

-- and it is small in any case
pub step_small : (d e : ℤ) → unsigned_abs (step_toward d e) ≤ 2
step_small d e =
    elim (eqb_tells (unsigned_abs d) (unsigned_abs e + unsigned_abs e)) [
      | inl is ↦ subst (λ s. unsigned_abs s ≤ 2) (sym (step_double d e is.1)) (twice_small (int_signum d) (sign_small d))
      | inr off ↦ subst (λ s. unsigned_abs s ≤ 2) (sym (step_single d e off.1)) (one_small (int_signum d) (sign_small d))
    ]
  where
    one_small : (s : ℤ) → unsigned_abs s ≤ 1 → unsigned_abs s ≤ 2
    one_small s h = omega (arith, h)

pub way_between : {a b z : Square} → IsAligned a b → IsOnWay a b z → IsBetween a b z
way_between {a} {b} line h =
    record {
      dx = toward_x a b;
      dy = toward_y a b;
      direction = toward_direction a b (omega (arith, h.fewer));
      whole = distance a b;
      part = h.part;
      begun = h.begun;
      fewer = h.fewer;
      to_b = line;
      to_z = h.is;
    }

abbrev pub shifted : Square → ℤ → ℤ → Square
shifted a dx dy = record { x = a.x +ℤ dx; y = a.y +ℤ dy }

-- the square and its eight neighbours
abbrev pub around : Square → List Square
around a =
    shifted a (negsuc 0) (negsuc 0) ∷ shifted a (pos 0) (negsuc 0) ∷ shifted a (pos 1) (negsuc 0)
    ∷ shifted a (negsuc 0) (pos 0) ∷ shifted a (pos 0) (pos 0) ∷ shifted a (pos 1) (pos 0)
    ∷ shifted a (negsuc 0) (pos 1) ∷ shifted a (pos 0) (pos 1) ∷ shifted a (pos 1) (pos 1) ∷ []

-- a number at most one step from another
pub three : (a b : ℤ) → unsigned_abs (b -ℤ a) ≤ 1 → (b ≡ a +ℤ negsuc 0) ⊎ ((b ≡ a +ℤ pos 0) ⊎ (b ≡ a +ℤ pos 1))
three a b h = grind (arith, ints)

-- a square at most one step away is among the nine
pub around_has : (a z : Square) (P : Square → Type 0) → unsigned_abs (z.x -ℤ a.x) ≤ 1 → unsigned_abs (z.y -ℤ a.y) ≤ 1 → P z → Any P (around a)
around_has a z P across along h =
    elim (three a.y z.y along) [
      | inl ey ↦
          elim (three a.x z.x across) [
            | inl ex ↦ (0, shifted a (negsuc 0) (negsuc 0), lit< tt, refl, subst P (square_is z (a.x +ℤ negsuc 0) (a.y +ℤ negsuc 0) ex ey) h)
            | inr e ↦
                elim e [
                  | inl ex ↦ (1, shifted a (pos 0) (negsuc 0), lit< tt, refl, subst P (square_is z (a.x +ℤ pos 0) (a.y +ℤ negsuc 0) ex ey) h)
                  | inr ex ↦
                      (2, shifted a (pos 1) (negsuc 0), lit< tt, refl, subst P (square_is z (a.x +ℤ pos 1) (a.y +ℤ negsuc 0) ex ey) h)
                ]
          ]
      | inr e ↦ elim e [
        | inl ey ↦
            elim (three a.x z.x across) [
              | inl ex ↦ (3, shifted a (negsuc 0) (pos 0), lit< tt, refl, subst P (square_is z (a.x +ℤ negsuc 0) (a.y +ℤ pos 0) ex ey) h)
              | inr e ↦
                  elim e [
                    | inl ex ↦ (4, shifted a (pos 0) (pos 0), lit< tt, refl, subst P (square_is z (a.x +ℤ pos 0) (a.y +ℤ pos 0) ex ey) h)
                    | inr ex ↦ (5, shifted a (pos 1) (pos 0), lit< tt, refl, subst P (square_is z (a.x +ℤ pos 1) (a.y +ℤ pos 0) ex ey) h)
                  ]
            ]
        | inr ey ↦
            elim (three a.x z.x across) [
              | inl ex ↦ (6, shifted a (negsuc 0) (pos 1), lit< tt, refl, subst P (square_is z (a.x +ℤ negsuc 0) (a.y +ℤ pos 1) ex ey) h)
              | inr e ↦
                  elim e [
                    | inl ex ↦ (7, shifted a (pos 0) (pos 1), lit< tt, refl, subst P (square_is z (a.x +ℤ pos 0) (a.y +ℤ pos 1) ex ey) h)
                    | inr ex ↦ (8, shifted a (pos 1) (pos 1), lit< tt, refl, subst P (square_is z (a.x +ℤ pos 1) (a.y +ℤ pos 1) ex ey) h)
                  ]
            ]
      ]
    ]
