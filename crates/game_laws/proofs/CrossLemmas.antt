-- Where a ray meets a line.
use Rattle.std.proofs.Common.{◌≡◌, ◌⊎◌, inl, inr, ℕ, ◌+◌, ◌*◌, ℤ, pos, negsuc, ◌+ℤ◌, ◌-ℤ◌, ◌*ℤ◌, unsigned_abs, sym, ap, subst, ◌∙◌, arith, refl}
use Rattle.std.proofs.lemmas.Int.{ints, unsigned_abs-mul}
use Rattle.game_rules.specs.Game.{IsDirection, after_steps}
use Rattle.game_rules.specs.declared.men.Square.{Square}
use Rattle.game_laws.specs.Answer.{cross}
use Rattle.game_laws.proofs.LineLemmas.{square_is}
use Rattle.game_laws.proofs.Products.{negated_steps, steps_minus, times_assoc, times_one, times_plus}
use Rattle.std.proofs.Math.IntN.{*ℤ_comm}

-- the cross product of some steps
pub cross_steps : (t : ℕ) (u v ex ey : ℤ) → unsigned_abs (cross (pos t *ℤ u) (pos t *ℤ v) ex ey) ≡ t * unsigned_abs (cross u v ex ey)
cross_steps t u v ex ey =
    let is : cross (pos t *ℤ u) (pos t *ℤ v) ex ey ≡ pos t *ℤ cross u v ex ey =
    ap (λ m. m -ℤ ((pos t *ℤ v) *ℤ ex)) (times_assoc t u ey)
    ∙ ap (λ m. (pos t *ℤ (u *ℤ ey)) -ℤ m) (times_assoc t v ex)
    ∙ steps_minus t (u *ℤ ey) (v *ℤ ex) in
    ap unsigned_abs is ∙ unsigned_abs-mul (pos t) (cross u v ex ey)

-- who goes some way to the line is that far off it
pub cross_off : (x y u v ex ey : ℤ) (j : ℕ) → x +ℤ u ≡ pos j *ℤ ex → y +ℤ v ≡ pos j *ℤ ey → unsigned_abs (cross x y ex ey) ≡ unsigned_abs (cross u v ex ey)
cross_off x y u v ex ey j h k =
    let right : (x *ℤ ey) +ℤ (u *ℤ ey) ≡ pos j *ℤ (ex *ℤ ey) = sym (times_plus x u ey) ∙ ap (λ m. m *ℤ ey) h ∙ times_assoc j ex ey in
    let up : (y *ℤ ex) +ℤ (v *ℤ ex) ≡ pos j *ℤ (ey *ℤ ex) = sym (times_plus y v ex) ∙ ap (λ m. m *ℤ ex) k ∙ times_assoc j ey ex in
    let same : pos j *ℤ (ex *ℤ ey) ≡ pos j *ℤ (ey *ℤ ex) = ap (λ m. pos j *ℤ m) (*ℤ_comm ex ey) in
    other_way (x *ℤ ey) (y *ℤ ex) (u *ℤ ey) (v *ℤ ex) _ _ right up same
  where
    other_way : (a b c d m n : ℤ) → a +ℤ c ≡ m → b +ℤ d ≡ n → m ≡ n → unsigned_abs (a -ℤ b) ≡ unsigned_abs (c -ℤ d)
    other_way a b c d m n h k e = omega (arith, ints, h, k, e)

abbrev pub IsSame : ℤ → ℤ → ℤ → ℤ → Type 0
IsSame u v ex ey = (u ≡ ex) × (v ≡ ey)

abbrev pub IsOpposite : ℤ → ℤ → ℤ → ℤ → Type 0
IsOpposite u v ex ey = (u +ℤ ex ≡ pos 0) × (v +ℤ ey ≡ pos 0)

one_cases : (d : ℤ) → unsigned_abs d ≡ 1 → (d ≡ pos 1) ⊎ (d ≡ negsuc 0)
one_cases d h = grind (arith, ints)

abbrev AreParallel : ℤ → ℤ → ℤ → ℤ → Type 0
AreParallel u v ex ey = cross u v ex ey ≡ pos 0 → IsSame u v ex ey ⊎ IsOpposite u v ex ey

-- parallel steps that go one column or none
parallel_across : (u v ex ey : ℤ) → unsigned_abs u ≡ 1 → unsigned_abs ex ≡ 1 → AreParallel u v ex ey
parallel_across u v ex ey hu hx =
    elim (one_cases u hu) [
      | inl u_is ↦
          subst (λ u. AreParallel u v ex ey) (sym u_is)
          (elim (one_cases ex hx) [
            | inl is ↦ subst (λ ex. AreParallel (pos 1) v ex ey) (sym is) (λ h. inl (refl, omega (arith, ints, h)))
            | inr is ↦ subst (λ ex. AreParallel (pos 1) v ex ey) (sym is) (λ h. inr (omega (arith, ints), omega (arith, ints, h)))
          ])
      | inr u_is ↦
          subst (λ u. AreParallel u v ex ey) (sym u_is)
          (elim (one_cases ex hx) [
            | inl is ↦ subst (λ ex. AreParallel (negsuc 0) v ex ey) (sym is) (λ h. inr (omega (arith, ints), omega (arith, ints, h)))
            | inr is ↦ subst (λ ex. AreParallel (negsuc 0) v ex ey) (sym is) (λ h. inl (refl, omega (arith, ints, h)))
          ])
    ]

parallel_along : (u v ex ey : ℤ) → unsigned_abs v ≡ 1 → unsigned_abs ey ≡ 1 → AreParallel u v ex ey
parallel_along u v ex ey hv hy h =
    elim (parallel_across v u ey ex hv hy (turned (u *ℤ ey) (v *ℤ ex) h)) [ inl s ↦ inl (s.1, s.0) | inr o ↦ inr (o.1, o.0) ]
  where
    turned : (m n : ℤ) → m -ℤ n ≡ pos 0 → n -ℤ m ≡ pos 0
    turned m n h = omega (arith, ints, h)

-- where one goes one column and the other one row, the other goes one column too
one_across : (u v ex ey : ℤ) → unsigned_abs u ≡ 1 → unsigned_abs ey ≡ 1 → cross u v ex ey ≡ pos 0 → unsigned_abs ex ≡ 1
one_across u v ex ey hu hy h =
    let sizes : unsigned_abs u * unsigned_abs ey ≡ unsigned_abs v * unsigned_abs ex =
    sym (unsigned_abs-mul u ey) ∙ ap unsigned_abs (level (u *ℤ ey) (v *ℤ ex) h) ∙ unsigned_abs-mul v ex in
    let one : unsigned_abs u * unsigned_abs ey ≡ 1 = ap (λ m. m * unsigned_abs ey) hu ∙ ap (λ m. 1 * m) hy in
    second (unsigned_abs v) (unsigned_abs ex) (sym sizes ∙ one)
  where
    level : (m n : ℤ) → m -ℤ n ≡ pos 0 → m ≡ n
    level m n h = omega (arith, ints, h)

    second : (m n : ℕ) → m * n ≡ 1 → n ≡ 1
    second m n h = let first : m ≡ 1 = times_one m n h in let whole : 1 * n ≡ 1 = subst (λ k. k * n ≡ 1) first h in omega (arith, whole)

-- parallel directions are the same or opposite
pub parallel : (u v ex ey : ℤ) → IsDirection u v → IsDirection ex ey → cross u v ex ey ≡ pos 0 → IsSame u v ex ey ⊎ IsOpposite u v ex ey
parallel u v ex ey (inl d) (inl e) h = parallel_across u v ex ey d.0 e.0 h
parallel u v ex ey (inr d) (inr e) h = parallel_along u v ex ey d.0 e.0 h
parallel u v ex ey (inl d) (inr e) h = parallel_across u v ex ey d.0 (one_across u v ex ey d.0 e.0 h) h
parallel u v ex ey (inr d) (inl e) h =
    parallel_along u v ex ey d.0 (one_across v u ey ex d.0 e.0 (turned (u *ℤ ey) (v *ℤ ex) h)) h
  where
    turned : (m n : ℤ) → m -ℤ n ≡ pos 0 → n -ℤ m ≡ pos 0
    turned m n h = omega (arith, ints, h)

-- t steps to z from b, and t + w from a, in one direction: w from a to b
behind : (z b a d : ℤ) (t w : ℕ) → z ≡ b +ℤ (pos t *ℤ d) → z ≡ a +ℤ (pos (t + w) *ℤ d) → b ≡ a +ℤ (pos w *ℤ d)
behind z b a d t w x y = omega (arith, ints, x, y)

pub steps_behind : (z b a : Square) (u v : ℤ) (t w : ℕ) → z ≡ after_steps b t u v → z ≡ after_steps a (t + w) u v → b ≡ after_steps a w u v
steps_behind z b a u v t w x y =
    square_is b _ _ (behind z.x b.x a.x u t w (ap (λ s. s.x) x) (ap (λ s. s.x) y)) (behind z.y b.y a.y v t w (ap (λ s. s.y) x) (ap (λ s. s.y) y))

-- steps there are steps back of the opposite direction
turned_back : (t : ℕ) (d e : ℤ) → d +ℤ e ≡ pos 0 → pos t *ℤ e ≡ pos 0 -ℤ (pos t *ℤ d)
turned_back t d e o =
    let is : e ≡ pos 0 -ℤ d = omega (arith, ints, o) in ap (λ e. pos t *ℤ e) is ∙ negated_steps t d

-- and in opposite directions: t + j from a to b
facing : (z b a d e : ℤ) (t j : ℕ) → d +ℤ e ≡ pos 0 → z ≡ b +ℤ (pos t *ℤ d) → z ≡ a +ℤ (pos j *ℤ e) → b ≡ a +ℤ (pos (j + t) *ℤ e)
facing z b a d e t j o x y =
    let there : pos t *ℤ e ≡ pos 0 -ℤ (pos t *ℤ d) = turned_back t d e o in
    omega (arith, ints, x, y, there)

pub steps_facing : (z b a : Square) (u v ex ey : ℤ) (t j : ℕ) → IsOpposite u v ex ey → z ≡ after_steps b t u v → z ≡ after_steps a j ex ey → b ≡ after_steps a (j + t) ex ey
steps_facing z b a u v ex ey t j o x y =
    square_is b _ _ (facing z.x b.x a.x u ex t j o.0 (ap (λ s. s.x) x) (ap (λ s. s.x) y)) (facing z.y b.y a.y v ey t j o.1 (ap (λ s. s.y) x) (ap (λ s. s.y) y))

-- n steps from a to k, and n + w from a to b: w from k to b
ahead : (b k a d : ℤ) (n w : ℕ) → k ≡ a +ℤ (pos n *ℤ d) → b ≡ a +ℤ (pos (n + w) *ℤ d) → b ≡ k +ℤ (pos w *ℤ d)
ahead b k a d n w x y = omega (arith, ints, x, y)

pub steps_ahead : (b k a : Square) (u v : ℤ) (n w : ℕ) → k ≡ after_steps a n u v → b ≡ after_steps a (n + w) u v → b ≡ after_steps k w u v
steps_ahead b k a u v n w x y =
    square_is b _ _ (ahead b.x k.x a.x u n w (ap (λ s. s.x) x) (ap (λ s. s.x) y)) (ahead b.y k.y a.y v n w (ap (λ s. s.y) x) (ap (λ s. s.y) y))

-- the way back
back : (b k d e : ℤ) (w : ℕ) → d +ℤ e ≡ pos 0 → b ≡ k +ℤ (pos w *ℤ e) → k ≡ b +ℤ (pos w *ℤ d)
back b k d e w o x = let there : pos w *ℤ e ≡ pos 0 -ℤ (pos w *ℤ d) = turned_back w d e o in omega (arith, ints, x, there)

pub steps_back : (b k : Square) (u v ex ey : ℤ) (w : ℕ) → IsOpposite u v ex ey → b ≡ after_steps k w ex ey → k ≡ after_steps b w u v
steps_back b k u v ex ey w o x =
    square_is k _ _ (back b.x k.x u ex w o.0 (ap (λ s. s.x) x)) (back b.y k.y v ey w o.1 (ap (λ s. s.y) x))

no_steps : (a d : ℤ) → a ≡ a +ℤ (pos 0 *ℤ d)
no_steps a d = omega (arith, ints)

pub none_after : (a : Square) (u v : ℤ) → a ≡ after_steps a 0 u v
none_after a u v = square_is a _ _ (no_steps a.x u) (no_steps a.y v)
