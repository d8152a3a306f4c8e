-- Products of integers.
use Rattle.std.proofs.Common.{◌≡◌, ℕ, zero, suc, ◌*◌, ℤ, pos, negsuc, ◌+ℤ◌, ◌-ℤ◌, ◌*ℤ◌, ap, sym, ◌∙◌, arith, refl}
use Rattle.std.proofs.lemmas.Int.{ints}
use Rattle.std.proofs.Math.IntN.{suc_ℤ, pred_ℤ, suc_ℤ-*ℤ, pred_ℤ-*ℤ, zero-*ℤ, *ℤ_comm}

suc_is : (k : ℤ) → k +ℤ pos 1 ≡ suc_ℤ k
suc_is (pos n) = omega (arith, ints)
suc_is (negsuc zero) = omega (arith, ints)
suc_is (negsuc (suc n)) = omega (arith, ints)

pred_is : (k : ℤ) → k -ℤ pos 1 ≡ pred_ℤ k
pred_is (pos zero) = omega (arith, ints)
pred_is (pos (suc n)) = omega (arith, ints)
pred_is (negsuc n) = omega (arith, ints)

times_more : (a e : ℤ) → (a +ℤ pos 1) *ℤ e ≡ (a *ℤ e) +ℤ e
times_more a e = ap (λ x. x *ℤ e) (suc_is a) ∙ suc_ℤ-*ℤ a e

times_less : (a e : ℤ) → (a -ℤ pos 1) *ℤ e ≡ (a *ℤ e) -ℤ e
times_less a e = ap (λ x. x *ℤ e) (pred_is a) ∙ pred_ℤ-*ℤ a e

-- the product of a sum
pub times_plus : (a b e : ℤ) → (a +ℤ b) *ℤ e ≡ (a *ℤ e) +ℤ (b *ℤ e)
times_plus (pos zero) b e =
    let none : pos zero +ℤ b ≡ b = omega (arith, ints) in
    let zero_e : pos zero *ℤ e ≡ pos zero = zero-*ℤ e in
    let same : (pos zero +ℤ b) *ℤ e ≡ b *ℤ e = ap (λ x. x *ℤ e) none in
    omega (arith, ints, zero_e, same)
times_plus (pos (suc n)) b e =
    let more : pos (suc n) +ℤ b ≡ (pos n +ℤ b) +ℤ pos 1 = omega (arith, ints) in
    let same : (pos (suc n) +ℤ b) *ℤ e ≡ ((pos n +ℤ b) +ℤ pos 1) *ℤ e = ap (λ x. x *ℤ e) more in
    let left : ((pos n +ℤ b) +ℤ pos 1) *ℤ e ≡ ((pos n +ℤ b) *ℤ e) +ℤ e = times_more (pos n +ℤ b) e in
    let right : pos (suc n) *ℤ e ≡ (pos n *ℤ e) +ℤ e = suc_ℤ-*ℤ (pos n) e in
    let rest : (pos n +ℤ b) *ℤ e ≡ (pos n *ℤ e) +ℤ (b *ℤ e) = times_plus (pos n) b e in
    same ∙ left ∙ last (pos n *ℤ e) (b *ℤ e) e _ _ rest right
  where
    last : (p q e m n : ℤ) → m ≡ p +ℤ q → n ≡ p +ℤ e → m +ℤ e ≡ n +ℤ q
    last p q e m n h k = omega (arith, ints, h, k)
times_plus (negsuc zero) b e =
    let less : negsuc zero +ℤ b ≡ b -ℤ pos 1 = omega (arith, ints) in
    let same : (negsuc zero +ℤ b) *ℤ e ≡ (b -ℤ pos 1) *ℤ e = ap (λ x. x *ℤ e) less in
    let left : (b -ℤ pos 1) *ℤ e ≡ (b *ℤ e) -ℤ e = times_less b e in
    let right : negsuc zero *ℤ e ≡ (pos zero *ℤ e) -ℤ e = pred_ℤ-*ℤ (pos zero) e in
    same ∙ left ∙ last (pos zero *ℤ e) (b *ℤ e) e _ (zero-*ℤ e) right
  where
    last : (p q e n : ℤ) → p ≡ pos 0 → n ≡ p -ℤ e → q -ℤ e ≡ n +ℤ q
    last p q e n h k = omega (arith, ints, h, k)
times_plus (negsuc (suc n)) b e =
    let less : negsuc (suc n) +ℤ b ≡ (negsuc n +ℤ b) -ℤ pos 1 = omega (arith, ints) in
    let same : (negsuc (suc n) +ℤ b) *ℤ e ≡ ((negsuc n +ℤ b) -ℤ pos 1) *ℤ e = ap (λ x. x *ℤ e) less in
    let left : ((negsuc n +ℤ b) -ℤ pos 1) *ℤ e ≡ ((negsuc n +ℤ b) *ℤ e) -ℤ e = times_less (negsuc n +ℤ b) e in
    let right : negsuc (suc n) *ℤ e ≡ (negsuc n *ℤ e) -ℤ e = pred_ℤ-*ℤ (negsuc n) e in
    let rest : (negsuc n +ℤ b) *ℤ e ≡ (negsuc n *ℤ e) +ℤ (b *ℤ e) = times_plus (negsuc n) b e in
    same ∙ left ∙ last (negsuc n *ℤ e) (b *ℤ e) e _ _ rest right
  where
    last : (p q e m n : ℤ) → m ≡ p +ℤ q → n ≡ p -ℤ e → m -ℤ e ≡ n +ℤ q
    last p q e m n h k = omega (arith, ints, h, k)

-- the product of a difference
pub times_minus : (a b e : ℤ) → (a -ℤ b) *ℤ e ≡ (a *ℤ e) -ℤ (b *ℤ e)
times_minus a b e =
    let whole : (a -ℤ b) +ℤ b ≡ a = omega (arith, ints) in
    let sum : ((a -ℤ b) +ℤ b) *ℤ e ≡ ((a -ℤ b) *ℤ e) +ℤ (b *ℤ e) = times_plus (a -ℤ b) b e in
    let same : ((a -ℤ b) +ℤ b) *ℤ e ≡ a *ℤ e = ap (λ x. x *ℤ e) whole in
    omega (arith, ints, sum, same)

-- some steps of a product
pub times_assoc : (t : ℕ) (u e : ℤ) → (pos t *ℤ u) *ℤ e ≡ pos t *ℤ (u *ℤ e)
times_assoc zero u e = ap (λ x. x *ℤ e) (zero-*ℤ u) ∙ zero-*ℤ e ∙ sym (zero-*ℤ (u *ℤ e))
times_assoc (suc t) u e =
    let more : pos (suc t) *ℤ u ≡ (pos t *ℤ u) +ℤ u = suc_ℤ-*ℤ (pos t) u in
    let whole : pos (suc t) *ℤ (u *ℤ e) ≡ (pos t *ℤ (u *ℤ e)) +ℤ (u *ℤ e) = suc_ℤ-*ℤ (pos t) (u *ℤ e) in
    let rest : (pos t *ℤ u) *ℤ e ≡ pos t *ℤ (u *ℤ e) = times_assoc t u e in
    ap (λ x. x *ℤ e) more ∙ times_plus (pos t *ℤ u) u e ∙ omega (arith, ints, whole, rest)

-- some steps of a difference
pub steps_minus : (t : ℕ) (u v : ℤ) → (pos t *ℤ u) -ℤ (pos t *ℤ v) ≡ pos t *ℤ (u -ℤ v)
steps_minus t u v =
    let is : (u -ℤ v) *ℤ pos t ≡ (u *ℤ pos t) -ℤ (v *ℤ pos t) = times_minus u v (pos t) in
    let right : u *ℤ pos t ≡ pos t *ℤ u = *ℤ_comm u (pos t) in
    let up : v *ℤ pos t ≡ pos t *ℤ v = *ℤ_comm v (pos t) in
    let whole : (u -ℤ v) *ℤ pos t ≡ pos t *ℤ (u -ℤ v) = *ℤ_comm (u -ℤ v) (pos t) in
    omega (arith, ints, is, right, up, whole)

-- as many steps the other way
pub negated_steps : (t : ℕ) (d : ℤ) → pos t *ℤ (pos 0 -ℤ d) ≡ pos 0 -ℤ (pos t *ℤ d)
negated_steps zero d = omega (arith, ints, zero-*ℤ (pos 0 -ℤ d), zero-*ℤ d)
negated_steps (suc t) d =
    omega (arith, ints, negated_steps t d, suc_ℤ-*ℤ (pos t) (pos 0 -ℤ d), suc_ℤ-*ℤ (pos t) d)

-- where a product of two numbers is 1, the first is
pub times_one : (m n : ℕ) → m * n ≡ 1 → m ≡ 1
times_one zero n h = absurd (omega (arith, h))
times_one (suc zero) n h = refl
times_one (suc (suc m)) zero h = absurd (omega (arith, h))
times_one (suc (suc m)) (suc n) h = absurd (omega (arith, h))
