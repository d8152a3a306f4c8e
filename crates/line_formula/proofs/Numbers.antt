-- Products of integers.
use Rattle.std.proofs.Common.{◌≡◌, ℕ, ℤ, neg_ℤ, ◌+ℤ◌, ◌-ℤ◌, ◌*ℤ◌, ◌+◌, ◌*◌, sym, ap, ◌∙◌, arith}
use Rattle.std.proofs.lemmas.Int.{ints}
use Rattle.std.proofs.Math.IntN.{*ℤ_comm}
use Rattle.auto_core.proofs.Products.{mul-add, mul-neg}
use borrow.Author.Differences.{up, down, product_is, same_in}

pub mul-assoc : (a b c : ℤ) → (a *ℤ b) *ℤ c ≡ a *ℤ (b *ℤ c)
mul-assoc a b c =
    let ab = product_is a b in
    let bc = product_is b c in
    let by = λ (k : ℕ) (m n : ℕ) (e : m ≡ n). ap (λ x. x * k) e in
    let left = product_is (a *ℤ b) c in
    let right = product_is a (b *ℤ c) in
    let ups : up ((a *ℤ b) *ℤ c) ≡ up (a *ℤ (b *ℤ c)) =
    omega (arith, by (up c) _ _ ab.0, by (down c) _ _ ab.1, by (up a) _ _ bc.0, by (down a) _ _ bc.1) in
    let downs : down ((a *ℤ b) *ℤ c) ≡ down (a *ℤ (b *ℤ c)) =
    omega (arith, by (down c) _ _ ab.0, by (up c) _ _ ab.1, by (down a) _ _ bc.0, by (up a) _ _ bc.1) in
    same_in _ _ (λ i. ups i + sym downs i)

pub mul-sub : (c x y : ℤ) → c *ℤ (x -ℤ y) ≡ (c *ℤ x) -ℤ (c *ℤ y)
mul-sub c x y = mul-add c x (neg_ℤ y) ∙ ap (λ n. (c *ℤ x) +ℤ n) (mul-neg c y)

-- a weighed difference after a step
pub weighed-step : (u a b x y t : ℤ) → u *ℤ ((a +ℤ (t *ℤ x)) -ℤ (b +ℤ (t *ℤ y))) ≡ (u *ℤ (a -ℤ b)) +ℤ (t *ℤ (u *ℤ (x -ℤ y)))
weighed-step u a b x y t =
    let whole : (a +ℤ (t *ℤ x)) -ℤ (b +ℤ (t *ℤ y)) ≡ (a -ℤ b) +ℤ ((t *ℤ x) -ℤ (t *ℤ y)) = omega (arith, ints) in
    ap (λ n. u *ℤ n) (whole ∙ ap (λ n. (a -ℤ b) +ℤ n) (sym (mul-sub t x y)))
    ∙ mul-add u (a -ℤ b) (t *ℤ (x -ℤ y))
    ∙ ap (λ n. (u *ℤ (a -ℤ b)) +ℤ n) (sym (mul-assoc u t (x -ℤ y)) ∙ ap (λ n. n *ℤ (x -ℤ y)) (*ℤ_comm u t) ∙ mul-assoc t u (x -ℤ y))
