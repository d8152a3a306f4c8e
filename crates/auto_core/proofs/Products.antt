-- Products of integers.
use Rattle.std.proofs.Common.{◌≡◌, ℕ, ℤ, pos, neg_ℤ, ◌+ℤ◌, ◌*ℤ◌, ◌+◌, ◌*◌, ap, arith}
use Rattle.std.proofs.lemmas.Int.{ints}
use borrow.Author.Differences.{up, down, sum_is_lem, neg_is}

pub mul-add : (c x y : ℤ) → c *ℤ (x +ℤ y) ≡ (c *ℤ x) +ℤ (c *ℤ y)
mul-add c x y =
    let s = sum_is_lem x y in
    let a = ap (λ n. up c * n) s in
    let b = ap (λ n. down c * n) s in
    omega (arith, ints, a, b)

pub mul-neg : (c x : ℤ) → c *ℤ neg_ℤ x ≡ neg_ℤ (c *ℤ x)
mul-neg c x =
    let n = neg_is x in
    let a = ap (λ k. up c * k) n.0 in
    let b = ap (λ k. down c * k) n.1 in
    let a' = ap (λ k. up c * k) n.1 in
    let b' = ap (λ k. down c * k) n.0 in
    omega (arith, ints, a, b, a', b')

-- one more digit of a sum
pub double-scaled : (c x y f g : ℤ) → ((c *ℤ x) +ℤ y) +ℤ ((c *ℤ x) +ℤ y) +ℤ ((c *ℤ f) +ℤ g) ≡ (c *ℤ (x +ℤ x +ℤ f)) +ℤ (y +ℤ y +ℤ g)
double-scaled c x y f g =
    let a = mul-add c (x +ℤ x) f in
    let b = mul-add c x x in
    rw (a, b) (regroup (c *ℤ x) y (c *ℤ f) g)
  where
    regroup : (p y q g : ℤ) → (p +ℤ y) +ℤ (p +ℤ y) +ℤ (q +ℤ g) ≡ ((p +ℤ p) +ℤ q) +ℤ (y +ℤ y +ℤ g)
    regroup p y q g = omega (arith, ints)

-- a power of two with the bit before it
pub double-power : (x : ℤ) (bit power low : ℕ) → ((x +ℤ x +ℤ pos bit) *ℤ pos power) +ℤ pos low ≡ (x *ℤ pos (2 * power)) +ℤ pos (bit * power + low)
double-power x bit power low =
    let s = sum_is_lem (x +ℤ x) (pos bit) in
    let t = sum_is_lem x x in
    let a = ap (λ n. n * power) s in
    let b = ap (λ n. n * power) t in
    omega (arith, ints, a, b)
