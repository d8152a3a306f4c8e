-- One answer is the next number of which a fact holds, and one is the greatest.
use Rattle.std.proofs.Common.{◌≡◌, ℕ, ◌+◌, ◌^◌, ◌<◌, ◌≤◌, Option, Some, None, arith, refl, ap}
use Rattle.auto_numbers.specs.declared.largest.Greatest.{Greatest}
use Rattle.auto_numbers.specs.declared.largest.Greatest.TheVariants.{Nothing, Number, Far, Endless}
use Rattle.auto_numbers.specs.Numbers.{IsNextFound, IsEndless, IsGreatest}

module _ (P : ℕ → Type 0) where
  pub one-next : (low : ℕ) (m n : Option ℕ) → IsNextFound P low m → IsNextFound P low n → m ≡ n
  one-next low None None one other = refl
  one-next low None (Some n) none next = absurd (none n next.from next.small next.holds)
  one-next low (Some m) None next none = absurd (none m next.from next.small next.holds)
  one-next low (Some m) (Some n) one other =
      let le = one.least n other.from other.holds in
      let ge = other.least m one.from one.holds in
      let e : m ≡ n = omega (arith, le, ge) in
      ap (λ x. Some x) e

  positive : (far : ℕ) → 2 ^ 100 ≤ far → 1 ≤ far
  positive far large = omega (arith, large)

  near-far : (n far : ℕ) → n < 2 ^ 100 → 2 ^ 100 ≤ far → far ≤ n → ⊥
  near-far n far small large le = omega (arith, small, large, le)

  within : (bound : ℕ) → ((t : ℕ) → P t → t ≤ bound) → IsEndless P → ⊥
  within bound bounded endless =
      let next = endless (bound + 1) in
      let past = next.1 in
      let le = bounded next.0 next.2 in
      omega (arith, past, le)

  pub one-greatest : (g h : Greatest) → IsGreatest P g → IsGreatest P h → g ≡ h
  one-greatest Nothing Nothing one other = refl
  one-greatest Nothing (Number n) none is = absurd (none n is.0 is.2.holds)
  one-greatest Nothing Far none far = absurd (none far.far (positive far.far far.large) far.holds)
  one-greatest Nothing Endless none endless = let next = endless 1 in absurd (none next.0 next.1 next.2)
  one-greatest (Number m) Nothing is none = absurd (none m is.0 is.2.holds)
  one-greatest (Number m) (Number n) one other =
      let le = one.2.most n other.2.holds in
      let ge = other.2.most m one.2.holds in
      let e : m ≡ n = omega (arith, le, ge) in
      ap (λ x. Number x) e
  one-greatest (Number m) Far is far = absurd (near-far m far.far is.1 far.large (is.2.most far.far far.holds))
  one-greatest (Number m) Endless is endless = absurd (within m is.2.most endless)
  one-greatest Far Nothing far none = absurd (none far.far (positive far.far far.large) far.holds)
  one-greatest Far (Number n) far is = absurd (near-far n far.far is.1 far.large (is.2.most far.far far.holds))
  one-greatest Far Far one other = refl
  one-greatest Far Endless far endless = absurd (within far.bound far.bounded endless)
  one-greatest Endless Nothing endless none = let next = endless 1 in absurd (none next.0 next.1 next.2)
  one-greatest Endless (Number n) endless is = absurd (within n is.2.most endless)
  one-greatest Endless Far endless far = absurd (within far.bound far.bounded endless)
  one-greatest Endless Endless one other = refl
