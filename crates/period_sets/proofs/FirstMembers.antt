-- The next number in a set or outside, as the first member and as the end of a run.
use Rattle.std.proofs.Common.{◌≡◌, ◌⊎◌, ◌≢◌, ℕ, min, ◌^◌, ◌<◌, ◌≤◌, arith, inl, inr, subst}
use Rattle.auto_numbers.specs.Numbers.{IsNext}
use Rattle.period_sets.specs.Finding.{IsFirstMember, IsRunEnd}

module _ (S : ℕ → Type 0) where
  pub first-member : (from end low : ℕ) → IsNext S from low → low < end → IsFirstMember S from end low
  first-member from end low least below = record {
    first = least.from;
    below = below;
    member = least.holds;
    before = λ t past small member. let h = least.least t past member in omega (arith, h, small);
  }

  pub none-before : (from end low : ℕ) → IsNext S from low → end ≤ low → (t : ℕ) → from ≤ t → t < end → ¬ S t
  none-before from end low least past t above small = λ member. let h = least.least t above member in omega (arith, h, small, past)

  -- the first number that is no member
  pub ends-there : (low end stop : ℕ) → ((t : ℕ) → S t ⊎ (¬ S t)) → S low → low < end → IsNext (λ t. ¬ S t) low stop → IsRunEnd S low end (min stop end)
  ends-there low end stop decided member below least = record {
    some = omega (arith, above, below);
    within = omega arith;
    inside = λ t past small. inside t past (omega (arith, small));
    after = λ before. let e : min stop end ≡ stop = omega (arith, before) in rw e least.holds;
  }
    where
      apart : low ≢ stop
      apart e = least.holds (subst S e member)

      above : low < stop
      above = let h = least.from in let ne = apart in omega (arith, h, ne)

      inside : (t : ℕ) → low ≤ t → t < stop → S t
      inside t past small = elim (decided t) [
        | inl is ↦ is
        | inr other ↦ let h = least.least t past other in absurd (omega (arith, h, small))
      ]

  pub ends-at-end : (low end : ℕ) → ((t : ℕ) → S t ⊎ (¬ S t)) → low < end → end ≤ 2 ^ 101 → ((t : ℕ) → low ≤ t → t < 2 ^ 101 → ¬ S t → ⊥) → IsRunEnd S low end end
  ends-at-end low end decided below few none = record {
    some = below;
    within = omega arith;
    inside = λ t past small. elim (decided t) [
      | inl is ↦ is
      | inr other ↦ absurd (none t past (omega (arith, small, few)) other)
    ];
    after = λ before. absurd (omega (arith, before));
  }
