-- The number nearest to 0, from the nearest ones on both sides.
use Rattle.std.proofs.Common.{◌≡◌, ℕ, zero, suc, ◌^◌, ◌<◌, ◌≤◌, ℤ, pos, negsuc, ◌≤ℤ◌, Bool, true, false, nat_lt, Option, Some, None, MatchOption, refl, arith}
use Rattle.std.specs.Prelude.{neg_ℤ, unsigned_abs, if◌then◌else◌}
use Rattle.std.proofs.lemmas.Int.{ints}
use borrow.Author.Tests.{ltb-true, ltb-false}
use Rattle.arith_desk.specs.Nearer.{nearer_of}
use Rattle.arith_desk.specs.Truth.{IsNearest, IsNearestFound}

-- the least distance from a near one to 2^64 of which the fact holds
pub record IsLeastFrom (P : ℕ → Type 0) (near t : ℕ) : Type 0 where
  pub from : near ≤ t
  pub to : t ≤ 2 ^ 64
  pub hit : P t
  pub least : (u : ℕ) → near ≤ u → P u → t ≤ u

abbrev pub IsLeastOf : (ℕ → Type 0) → ℕ → Option ℕ → Type 0
IsLeastOf P near found = MatchOption found ((t : ℕ) → near ≤ t → t ≤ 2 ^ 64 → P t → ⊥) (IsLeastFrom P near)

beyond : (t : ℕ) → (t ≤ 2 ^ 64 → ⊥) → 2 ^ 64 < t
beyond t h = omega (arith, h)

module _ (P : ℤ → Type 0) where
  Above : ℕ → Type 0
  Above t = P (pos t)

  Below : ℕ → Type 0
  Below t = P (neg_ℤ (pos t))

  none_far : ((t : ℕ) → 0 ≤ t → t ≤ 2 ^ 64 → P (pos t) → ⊥) → ((t : ℕ) → 1 ≤ t → t ≤ 2 ^ 64 → P (neg_ℤ (pos t)) → ⊥) → (n : ℤ)
      → P n → 2 ^ 64 < unsigned_abs n
  none_far above below (pos t) h = beyond t (λ small. above t (omega arith) small h)
  none_far above below (negsuc t) h = beyond (suc t) (λ small. below (suc t) (omega arith) small h)

  above_nearest : {t : ℕ} → IsLeastFrom (λ u. P (pos u)) 0 t → ((u : ℕ) → 1 ≤ u → u ≤ 2 ^ 64 → u < t → P (neg_ℤ (pos u)) → ⊥) → IsNearest P (pos t)
  above_nearest {t} is below = record { holds = is.hit; least = least; positive = positive }
    where
      least : (n : ℤ) → P n → t ≤ unsigned_abs n
      least (pos u) h = is.least u (omega arith) h
      least (negsuc u) h = not_less t (suc u) (λ less. below (suc u) (omega arith) (let far = is.to in omega arith) less h)
        where
          not_less : (a b : ℕ) → (b < a → ⊥) → a ≤ b
          not_less a b h = omega (arith, h)

      positive : (n : ℤ) → P n → unsigned_abs n ≡ t → n ≤ℤ pos t
      positive (pos u) h same = omega (arith, ints)
      positive (negsuc u) h same = omega (arith, ints)

  below_nearest : {t : ℕ} → IsLeastFrom (λ u. P (neg_ℤ (pos u))) 1 t → ((u : ℕ) → u ≤ t → P (pos u) → ⊥) → IsNearest P (neg_ℤ (pos t))
  below_nearest {t = zero} is above = absurd (let from = is.from in omega arith)
  below_nearest {t = suc m} is above = record { holds = is.hit; least = least; positive = positive }
    where
      least : (n : ℤ) → P n → suc m ≤ unsigned_abs n
      least (pos u) h = not_less (suc m) u (λ less. above u (omega arith) h)
        where
          not_less : (a b : ℕ) → (b < a → ⊥) → a ≤ b
          not_less a b h = omega (arith, h)
      least (negsuc u) h = is.least (suc u) (omega arith) h

      positive : (n : ℤ) → P n → unsigned_abs n ≡ suc m → n ≤ℤ negsuc m
      positive (pos u) h same = absurd (above u (omega (arith, same)) h)
      positive (negsuc u) h same = omega (arith, ints, same)

  abs_neg : (t : ℕ) → unsigned_abs (neg_ℤ (pos t)) ≡ t
  abs_neg zero = refl
  abs_neg (suc t) = refl

  chosen : {above below : ℕ} (b : Bool) → nat_lt below above ≡ b → IsLeastFrom (λ u. P (pos u)) 0 above → IsLeastFrom (λ u. P (neg_ℤ (pos u))) 1 below
      → IsNearestFound P (if b then Some (neg_ℤ (pos below)) else Some (pos above))
  chosen {above} {below} true less up down =
      let nearer : below < above = ltb-true below above less in (
        below_nearest down (λ u small h. let not_less = up.least u (omega arith) h in absurd (omega arith)),
        let to = down.to in omega (arith, abs_neg below),
      )
  chosen {above} {below} false less up down =
      let nearer : above ≤ below = ltb-false below above less in (
        above_nearest up (λ u some small closer h. let not_less = down.least u some h in absurd (omega arith)),
        up.to,
      )

  pub nearest_found : (above below : Option ℕ) → IsLeastOf (λ t. P (pos t)) 0 above → IsLeastOf (λ t. P (neg_ℤ (pos t))) 1 below → IsNearestFound P (nearer_of above below)
  nearest_found None None up down = none_far up down
  nearest_found (Some t) None up down = (above_nearest up (λ u some small closer h. down u some small h), up.to)
  nearest_found None (Some t) up down =
      (below_nearest down (λ u small h. let to = down.to in up u (omega arith) (omega arith) h), let to = down.to in omega (arith, abs_neg t))
  nearest_found (Some t) (Some u) up down = chosen (nat_lt u t) refl up down
