-- Each ray of the table has a small step.
use Rattle.std.proofs.Common.{◌≡◌, ◌+◌, ◌≤◌, ℕ, Some, unsigned_abs, ◌⊎◌, inl, inr, sym, arith}
use Rattle.game_rules.specs.declared.men.Kind.{Kind}
use Rattle.game_rules.specs.declared.men.Ray.{Ray}
use Rattle.game_rules.specs.declared.men.Side.{Side}
use Rattle.game_rules.specs.Rays.{ray_of}
use Rattle.rule_formula.specs.Paths.{IsRayStep}
use Rattle.rule_formula.proofs.KindLemmas.{ray_step}
use Rattle.line_formula.specs.Small.{IsSmallRay}

-- of two numbers one is 1, if the other is not
sum_small : (m n : ℕ) → m ≤ 2 → n ≤ 2 → ((m ≡ 1 → ⊥) → n ≡ 1) → m + n ≤ 3
sum_small m n low high one =
    elim (one_or_not m) [ inl is ↦ omega (arith, is, high) | inr not ↦ let is = one not in omega (arith, is, low) ]
  where
    one_or_not : (m : ℕ) → (m ≡ 1) ⊎ (m ≡ 1 → ⊥)
    one_or_not m = grind arith

-- the ray that was found has one
pub small_ray : (k : Kind) (s : Side) (n : ℕ) (r : Ray) → Some r ≡ ray_of k s n → IsSmallRay r
small_ray k s n r is =
    let step : IsRayStep r.dx r.dy = ray_step s k n r (sym is) in
    record {
      right = step.short_right;
      up = step.short_up;
      both = sum_small (unsigned_abs r.dx) (unsigned_abs r.dy) step.short_right step.short_up step.one;
    }
