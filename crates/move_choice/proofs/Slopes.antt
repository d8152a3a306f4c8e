-- The steps of the rays are short.
use Rattle.std.proofs.Common.{◌≡◌, ◌≤◌, ℕ, ℤ, pos, negsuc, unsigned_abs, Some, arith, subst, sym, to_z, of_z, SFits}
use Rattle.std.specs.Int.{w8}
use Rattle.std.proofs.lemmas.Int.{ints, to_z-of_z}
use Rattle.auto_search.specs.TupleRay.{IsSlope}
use Rattle.game_rules.specs.declared.men.Kind.{Kind}
use Rattle.game_rules.specs.declared.men.Ray.{Ray}
use Rattle.game_rules.specs.declared.men.Side.{Side}
use Rattle.game_rules.specs.Game.{IsDirection}
use Rattle.game_rules.specs.Rays.{ray_of}
use Rattle.game_laws.proofs.LineLemmas.{direction_small_x, direction_small_y}
use Rattle.game_laws.proofs.TableLemmas.{ray_is}

pub record AreShort (r : Ray) : Type 0 where
  pub x : IsSlope r.dx
  pub y : IsSlope r.dy

-- a step of at most two is short
small_slope : (d : ℤ) → unsigned_abs d ≤ 2 → IsSlope d
small_slope d h = (omega (arith, ints, h), omega (arith, ints, h))

pub ray_slopes : (k : Kind) (s : Side) (n : ℕ) (r : Ray) → ray_of k s n ≡ Some r → AreShort r
ray_slopes k s n r is =
    let d : IsDirection r.dx r.dy = (ray_is s k n r is).direction in
    record { x = small_slope r.dx (direction_small_x r.dx r.dy d); y = small_slope r.dy (direction_small_y r.dx r.dy d) }

slope_fits : (d : ℤ) → IsSlope d → SFits w8 d
slope_fits (pos n) h = omega (arith, ints, h.0, h.1)
slope_fits (negsuc n) h = omega (arith, ints, h.0, h.1)

-- as an argument is passed
pub slope_same : (d : ℤ) → IsSlope d → to_z w8 (of_z w8 d) ≡ d
slope_same d h = to_z-of_z w8 d (slope_fits d h)

pub slope_passed : (d : ℤ) → IsSlope d → IsSlope (to_z w8 (of_z w8 d))
slope_passed d h = subst IsSlope (sym (slope_same d h)) h
