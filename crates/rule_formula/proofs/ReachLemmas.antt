-- Each square that a man reaches lies on one of his rays.
use Rattle.std.proofs.Common.{◌≡◌, ℕ, ℤ, ◌+ℤ◌, true, Some, ap, ◌∙◌, arith}
use Rattle.game_rules.specs.declared.men.Kind.{Kind}
use Rattle.game_rules.specs.declared.men.Side.{Side}
use Rattle.game_rules.specs.declared.men.Square.{Square}
use Rattle.game_laws.specs.Reach.{HasReach}
use Rattle.game_rules.specs.declared.men.Ray.{Ray}
use Rattle.game_rules.specs.Rays.{ray_of, serves_captures}
use Rattle.game_laws.proofs.TableLemmas.{reached}
use Rattle.rule_formula.proofs.RayLemmas.{LiesOn}

-- a ray of captures leads from a to z
pub record IsRayTo (k : Kind) (s : Side) (a z : Square) : Type 0 where
  pub number : ℕ
  pub ray : Ray
  pub is_ray : ray_of k s number ≡ Some ray
  pub serves : serves_captures k number ≡ true
  pub along : LiesOn ray a z

-- what he reaches lies on a ray
pub ray_to : (k : Kind) (s : Side) (a z : Square) (dx dy : ℤ) → z.x ≡ a.x +ℤ dx → z.y ≡ a.y +ℤ dy → HasReach s k dx dy → IsRayTo k s a z
ray_to k s a z dx dy ex ey h =
    let w = reached s k dx dy h in
    record {
      number = w.number;
      ray = w.ray;
      is_ray = w.is_ray;
      serves = w.serves;
      along = record {
        distance = w.times;
        positive = omega (arith, w.begun);
        near = w.one;
        steps = record { right = ex ∙ ap (λ d. a.x +ℤ d) w.right; up = ey ∙ ap (λ d. a.y +ℤ d) w.up };
      };
    }
