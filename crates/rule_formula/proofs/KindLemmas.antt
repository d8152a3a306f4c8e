-- How the rays of a kind bear.
use Rattle.std.proofs.Common.{◌≡◌, ◌↔◌, ℕ, zero, suc, ◌<◌, ◌∙◌, ℤ, pos, negsuc, ◌+ℤ◌, ◌*ℤ◌, ◌-ℤ◌, unsigned_abs, Bool, true, false, Option, Some, None, inl, inr, refl, subst, sym, ap, arith}
use Rattle.std.specs.Prelude.{IfSome}
use Rattle.std.proofs.lemmas.Int.{ints}
use Rattle.game_rules.specs.declared.men.Kind.{Kind}
use Rattle.game_rules.specs.declared.men.Kind.TheVariants.{King, Queen, Rook, Bishop, Knight, Pawn, Chancellor, Archbishop, Amazon, Nightrider}
use Rattle.game_rules.specs.declared.men.Side.{Side}
use Rattle.game_rules.specs.declared.men.Side.TheVariants.{White, Black}
use Rattle.game_rules.specs.declared.men.Square.{Square}
use Rattle.game_rules.specs.Game.{after_steps, forward, IsBetween, IsDirection}
use Rattle.game_laws.specs.Reach.{HasReach}
use Rattle.game_laws.proofs.LineLemmas.{direction_small_x, direction_small_y, steps_distance, steps_toward_x, steps_toward_y}
use Rattle.game_rules.specs.declared.men.Ray.{Ray}
use Rattle.game_rules.specs.Rays.{leap, ray_of, serves_captures, slide}
use Rattle.game_laws.proofs.TableLemmas.{ray_is as table_ray}
use Rattle.rule_formula.specs.Paths.{IsRayStep}
use Rattle.rule_formula.proofs.RayLemmas.{LiesOn, IsSteps, IsFair, IsWithin, Sign, far, near, num, small_sign, square_at}

-- what holds of ray number n of a kind
pub record IsRayOf (s : Side) (k : Kind) (n : ℕ) (r : Ray) : Type 0 where
  pub is_ray : ray_of k s n ≡ Some r
  pub fair : IsFair r
  pub piece : r.far ≡ true → k ≡ Pawn → ⊥
  pub reaches : serves_captures k n ≡ true → (t : ℕ) → 0 < t → (r.far ≡ false → t ≡ 1) → HasReach s k (pos t *ℤ r.dx) (pos t *ℤ r.dy)
  pub quiet : serves_captures k n ≡ false → r ≡ leap (pos 0) (forward s)

-- only the pawn's first ray does not serve captures
quiet_is : (s : Side) (k : Kind) (n : ℕ) (r : Ray) → ray_of k s n ≡ Some r → serves_captures k n ≡ false → r ≡ leap (pos 0) (forward s)
quiet_is s King n r is quiet = absurd (cc)
quiet_is s Queen n r is quiet = absurd (cc)
quiet_is s Rook n r is quiet = absurd (cc)
quiet_is s Bishop n r is quiet = absurd (cc)
quiet_is s Knight n r is quiet = absurd (cc)
quiet_is s Chancellor n r is quiet = absurd (cc)
quiet_is s Archbishop n r is quiet = absurd (cc)
quiet_is s Amazon n r is quiet = absurd (cc)
quiet_is s Nightrider n r is quiet = absurd (cc)
quiet_is White Pawn zero r is quiet = cc
quiet_is Black Pawn zero r is quiet = cc
quiet_is s Pawn (suc n) r is quiet = absurd (cc)

-- a pawn's rays are not far
near_far : (q r : Ray) → q ≡ r → q.far ≡ false → r.far ≡ true → ⊥
near_far q r same close away = cc

pawn_near : (s : Side) (n : ℕ) (r : Ray) → ray_of Pawn s n ≡ Some r → r.far ≡ true → ⊥
pawn_near s zero r is away = let same : leap (pos 0) (forward s) ≡ r = cc in near_far (leap (pos 0) (forward s)) r same refl away
pawn_near s (suc zero) r is away = let same : leap (negsuc 0) (forward s) ≡ r = cc in near_far (leap (negsuc 0) (forward s)) r same refl away
pawn_near s (suc (suc zero)) r is away = let same : leap (pos 1) (forward s) ≡ r = cc in near_far (leap (pos 1) (forward s)) r same refl away
pawn_near s (suc (suc (suc n))) r is away = absurd (cc)

-- a direction moves
direction_moves : {dx dy : ℤ} → IsDirection dx dy → dx ≡ pos 0 → dy ≡ pos 0 → ⊥
direction_moves (inl h) across along = omega (arith, h.0, ap unsigned_abs across)
direction_moves (inr h) across along = omega (arith, h.0, ap unsigned_abs along)

fair_is : (b : Bool) (dx dy : ℤ) → IsDirection dx dy → IsFair (record { dx = dx; dy = dy; far = b })
fair_is true dx dy direction =
    let (x, is_x) = small_sign dx (direction_small_x dx dy direction) in
    let (y, is_y) = small_sign dy (direction_small_y dx dy direction) in
    let some : IsDirection (num x) (num y) = subst (λ d. IsDirection (num x) d) is_y (subst (λ d. IsDirection d dy) is_x direction) in
    subst (λ d. IsFair (slide dx d)) (sym is_y) (subst (λ d. IsFair (slide d (num y))) (sym is_x) (far x y some))
fair_is false dx dy direction = near dx dy (direction_moves direction)

-- each ray of the table is as its kind wants it
pub ray_is : (s : Side) (k : Kind) (n : ℕ) (r : Ray) → ray_of k s n ≡ Some r → IsRayOf s k n r
ray_is s k n r is =
    let table = table_ray s k n r is in
    record {
      is_ray = is;
      fair = fair_is r.far r.dx r.dy table.direction;
      piece = λ away pawn. pawn_near s n r (subst (λ k. ray_of k s n ≡ Some r) pawn is) away;
      reaches = λ serves t low one. table.reaches serves t (omega (arith, low)) one;
      quiet = quiet_is s k n r is;
    }

pub offset_is : (a b : ℤ) (m : ℤ) → b ≡ a +ℤ m → b -ℤ a ≡ m
offset_is a b m h = omega (arith, ints)

-- a man reaches what lies on his ray
pub reach_along : {s : Side} {k : Kind} {n : ℕ} {r : Ray} {a b : Square} → IsRayOf s k n r → serves_captures k n ≡ true → LiesOn r a b → HasReach s k (b.x -ℤ a.x) (b.y -ℤ a.y)
reach_along {s} {k} {r} {a} {b} is serves w =
    subst (λ d. HasReach s k d (b.y -ℤ a.y)) (sym (offset_is a.x b.x (pos w.distance *ℤ r.dx) w.steps.right))
    (subst (λ d. HasReach s k (pos w.distance *ℤ r.dx) d) (sym (offset_is a.y b.y (pos w.distance *ℤ r.dy) w.steps.up)) (is.reaches serves w.distance w.positive w.near))

-- where b lies t steps along a slide, to be strictly between is to be fewer steps along it
pub between_is : (x y : Sign) → IsDirection (num x) (num y) → {a b : Square} (z : Square) {t : ℕ} → 0 < t → IsSteps (slide (num x) (num y)) a b t
    → IsBetween a b z ↔ IsWithin (slide (num x) (num y)) a z t
between_is x y some {a} {b} z {t} low steps = (
  λ h.
      let there : b ≡ after_steps a t (num x) (num y) = square_at b (after_steps a t (num x) (num y)) steps.right steps.up in
      let some_steps : 0 < h.whole = omega (arith, h.begun, h.fewer) in
      let is_x : h.dx ≡ num x = sym (steps_toward_x a b h.dx h.dy h.direction h.whole h.to_b some_steps) ∙ steps_toward_x a b (num x) (num y) some t there low in
      let is_y : h.dy ≡ num y = sym (steps_toward_y a b h.dx h.dy h.direction h.whole h.to_b some_steps) ∙ steps_toward_y a b (num x) (num y) some t there low in
      let same : h.whole ≡ t = sym (steps_distance a b h.dx h.dy h.direction h.whole h.to_b) ∙ steps_distance a b (num x) (num y) some t there in
      record {
        distance = h.part;
        positive = h.begun;
        before = subst (λ n. h.part < n) same h.fewer;
        steps = record {
          right = subst (λ d. z.x ≡ a.x +ℤ (pos h.part *ℤ d)) is_x (ap (λ (s : Square). s.x) h.to_z);
          up = subst (λ d. z.y ≡ a.y +ℤ (pos h.part *ℤ d)) is_y (ap (λ (s : Square). s.y) h.to_z);
        };
      },
  λ w.
      record {
        dx = num x;
        dy = num y;
        direction = some;
        whole = t;
        part = w.distance;
        begun = w.positive;
        fewer = w.before;
        to_b = square_at b (after_steps a t (num x) (num y)) steps.right steps.up;
        to_z = square_at z (after_steps a w.distance (num x) (num y)) w.steps.right w.steps.up;
      },
)

pub ray_step : (s : Side) (k : Kind) (n : ℕ) (r : Ray) → ray_of k s n ≡ Some r → IsRayStep r.dx r.dy
ray_step s k n r is =
    let direction : IsDirection r.dx r.dy = (table_ray s k n r is).direction in
    record { short_right = direction_small_x r.dx r.dy direction; short_up = direction_small_y r.dx r.dy direction; one = other r.dx r.dy direction }
  where
    other : (dx dy : ℤ) → IsDirection dx dy → (unsigned_abs dx ≡ 1 → ⊥) → unsigned_abs dy ≡ 1
    other dx dy (inl h) off = absurd (off h.0)
    other dx dy (inr h) off = h.0

pub ray_directs : (s : Side) (k : Kind) (n : ℕ) (o : Option Ray) → o ≡ ray_of k s n → IfSome o (λ r. IsRayStep r.dx r.dy)
ray_directs s k n None e = tt
ray_directs s k n (Some r) e = ray_step s k n r (sym e)

pub ruleset moving = (ray_directs)
