-- Lemmas on offsets and on equal steps.
use Rattle.std.proofs.Common.{◌≡◌, ℕ, ◌<◌, ◌*◌, ℤ, pos, ◌+ℤ◌, ◌*ℤ◌, unsigned_abs, ◌-ℤ◌, ap, subst, sym, ◌∙◌, arith}
use Rattle.std.specs.Prelude.{◌<ℤ◌}
use Rattle.std.proofs.lemmas.Int.{ints}
use Rattle.game_rules.specs.Game.{IsBetween, IsDirection, after_steps}
use Rattle.game_rules.specs.declared.men.Square.{Square}
use Rattle.game_laws.proofs.LineLemmas.{direction_turned, far_steps, square_is, step_direction, step_steps}
use Rattle.game_laws.specs.Answer.{step_toward, steps_of}
use Rattle.chess_game.specs.Offsets.{IsPart, IsTimes}

pub times_is : {dx dy ox oy : ℤ} {t : ℕ} → IsDirection dx dy → IsTimes dx dy ox oy t → t ≡ steps_of (unsigned_abs ox) (unsigned_abs oy)
times_is {dx} {dy} {t} unit is = sym (rw (is.right, is.up) (far_steps dx dy unit t))

pub no_times : {dx dy ox oy : ℤ} (m : ℕ) {t : ℕ} → IsTimes dx dy ox oy t → IsDirection dx dy → m ≡ steps_of (unsigned_abs ox) (unsigned_abs oy) → (IsTimes dx dy ox oy m → ⊥) → ⊥
no_times {dx} {dy} {ox} {oy} m h unit is off =
    off (subst (IsTimes dx dy ox oy) (times_is unit h ∙ sym is) h)

-- the step toward a multiple of a direction is the direction
step_multiple : {dx dy ox oy : ℤ} {t : ℕ} → IsDirection dx dy → IsTimes dx dy ox oy t → (step_toward ox oy ≡ dx) × (step_toward oy ox ≡ dy)
step_multiple {dx} {dy} {t} d h = (
  rw (h.right, h.up) (step_steps dx dy d t h.positive),
  rw (h.right, h.up) (step_steps dy dx (direction_turned dx dy d) t h.positive),
)

-- the two tests with the first step toward the whole tell of a part
pub part_from : {ox oy ex ey ux uy : ℤ} (s t : ℕ) → ux ≡ step_toward ox oy → uy ≡ step_toward oy ox → s ≡ steps_of (unsigned_abs ox) (unsigned_abs oy) → t < s
    → IsTimes ux uy ox oy s → IsTimes ux uy ex ey t → IsPart ox oy ex ey
part_from {ox} {oy} {ux} {uy} s t is_x is_y is fewer whole part =
    record {
      dx = ux;
      dy = uy;
      direction = rw (is_x, is_y) (step_direction ox oy (omega (arith, is, fewer)));
      whole = s;
      part = t;
      fewer = fewer;
      to_whole = whole;
      to_part = part;
    }

-- a part passes the two tests
pub part_unit : (ox oy ex ey ux uy : ℤ) (s t : ℕ) → ux ≡ step_toward ox oy → uy ≡ step_toward oy ox → s ≡ steps_of (unsigned_abs ox) (unsigned_abs oy)
    → t ≡ steps_of (unsigned_abs ex) (unsigned_abs ey) → IsPart ox oy ex ey → (t < s) × IsTimes ux uy ox oy s × IsTimes ux uy ex ey t
part_unit ox oy ex ey ux uy s t is_x is_y is_s is_t h =
    let steps = step_multiple h.direction h.to_whole in
    let same_x : h.dx ≡ ux = sym steps.0 ∙ sym is_x in
    let same_y : h.dy ≡ uy = sym steps.1 ∙ sym is_y in
    let same_s : h.whole ≡ s = times_is h.direction h.to_whole ∙ sym is_s in
    let same_t : h.part ≡ t = times_is h.direction h.to_part ∙ sym is_t in
    let whole : IsTimes ux uy ox oy s =
    subst (λ n. IsTimes ux uy ox oy n) same_s (subst (λ d. IsTimes ux d ox oy h.whole) same_y (subst (λ d. IsTimes d h.dy ox oy h.whole) same_x h.to_whole)) in
    let part : IsTimes ux uy ex ey t =
    subst (λ n. IsTimes ux uy ex ey n) same_t (subst (λ d. IsTimes ux d ex ey h.part) same_y (subst (λ d. IsTimes d h.dy ex ey h.part) same_x h.to_part)) in
    let fewer : h.part < h.whole = h.fewer in
    (omega arith, whole, part)

pub z_from : (o z a : ℤ) (t : ℕ) (d : ℤ) → o ≡ z -ℤ a → o ≡ pos t *ℤ d → z ≡ a +ℤ (pos t *ℤ d)
z_from o z a t d is times = rw (← times) (omega (arith, ints))

pub z_to : (o z a : ℤ) (t : ℕ) (d : ℤ) → o ≡ z -ℤ a → z ≡ a +ℤ (pos t *ℤ d) → o ≡ pos t *ℤ d
z_to o z a t d is times = let m : ℤ = pos t *ℤ d in let far : z ≡ a +ℤ m = times in let goal : o ≡ m = omega (arith, ints) in goal

-- so many steps lead to the square where the offset is so many times the step
pub times_to : (a z : Square) (dx dy ox oy : ℤ) (t : ℕ) → ox ≡ z.x -ℤ a.x → oy ≡ z.y -ℤ a.y → 0 < t → z ≡ after_steps a t dx dy → IsTimes dx dy ox oy t
times_to a z dx dy ox oy t x y positive same =
    record { positive = positive; right = z_to ox z.x a.x t dx x (ap (λ b. b.x) same); up = z_to oy z.y a.y t dy y (ap (λ b. b.y) same) }

pub times_from : (a z : Square) {dx dy ox oy : ℤ} {t : ℕ} → ox ≡ z.x -ℤ a.x → oy ≡ z.y -ℤ a.y → IsTimes dx dy ox oy t → z ≡ after_steps a t dx dy
times_from a z {dx} {dy} {ox} {oy} {t} x y h =
    square_is z (a.x +ℤ (pos t *ℤ dx)) (a.y +ℤ (pos t *ℤ dy)) (z_from ox z.x a.x t dx x h.right) (z_from oy z.y a.y t dy y h.up)

-- between, by offsets
pub between_part : (a b z : Square) (ox oy ex ey : ℤ) → ox ≡ b.x -ℤ a.x → oy ≡ b.y -ℤ a.y → ex ≡ z.x -ℤ a.x → ey ≡ z.y -ℤ a.y → IsBetween a b z → IsPart ox oy ex ey
between_part a b z ox oy ex ey is_ox is_oy is_ex is_ey h =
    let begun : 0 < h.part = h.begun in
    let fewer : h.part < h.whole = h.fewer in
    record {
      dx = h.dx;
      dy = h.dy;
      direction = h.direction;
      whole = h.whole;
      part = h.part;
      fewer = h.fewer;
      to_whole = times_to a b h.dx h.dy ox oy h.whole is_ox is_oy (omega arith) h.to_b;
      to_part = times_to a z h.dx h.dy ex ey h.part is_ex is_ey h.begun h.to_z;
    }

pub part_between : (a b z : Square) {ox oy ex ey : ℤ} → ox ≡ b.x -ℤ a.x → oy ≡ b.y -ℤ a.y → ex ≡ z.x -ℤ a.x → ey ≡ z.y -ℤ a.y → IsPart ox oy ex ey → IsBetween a b z
part_between a b z is_ox is_oy is_ex is_ey h =
    record {
      dx = h.dx;
      dy = h.dy;
      direction = h.direction;
      whole = h.whole;
      part = h.part;
      begun = h.to_part.positive;
      fewer = h.fewer;
      to_b = times_from a b is_ox is_oy h.to_whole;
      to_z = times_from a z is_ex is_ey h.to_part;
    }
