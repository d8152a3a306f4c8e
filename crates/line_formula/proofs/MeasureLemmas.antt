-- What line and measure say of squares. A ray of which one step is by one to a side, or up or down, is enough: no kind of man is spoken of.
use Rattle.std.proofs.Common.{◌≡◌, ◌⊎◌, ℕ, ◌<◌, Bool, true, false, ℤ, pos, negsuc, neg_ℤ, ◌+ℤ◌, ◌-ℤ◌, ◌*ℤ◌, unsigned_abs, inl, inr, refl, sym, ap, ◌∙◌, subst, arith}
use Rattle.std.specs.Prelude.{◌≤ℤ◌, ◌==◌}
use Rattle.std.proofs.lemmas.Int.{ints}
use Rattle.std.proofs.Math.IntN.{*ℤ_comm}
use Rattle.std.proofs.lemmas.Bool.Decides.{nat_tests}
use Rattle.game_rules.specs.declared.men.Ray.{Ray}
use Rattle.game_rules.specs.declared.men.Square.{Square}
use Rattle.auto_core.proofs.Products.{mul-neg}
use Rattle.game_rules.specs.Game.{IsDirection}
use Rattle.game_rules.specs.Rays.{slide}
use Rattle.rule_formula.proofs.RayLemmas.{IsFair, IsSteps, far, near, num}
use Rattle.line_formula.specs.declared.gap.Gap.{Gap}
use Rattle.line_formula.specs.Atoms.{weighed}
use Rattle.line_formula.specs.Rules.{measure, measure_by, off_line, opposite}
use Rattle.line_formula.proofs.Numbers.{mul-assoc, mul-sub}

-- one step goes by one to the right or left, or up or down
pub data IsMeasured (r : Ray) : Type 0 where
  sideways : (r.dx ≡ pos 1) ⊎ (r.dx ≡ negsuc 0) → IsMeasured r
  upwards : (r.dy ≡ pos 1) ⊎ (r.dy ≡ negsuc 0) → IsMeasured r

-- so does each far ray of the table
pub far_measured : {r : Ray} → IsFair r → r.far ≡ true → IsMeasured r
far_measured (far x y direction) is = by (num x) (num y) direction
  where
    unit : (d : ℤ) → unsigned_abs d ≡ 1 → (d ≡ pos 1) ⊎ (d ≡ negsuc 0)
    unit (pos n) e = let is : n ≡ 1 = e in inl (ap pos is)
    unit (negsuc n) e = let is : n ≡ 0 = omega (arith, e) in inr (ap negsuc is)

    by : (dx dy : ℤ) → IsDirection dx dy → IsMeasured (slide dx dy)
    by dx dy (inl h) = sideways (unit dx h.0)
    by dx dy (inr h) = upwards (unit dy h.0)
far_measured (near dx dy some) is = absurd (cc)

-- b is m times the step away from a
pub record IsMeasure (r : Ray) (a b : Square) (m : ℤ) : Type 0 where
  pub right : b.x ≡ a.x +ℤ (m *ℤ r.dx)
  pub up : b.y ≡ a.y +ℤ (m *ℤ r.dy)

pub one-times : (x : ℤ) → pos 1 *ℤ x ≡ x
one-times x = omega (arith, ints)

pub neg-times : (c x : ℤ) → neg_ℤ c *ℤ x ≡ neg_ℤ (c *ℤ x)
neg-times c x = *ℤ_comm (neg_ℤ c) x ∙ mul-neg x c ∙ ap neg_ℤ (*ℤ_comm x c)

pub opposite-weighed : (g : Gap) (a b : Square) → weighed (opposite g) a b ≡ neg_ℤ (weighed g a b)
opposite-weighed g a b =
    let x = neg-times g.right (b.x -ℤ a.x) in
    let y = neg-times g.up (b.y -ℤ a.y) in
    omega (arith, ints, x, y)

-- along one axis: where the step is by one, the line gives the other coordinate
unit-line : (d e x y : ℤ) → (d ≡ pos 1) ⊎ (d ≡ negsuc 0) → (e *ℤ x) +ℤ (neg_ℤ d *ℤ y) ≡ pos 0 → (x ≡ (d *ℤ x) *ℤ d) × (y ≡ (d *ℤ x) *ℤ e)
unit-line d e x y (inl one) h =
    let dx : d *ℤ x ≡ x = ap (λ n. n *ℤ x) one ∙ one-times x in
    let dy : neg_ℤ d *ℤ y ≡ neg_ℤ y = neg-times d y ∙ ap neg_ℤ (ap (λ n. n *ℤ y) one ∙ one-times y) in
    let first : (d *ℤ x) *ℤ d ≡ x = ap (λ n. n *ℤ d) dx ∙ ap (λ n. x *ℤ n) one ∙ *ℤ_comm x (pos 1) ∙ one-times x in
    let second : (d *ℤ x) *ℤ e ≡ e *ℤ x = ap (λ n. n *ℤ e) dx ∙ *ℤ_comm x e in
    (omega (arith, ints, first), omega (arith, ints, second, h, dy))
unit-line d e x y (inr one) h =
    let minus : (z : ℤ) → d *ℤ z ≡ neg_ℤ z = λ z. ap (λ n. n *ℤ z) one ∙ neg-times (pos 1) z ∙ ap neg_ℤ (one-times z) in
    let dy : neg_ℤ d *ℤ y ≡ y = neg-times d y ∙ ap neg_ℤ (minus y) ∙ (let back : neg_ℤ (neg_ℤ y) ≡ y = omega (arith, ints) in back) in
    let first : (d *ℤ x) *ℤ d ≡ x = ap (λ n. n *ℤ d) (minus x) ∙ *ℤ_comm (neg_ℤ x) d ∙ minus (neg_ℤ x) ∙ (let back : neg_ℤ (neg_ℤ x) ≡ x = omega (arith, ints) in back) in
    let second : (d *ℤ x) *ℤ e ≡ neg_ℤ (e *ℤ x) = ap (λ n. n *ℤ e) (minus x) ∙ neg-times x e ∙ ap neg_ℤ (*ℤ_comm x e) in
    (omega (arith, ints, first), omega (arith, ints, second, h, dy))

-- and back
unit-times : (d m : ℤ) → (d ≡ pos 1) ⊎ (d ≡ negsuc 0) → d *ℤ (m *ℤ d) ≡ m
unit-times d m (inl one) = ap (λ n. n *ℤ (m *ℤ d)) one ∙ one-times (m *ℤ d) ∙ ap (λ n. m *ℤ n) one ∙ *ℤ_comm m (pos 1) ∙ one-times m
unit-times d m (inr one) =
    let minus : (z : ℤ) → d *ℤ z ≡ neg_ℤ z = λ z. ap (λ n. n *ℤ z) one ∙ neg-times (pos 1) z ∙ ap neg_ℤ (one-times z) in
    minus (m *ℤ d) ∙ ap neg_ℤ (*ℤ_comm m d ∙ minus m) ∙ (let back : neg_ℤ (neg_ℤ m) ≡ m = omega (arith, ints) in back)

crossed : (d e m : ℤ) → (e *ℤ (m *ℤ d)) +ℤ (neg_ℤ d *ℤ (m *ℤ e)) ≡ pos 0
crossed d e m =
    let one : e *ℤ (m *ℤ d) ≡ d *ℤ (m *ℤ e) = swap in
    let two = neg-times d (m *ℤ e) in
    omega (arith, ints, one, two)
  where
    swap : e *ℤ (m *ℤ d) ≡ d *ℤ (m *ℤ e)
    swap = sym (mul-assoc e m d) ∙ ap (λ n. n *ℤ d) (*ℤ_comm e m) ∙ *ℤ_comm (m *ℤ e) d

-- of which axis the measure is counted
by_axis : (r : Ray) (k l : ℕ) (P : Gap → Type 0) → ((r.dx ≡ pos 1) ⊎ (r.dx ≡ negsuc 0) → P (measure_by true r k l))
    → (((r.dx ≡ pos 1) ⊎ (r.dx ≡ negsuc 0) → ⊥) → P (measure_by false r k l)) → P (measure r k l)
by_axis r k l P one other = by (unsigned_abs r.dx == 1) refl
  where
    unit : (d : ℤ) → (unsigned_abs d == 1) ≡ true → (d ≡ pos 1) ⊎ (d ≡ negsuc 0)
    unit (pos n) e = let is : n ≡ 1 = grind (arith, nat_tests) in inl (ap pos is)
    unit (negsuc n) e = let is : n ≡ 0 = grind (arith, nat_tests) in inr (ap negsuc is)

    never : (d : ℤ) → (unsigned_abs d == 1) ≡ false → (d ≡ pos 1) ⊎ (d ≡ negsuc 0) → ⊥
    never d e (inl is) = let here : (unsigned_abs d == 1) ≡ true = ap (λ z. unsigned_abs z == 1) is in cc
    never d e (inr is) = let here : (unsigned_abs d == 1) ≡ true = ap (λ z. unsigned_abs z == 1) is in cc

    by : (b : Bool) → (unsigned_abs r.dx == 1) ≡ b → P (measure_by b r k l)
    by true e = one (unit r.dx e)
    by false e = other (never r.dx e)

-- on the line through a, b is as many steps away as the measure says
pub measured_from : {r : Ray} → IsMeasured r → (k l : ℕ) (a b : Square) → weighed (off_line r k l) a b ≡ pos 0 → IsMeasure r a b (weighed (measure r k l) a b)
measured_from {r} is k l a b on =
    by_axis r k l (λ g. IsMeasure r a b (weighed g a b))
    (λ unit.
    let w = unit-line r.dx r.dy (b.x -ℤ a.x) (b.y -ℤ a.y) unit on in
    let m : weighed (measure_by true r k l) a b ≡ r.dx *ℤ (b.x -ℤ a.x) = omega (arith, ints) in
    let At : ℤ → Type 0 = λ n. IsMeasure r a b n in
    subst At (sym m) (record { right = omega (arith, ints, w.0); up = omega (arith, ints, w.1) }))
    (λ other.
    let unit = up_unit is other in
    let turned : (r.dx *ℤ (b.y -ℤ a.y)) +ℤ (neg_ℤ r.dy *ℤ (b.x -ℤ a.x)) ≡ pos 0 = turn r.dx r.dy (b.x -ℤ a.x) (b.y -ℤ a.y) on in
    let w = unit-line r.dy r.dx (b.y -ℤ a.y) (b.x -ℤ a.x) unit turned in
    let m : weighed (measure_by false r k l) a b ≡ r.dy *ℤ (b.y -ℤ a.y) = omega (arith, ints) in
    let At : ℤ → Type 0 = λ n. IsMeasure r a b n in
    subst At (sym m) (record { right = omega (arith, ints, w.1); up = omega (arith, ints, w.0) }))
  where
    up_unit : IsMeasured r → ((r.dx ≡ pos 1) ⊎ (r.dx ≡ negsuc 0) → ⊥) → (r.dy ≡ pos 1) ⊎ (r.dy ≡ negsuc 0)
    up_unit (sideways unit) other = absurd (other unit)
    up_unit (upwards unit) other = unit

    turn : (d e x y : ℤ) → (e *ℤ x) +ℤ (neg_ℤ d *ℤ y) ≡ pos 0 → (d *ℤ y) +ℤ (neg_ℤ e *ℤ x) ≡ pos 0
    turn d e x y h =
        let s = neg-times d y in
        let t = neg-times e x in
        omega (arith, ints, s, t, h)

-- and back
pub measured_to : {r : Ray} → IsMeasured r → (k l : ℕ) (a b : Square) (m : ℤ) → IsMeasure r a b m
    → (weighed (off_line r k l) a b ≡ pos 0) × (weighed (measure r k l) a b ≡ m)
measured_to {r} is k l a b m h =
    let x : b.x -ℤ a.x ≡ m *ℤ r.dx = omega (arith, ints, h.right) in
    let y : b.y -ℤ a.y ≡ m *ℤ r.dy = omega (arith, ints, h.up) in
    let line : weighed (off_line r k l) a b ≡ pos 0 =
    ap (λ z. (r.dy *ℤ z) +ℤ (neg_ℤ r.dx *ℤ (b.y -ℤ a.y))) x ∙ ap (λ z. (r.dy *ℤ (m *ℤ r.dx)) +ℤ (neg_ℤ r.dx *ℤ z)) y ∙ crossed r.dx r.dy m in (
      line,
      by_axis r k l (λ g. weighed g a b ≡ m)
          (λ unit.
          let w = ap (λ z. r.dx *ℤ z) x ∙ unit-times r.dx m unit in
          omega (arith, ints, w))
          (λ other.
          let w = ap (λ z. r.dy *ℤ z) y ∙ unit-times r.dy m (up_unit is other) in
          omega (arith, ints, w)),
    )
  where
    up_unit : IsMeasured r → ((r.dx ≡ pos 1) ⊎ (r.dx ≡ negsuc 0) → ⊥) → (r.dy ≡ pos 1) ⊎ (r.dy ≡ negsuc 0)
    up_unit (sideways unit) other = absurd (other unit)
    up_unit (upwards unit) other = unit

-- a positive measure is a number of steps
pub positive : (m : ℤ) → neg_ℤ m ≤ℤ negsuc 0 → (t : ℕ) × (0 < t) × (m ≡ pos t)
positive m h = (unsigned_abs m, grind (arith, ints), grind (arith, ints))

pub steps_measure : {r : Ray} {a b : Square} {t : ℕ} → IsSteps r a b t → IsMeasure r a b (pos t)
steps_measure h = record { right = h.right; up = h.up }

pub measure_steps : {r : Ray} {a b : Square} {m : ℤ} (t : ℕ) → m ≡ pos t → IsMeasure r a b m → IsSteps r a b t
measure_steps {r} {a} {b} t is h =
    let k : IsMeasure r a b (pos t) = subst (IsMeasure r a b) is h in record { right = k.right; up = k.up }

-- from the one to the other of two squares on one line
pub between_measure : {r : Ray} {a b c : Square} {s t : ℤ} → IsMeasure r a b s → IsMeasure r a c t → IsMeasure r b c (t -ℤ s)
between_measure {r} {a} {b} {c} {s} {t} h k =
    let apart : (d : ℤ) → (t -ℤ s) *ℤ d ≡ (t *ℤ d) -ℤ (s *ℤ d) = λ d.
    let u = *ℤ_comm (t -ℤ s) d ∙ mul-sub d t s in
    let v = *ℤ_comm d t in
    let w = *ℤ_comm d s in
    omega (arith, ints, u, v, w)
    in
    let x = apart r.dx in
    let y = apart r.dy in
    record { right = omega (arith, ints, x, h.right, k.right); up = omega (arith, ints, y, h.up, k.up) }
