-- The formulas line, ahead and bear say that a man stands, or bears, along a ray.
use Rattle.std.proofs.Common.{◌≡◌, ◌↔◌, ℕ, ◌<◌, ◌≤◌, Bool, true, false, List, length, ℤ, pos, negsuc, neg_ℤ, ◌+ℤ◌, ◌-ℤ◌, inl, inr, refl, sym, ap, subst, arith}
use Rattle.std.specs.Prelude.{◌≤ℤ◌}
use Rattle.std.proofs.lemmas.Int.{ints}
use Rattle.game_rules.specs.declared.men.Man.{Man}
use Rattle.game_rules.specs.declared.men.Ray.{Ray}
use Rattle.game_rules.specs.declared.men.Square.{Square}
use Rattle.game_laws.proofs.RayLemmas.{true_or_not}
use Rattle.track_word.specs.Tracks.{Values}
use Rattle.track_word.specs.declared.atoms.Rel.TheVariants.{Le, Eq}
use Rattle.lin_formula.specs.Holds.{Holds, Sets}
use Rattle.lin_formula.specs.Tree.{And}
use Rattle.rule_formula.specs.Trees.{clear}
use Rattle.rule_formula.proofs.ChainLemmas.{clear_holds}
use Rattle.rule_formula.proofs.FormulaLemmas.{SeesAlong, each_other}
use Rattle.rule_formula.proofs.RayLemmas.{IsFair, IsSteps, IsWithin, LiesOn, one_step}
use Rattle.line_formula.specs.declared.leg.Leg.{Leg}
use Rattle.line_formula.specs.Atoms.{weighed}
use Rattle.line_formula.specs.Places.{place}
use Rattle.line_formula.specs.Rules.{across, ahead, apart_by, bear, bear_as, line, measure, off_line, opposite, screens, upward}
use Rattle.line_formula.proofs.MeasureLemmas.{IsMeasured, between_measure, far_measured, measure_steps, measured_from, measured_to, opposite-weighed, positive, steps_measure}
use Rattle.line_formula.proofs.PlaceLemmas.{gap_holds}

module _ (home : ℕ → Square) (legs : List Leg) (few : length legs ≤ 16) (e : Sets) (v : Values) where
  -- b is ahead of a on the line: so many steps away
  pub line_from : {r : Ray} → IsMeasured r → (a b : ℕ) → Holds (line home legs r a b) e v → Holds (ahead home legs r a b) e v
      → (t : ℕ) × (0 < t) × IsSteps r (place home legs v a) (place home legs v b) t × (weighed (measure r a b) (place home legs v a) (place home legs v b) ≡ pos t)
  line_from {r} is a b on after =
      let zero_off = (gap_holds home legs (off_line r a b) Eq (pos 0) e v few).0 on in
      let m : ℤ = weighed (measure r a b) (place home legs v a) (place home legs v b) in
      let least = (gap_holds home legs (opposite (measure r a b)) Le (negsuc 0) e v few).0 after in
      let back = opposite-weighed (measure r a b) (place home legs v a) (place home legs v b) in
      let low : neg_ℤ m ≤ℤ negsuc 0 = subst (λ (z : ℤ). z ≤ℤ negsuc 0) back least in
      let (t, some, whole) = positive m low in
      (t, some, measure_steps t whole (measured_from is a b (place home legs v a) (place home legs v b) zero_off), whole)

  pub line_to : {r : Ray} → IsMeasured r → (a b : ℕ) {t : ℕ} → 0 < t → IsSteps r (place home legs v a) (place home legs v b) t
      → Holds (line home legs r a b) e v × Holds (ahead home legs r a b) e v
  line_to {r} is a b {t} some steps =
      let w = measured_to is a b (place home legs v a) (place home legs v b) (pos t) (steps_measure steps) in
      let back = opposite-weighed (measure r a b) (place home legs v a) (place home legs v b) in
      let low : weighed (opposite (measure r a b)) (place home legs v a) (place home legs v b) ≤ℤ negsuc 0 = omega (arith, ints, back, w.1, some) in (
        (gap_holds home legs (off_line r a b) Eq (pos 0) e v few).1 w.0,
        (gap_holds home legs (opposite (measure r a b)) Le (negsuc 0) e v few).1 low,
      )

  -- a man between two others on a ray
  pub screens_hold : {r : Ray} → IsMeasured r → (k g l : ℕ) {t : ℕ} → IsSteps r (place home legs v k) (place home legs v g) t
      → Holds (screens home legs r k g l) e v ↔ IsWithin r (place home legs v k) (place home legs v l) t
  screens_hold {r} is k g l {t} steps =
      let a = place home legs v k in
      let b = place home legs v l in
      let c = place home legs v g in
      let after = gap_holds home legs (opposite (measure r l g)) Le (negsuc 0) e v few in
      let back = opposite-weighed (measure r l g) b c in
      let rest : (s : ℕ) → IsSteps r a b s → weighed (measure r l g) b c ≡ pos t -ℤ pos s = λ s there.
      (measured_to is l g b c (pos t -ℤ pos s) (between_measure (steps_measure there) (steps_measure steps))).1
      in (
        λ h.
            let (s, some, there, whole) = line_from is k l h.0.0 h.0.1 in
            let left = rest s there in
            let low = after.0 h.1 in
            record { distance = s; positive = some; before = omega (arith, ints, left, low, back); steps = there },
        λ h.
            let first = line_to is k l h.positive h.steps in
            let left = rest h.distance h.steps in
            let less : h.distance < t = h.before in
            let low : weighed (opposite (measure r l g)) b c ≤ℤ negsuc 0 = omega (arith, ints, left, back, less) in
            (first, after.1 low),
      )

  -- b stands so far from a
  pub apart_holds : (a b : ℕ) (x y : ℤ) → Holds (apart_by home legs a b x y) e v
      ↔ (((place home legs v b).x ≡ (place home legs v a).x +ℤ x) × ((place home legs v b).y ≡ (place home legs v a).y +ℤ y))
  apart_holds a b x y =
      let right = gap_holds home legs (across a b) Eq x e v few in
      let up = gap_holds home legs (upward a b) Eq y e v few in (
        λ h.
            let one : weighed (across a b) (place home legs v a) (place home legs v b) ≡ x = right.0 h.0 in
            let two : weighed (upward a b) (place home legs v a) (place home legs v b) ≡ y = up.0 h.1 in
            (omega (arith, ints, one), omega (arith, ints, two)),
        λ h.
            let one : weighed (across a b) (place home legs v a) (place home legs v b) ≡ x = omega (arith, ints, h.0) in
            let two : weighed (upward a b) (place home legs v a) (place home legs v b) ≡ y = omega (arith, ints, h.1) in
            (right.1 one, up.1 two),
      )

  near_holds : {r : Ray} → r.far ≡ false → (k g : ℕ) → Holds (apart_by home legs k g r.dx r.dy) e v ↔ LiesOn r (place home legs v k) (place home legs v g)
  near_holds {r} near k g =
      let a = place home legs v k in
      let b = place home legs v g in
      let apart = apart_holds k g r.dx r.dy in (
        λ h.
            let w = apart.0 h in
            record { distance = 1; positive = omega arith; near = λ _. refl; steps = record { right = omega (arith, ints, w.0); up = omega (arith, ints, w.1) } },
        λ h. apart.1 (one_step a.x b.x r.dx h.distance (h.near near) h.steps.right, one_step a.y b.y r.dy h.distance (h.near near) h.steps.up),
      )

  bear_far : (stock : List Man) (d : Man) (live : ℕ → Bool) {r : Ray} → IsMeasured r → r.far ≡ true → (k g : ℕ)
      → Holds (bear home legs live (length stock) r k g) e v ↔ SeesAlong stock live k g r (place home legs v)
  bear_far stock d live {r} is far k g =
      let chain = clear_holds (And (line home legs r k g) (ahead home legs r k g)) (screens home legs r k g) live k g (length stock) e v in
      let each = each_other stock live k g (λ l. ¬ Holds (screens home legs r k g l) e v) d in
      let tree : bear home legs live (length stock) r k g ≡ clear (And (line home legs r k g) (ahead home legs r k g)) (screens home legs r k g) live k g (length stock) =
      ap (λ b. bear_as home b legs live (length stock) r k g) far in (
        λ h.
            let c = chain.0 (subst (λ t. Holds t e v) tree h) in
            let (t, some, steps, whole) = line_from is k g c.0.0 c.0.1 in
            let along : LiesOn r (place home legs v k) (place home legs v g) = record { distance = t; positive = some; near = λ near. absurd (cc); steps = steps } in
            (along, λ yes l m is_m on first second within. each.0 c.1 l m is_m on first second ((screens_hold is k g l steps).1 within)),
        λ h.
            let base = line_to is k g h.0.positive h.0.steps in
            subst (λ t. Holds t e v) (sym tree)
            (chain.1 (base, each.1 (λ l m is_m on first second screen. h.1 far l m is_m on first second ((screens_hold is k g l h.0.steps).0 screen)))),
      )

  bear_near : (stock : List Man) (live : ℕ → Bool) {r : Ray} → r.far ≡ false → (k g : ℕ)
      → Holds (bear home legs live (length stock) r k g) e v ↔ SeesAlong stock live k g r (place home legs v)
  bear_near stock live {r} near k g =
      let lies = near_holds near k g in
      let tree : bear home legs live (length stock) r k g ≡ apart_by home legs k g r.dx r.dy = ap (λ b. bear_as home b legs live (length stock) r k g) near in (
        λ h. (lies.0 (subst (λ t. Holds t e v) tree h), λ far. absurd (cc)),
        λ h. subst (λ t. Holds t e v) (sym tree) (lies.1 h.0),
      )

  -- bear holds where the man stands on a ray to the king, and where that is far nobody is in between
  pub bear_sees : (stock : List Man) (d : Man) (live : ℕ → Bool) {r : Ray} → IsFair r → (k g : ℕ)
      → Holds (bear home legs live (length stock) r k g) e v ↔ SeesAlong stock live k g r (place home legs v)
  bear_sees stock d live {r} fair k g =
      elim (true_or_not r.far) [
        | inl far ↦ bear_far stock d live (far_measured fair far) far k g
        | inr near ↦ bear_near stock live near k g
      ]
