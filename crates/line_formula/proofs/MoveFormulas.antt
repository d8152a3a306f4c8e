-- The parts of a move say that a man goes along his ray.
use Rattle.std.proofs.Common.{◌≡◌, ◌≢◌, ◌↔◌, ℕ, zero, suc, ◌<◌, ◌≤◌, Bool, true, false, IsTrue, List, [], ◌∷◌, ◌++◌, length, ℤ, pos, negsuc, ◌+ℤ◌, ◌*ℤ◌, unsigned_abs, inl, inr, refl, sym, ap, ◌∙◌, subst, arith}
use Rattle.std.specs.Prelude.{◌≤ℤ◌, ◌==◌, if◌then◌else◌}
use Rattle.std.proofs.lemmas.Int.{ints}
use Rattle.std.proofs.lemmas.Bool.Decides.{nat_tests}
use Rattle.game_rules.specs.declared.men.Man.{Man}
use Rattle.game_rules.specs.declared.men.Ray.{Ray}
use Rattle.game_rules.specs.declared.men.Square.{Square}
use Rattle.game_laws.proofs.RayLemmas.{true_or_not}
use Rattle.track_word.specs.Tracks.{Values}
use Rattle.track_word.specs.declared.atoms.Rel.TheVariants.{Le, Eq}
use Rattle.lin_formula.specs.Holds.{Holds, Sets}
use Rattle.lin_formula.specs.Tree.{Tree, Not}
use Rattle.rule_formula.specs.Seats.{var}
use Rattle.rule_formula.specs.Trees.{is_other}
use Rattle.rule_formula.proofs.ChainLemmas.{Each, each_more}
use Rattle.rule_formula.proofs.FormulaLemmas.{each_other}
use Rattle.rule_formula.proofs.MoveLemmas.{EachOther, IsMove}
use Rattle.rule_formula.proofs.RayLemmas.{IsFair, IsSteps, IsWithin, all_hold-append, square_at}
use Rattle.line_formula.specs.declared.leg.Leg.{Leg}
use Rattle.line_formula.specs.Atoms.{constant, terms, weighed}
use Rattle.line_formula.specs.Places.{place, step_x, step_y}
use Rattle.line_formula.specs.Rules.{across, apart_by, capture_parts, clear_parts, distance_as, measure, on_way, on_way_as, reached, upward}
use Rattle.line_formula.proofs.BearFormulas.{apart_holds, line_from, line_to}
use Rattle.line_formula.proofs.MeasureLemmas.{IsMeasured, far_measured, measured_to, steps_measure}
use Rattle.line_formula.proofs.PlaceLemmas.{gap_holds, sum_holds, terms-below, weighed-sum}
use Rattle.rule_formula.specs.Fine.{AllHold}

own_step : (a b : ℕ) (x : ℤ) → a ≡ b → (if a == b then x else pos 0) ≡ x
own_step a b x e = grind (arith, nat_tests)

no_step : (a b : ℕ) (x : ℤ) → a ≢ b → (if a == b then x else pos 0) ≡ pos 0
no_step a b x ne = grind (arith, nat_tests)

-- who is not the mover stays
pub place_stays : (home : ℕ → Square) (legs : List Leg) (leg : Leg) (v : Values) (k : ℕ) → k ≢ leg.man → place home (leg ∷ legs) v k ≡ place home legs v k
place_stays home legs leg v k ne =
    let a = place home legs v k in
    let t : ℤ = v (length legs) in
    let still : (x y : ℤ) → y ≡ pos 0 → x +ℤ (t *ℤ y) ≡ x = λ x y none. ap (λ z. x +ℤ (t *ℤ z)) none ∙ (let z : x +ℤ (t *ℤ pos 0) ≡ x = omega (arith, ints) in z) in
    square_at (place home (leg ∷ legs) v k) a
    (still a.x (step_x k leg) (no_step leg.man k leg.ray.dx (λ e. ne (sym e))))
    (still a.y (step_y k leg) (no_step leg.man k leg.ray.dy (λ e. ne (sym e))))

-- the mover goes so many steps
pub place_moves : (home : ℕ → Square) (legs : List Leg) (leg : Leg) (v : Values) (d : ℕ) → v (length legs) ≡ pos d
    → IsSteps leg.ray (place home legs v leg.man) (place home (leg ∷ legs) v leg.man) d
place_moves home legs leg v d is =
    let a = place home legs v leg.man in
    let step : (x y z : ℤ) → y ≡ z → x +ℤ (v (length legs) *ℤ y) ≡ x +ℤ (pos d *ℤ z) = λ x y z same. ap (λ w. x +ℤ (v (length legs) *ℤ w)) same ∙ ap (λ w. x +ℤ (w *ℤ z)) is in
    record {
      right = step a.x (step_x leg.man leg) leg.ray.dx (own_step leg.man leg.man leg.ray.dx refl);
      up = step a.y (step_y leg.man leg) leg.ray.dy (own_step leg.man leg.man leg.ray.dy refl);
    }

-- the first part: the distance is positive, and 1 where the ray is near
pub record IsDistance (r : Ray) (x : ℤ) (d : ℕ) : Type 0 where
  pub is : x ≡ pos d
  pub some : 0 < d
  pub one : r.far ≡ false → d ≡ 1

pub distance_from : (home : ℕ → Square) (r : Ray) (n : ℕ) (e : Sets) (v : Values) → Holds (distance_as home r.far (var n)) e v → (d : ℕ) × IsDistance r (v n) d
distance_from home r n e v h =
    elim (true_or_not r.far) [
      | inl far ↦
          let long : Holds (distance_as home true (var n)) e v = subst (λ b. Holds (distance_as home b (var n)) e v) far h in
          (unsigned_abs (v n), record { is = grind (arith, ints); some = grind (arith, ints); one = λ near. absurd (cc) })
      | inr near ↦
          let short : Holds (distance_as home false (var n)) e v = subst (λ b. Holds (distance_as home b (var n)) e v) near h in
          (1, record { is = omega (arith, ints, short); some = omega arith; one = λ _. refl })
    ]

pub distance_to : (home : ℕ → Square) (r : Ray) (n : ℕ) (e : Sets) (v : Values) (d : ℕ) → IsDistance r (v n) d → Holds (distance_as home r.far (var n)) e v
distance_to home r n e v d h =
    elim (true_or_not r.far) [
      | inl far ↦
          let is = h.is in
          let some = h.some in
          let long : Holds (distance_as home true (var n)) e v = omega (arith, ints, is, some) in
          subst (λ b. Holds (distance_as home b (var n)) e v) (sym far) long
      | inr near ↦
          let is = h.is in
          let one : d ≡ 1 = h.one near in
          let short : Holds (distance_as home false (var n)) e v = omega (arith, ints, is, one) in
          subst (λ b. Holds (distance_as home b (var n)) e v) (sym near) short
    ]

module _ (home : ℕ → Square) (legs : List Leg) (few : length legs < 16) (e : Sets) (v : Values) (leg : Leg) (d : ℕ) (far_is : IsDistance leg.ray (v (length legs)) d) where
  early : length legs ≤ 16
  early = omega arith

  late : length (leg ∷ legs) ≤ 16
  late = omega arith

  reached_holds : (a b : ℕ) {m : ℤ} → weighed (measure leg.ray a b) (place home legs v a) (place home legs v b) ≡ m
      → Holds (reached home legs leg.ray a b) e v ↔ (m ≤ℤ pos d)
  reached_holds a b {m} whole =
      let g = measure leg.ray a b in
      let sum = sum_holds (constant home g) ((negsuc 0, var (length legs)) ∷ terms g legs) Le (pos 0) e v (few, terms-below 16 g legs early) in
      let is = weighed-sum home g legs v in
      let far = far_is.is in (
        λ h. let k = sum.0 h in omega (arith, ints, is, whole, far, k),
        λ h. sum.1 (omega (arith, ints, is, whole, far, h)),
      )

  way_far : IsMeasured leg.ray → leg.ray.far ≡ true → (k : ℕ)
      → Holds (on_way home legs leg k) e v ↔ IsWithin leg.ray (place home legs v leg.man) (place home legs v k) (suc d)
  way_far is far k =
      let a = place home legs v leg.man in
      let b = place home legs v k in
      let tree : on_way home legs leg k ≡ on_way_as home true legs leg k = ap (λ b. on_way_as home b legs leg k) far in (
        λ h.
            let w = subst (λ t. Holds t e v) tree h in
            let (t, some, steps, whole) = line_from home legs early e v is leg.man k w.0.0 w.0.1 in
            let most : pos t ≤ℤ pos d = (reached_holds leg.man k whole).0 w.1 in
            record { distance = t; positive = some; before = omega (arith, ints, most); steps = steps },
        λ h.
            let base = line_to home legs early e v is leg.man k h.positive h.steps in
            let whole = (measured_to is leg.man k a b (pos h.distance) (steps_measure h.steps)).1 in
            let less : h.distance < suc d = h.before in
            let most : pos h.distance ≤ℤ pos d = omega (arith, ints, less) in
            subst (λ t. Holds t e v) (sym tree) (base, (reached_holds leg.man k whole).1 most),
      )

  way_near : leg.ray.far ≡ false → (k : ℕ) → k ≢ leg.man
      → Holds (on_way home legs leg k) e v ↔ IsWithin leg.ray (place home legs v leg.man) (place home legs v k) (suc d)
  way_near near k ne =
      let a = place home legs v leg.man in
      let b = place home legs v k in
      let c = place home (leg ∷ legs) v leg.man in
      let tree : on_way home legs leg k ≡ apart_by home (leg ∷ legs) leg.man k (pos 0) (pos 0) = ap (λ b. on_way_as home b legs leg k) near in
      let apart = apart_holds home (leg ∷ legs) late e v leg.man k (pos 0) (pos 0) in
      let stays = place_stays home legs leg v k ne in
      let moves = place_moves home legs leg v d far_is.is in
      let one : d ≡ 1 = far_is.one near in
      let stays_x = ap (λ (z : Square). z.x) stays in
      let stays_y = ap (λ (z : Square). z.y) stays in (
        λ h.
            let w = apart.0 (subst (λ t. Holds t e v) tree h) in
            record {
              distance = d;
              positive = far_is.some;
              before = omega arith;
              steps = record { right = omega (arith, ints, w.0, stays_x, moves.right); up = omega (arith, ints, w.1, stays_y, moves.up) };
            },
        λ h.
            let same : h.distance ≡ d = omega (arith, h.positive, h.before, one) in
            let there : IsSteps leg.ray a b d = subst (IsSteps leg.ray a b) same h.steps in
            subst (λ t. Holds t e v) (sym tree) (apart.1 (omega (arith, ints, stays_x, moves.right, there.right), omega (arith, ints, stays_y, moves.up, there.up))),
      )

  -- a man is on the way exactly where he stands at most as far along the ray as the mover goes
  pub way_holds : IsFair leg.ray → (k : ℕ) → k ≢ leg.man
      → Holds (on_way home legs leg k) e v ↔ IsWithin leg.ray (place home legs v leg.man) (place home legs v k) (suc d)
  way_holds fair k ne =
      elim (true_or_not leg.ray.far) [
        | inl far ↦ way_far (far_measured fair far) far k
        | inr near ↦ way_near near k ne
      ]

  -- the mover comes to where the taken man stands
  pub capture_holds : (t : ℕ) → t ≢ leg.man → AllHold (capture_parts home legs leg t) e v ↔ (0 < t → place home legs v t ≡ place home (leg ∷ legs) v leg.man)
  capture_holds zero ne = (λ h some. absurd (omega (arith, some)), λ h. tt)
  capture_holds (suc t) ne =
      let a = place home (leg ∷ legs) v (suc t) in
      let b = place home (leg ∷ legs) v leg.man in
      let right = gap_holds home (leg ∷ legs) (across (suc t) leg.man) Eq (pos 0) e v late in
      let up = gap_holds home (leg ∷ legs) (upward (suc t) leg.man) Eq (pos 0) e v late in
      let stays = place_stays home legs leg v (suc t) ne in (
        λ h some.
            let one : weighed (across (suc t) leg.man) a b ≡ pos 0 = right.0 h.0 in
            let two : weighed (upward (suc t) leg.man) a b ≡ pos 0 = up.0 h.1.0 in
            sym stays ∙ square_at a b (omega (arith, ints, one)) (omega (arith, ints, two)),
        λ h.
            let same : a ≡ b = stays ∙ h (omega arith) in
            let x = ap (λ (z : Square). z.x) same in
            let y = ap (λ (z : Square). z.y) same in
            let one : weighed (across (suc t) leg.man) a b ≡ pos 0 = omega (arith, ints, x) in
            let two : weighed (upward (suc t) leg.man) a b ≡ pos 0 = omega (arith, ints, y) in
            (right.1 one, (up.1 two, tt)),
      )

  added : (b : Bool) (fs : List Tree) (g : Tree) → AllHold (if b then fs ++ g ∷ [] else fs) e v ↔ (AllHold fs e v × (IsTrue b → Holds g e v))
  added true fs g =
      let w = all_hold-append fs (g ∷ []) e v in
      (λ h. ((w.0 h).0, λ _. (w.0 h).1.0), λ h. w.1 (h.0, (h.1 refl, tt)))
  added false fs g = (λ h. (h, λ no. absurd (cc)), λ h. h.0)

  clear_each : (live : ℕ → Bool) (t n : ℕ)
      → AllHold (clear_parts home legs leg live t n) e v ↔ Each (λ k. IsTrue (is_other live leg.man t k) → ¬ Holds (on_way home legs leg k) e v) n
  clear_each live t zero = (λ h k low high. absurd (omega (arith, low, high)), λ h. tt)
  clear_each live t (suc n) =
      let before = clear_each live t n in
      let step = added (is_other live leg.man t (suc n)) (clear_parts home legs leg live t n) (Not (on_way home legs leg (suc n))) in
      let more = each_more (λ k. IsTrue (is_other live leg.man t k) → ¬ Holds (on_way home legs leg k) e v) n in (
        λ h. let w = step.0 h in more.1 (before.0 w.0, w.1),
        λ h. let w = more.0 h in step.1 (before.1 w.0, w.1),
      )

  -- nobody else is on the way
  pub clear_holds_all : IsFair leg.ray → (stock : List Man) (d_man : Man) (live : ℕ → Bool) (t : ℕ)
      → AllHold (clear_parts home legs leg live t (length stock)) e v
      ↔ EachOther stock live leg.man t (λ k. IsWithin leg.ray (place home legs v leg.man) (place home legs v k) (suc d) → ⊥)
  clear_holds_all fair stock d_man live t =
      let each = clear_each live t (length stock) in
      let other = each_other stock live leg.man t (λ k. ¬ Holds (on_way home legs leg k) e v) d_man in (
        λ h k m is on first second within. other.0 (each.0 h) k m is on first second ((way_holds fair k first).1 within),
        λ h. each.1 (other.1 (λ k m is on first second hit. h k m is on first second ((way_holds fair k first).0 hit))),
      )

  -- the parts make a move of the man, and of nobody else
  pub move_from_parts : IsFair leg.ray → (stock : List Man) (d_man : Man) (live : ℕ → Bool) (t : ℕ) → t ≢ leg.man
      → AllHold (capture_parts home legs leg t) e v → AllHold (clear_parts home legs leg live t (length stock)) e v
      → IsMove stock live leg.man leg.ray t (place home legs v) (place home (leg ∷ legs) v)
  move_from_parts fair stock d_man live t ne captures clears =
      record {
        along = record { distance = d; positive = far_is.some; near = far_is.one; steps = place_moves home legs leg v d far_is.is };
        clear = (clear_holds_all fair stock d_man live t).0 clears;
        stay = λ k m is on first second. sym (place_stays home legs leg v k first);
        taken = (capture_holds t ne).0 captures;
      }
