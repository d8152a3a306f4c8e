-- Each step lies on one ray of the table, and men bear along rays.
use Rattle.std.proofs.Common.{◌≡◌, ◌⊎◌, ℕ, ℤ, pos, unsigned_abs, ◌+ℤ◌, ◌-ℤ◌, ◌*ℤ◌, Bool, true, false, Some, inl, inr, refl, subst, sym, ap, ◌∙◌, arith}
use Rattle.std.specs.Prelude.{IsTrue}
use Rattle.std.proofs.lemmas.Int.{ints}
use Rattle.game_rules.specs.declared.men.Kind.{Kind}
use Rattle.game_rules.specs.declared.men.Kind.TheVariants.{King, Queen, Rook, Bishop, Knight, Pawn, Chancellor, Archbishop, Amazon, Nightrider}
use Rattle.game_rules.specs.declared.men.Man.{Man}
use Rattle.game_rules.specs.declared.men.Ray.{Ray}
use Rattle.game_rules.specs.declared.men.Side.{Side}
use Rattle.game_rules.specs.declared.men.Square.{Square}
use Rattle.game_rules.specs.Game.{Position, Bears, GoesAs, IsDirection, IsOccupiedBy, IsEmptySquare, IsLiveAnd, IsOpen, StandsOn, Step, after_steps, forward, other, square_of}
use Rattle.game_rules.specs.Rays.{IsAt, leap, ray_of, serves_captures, serves_moves}
use Rattle.game_laws.specs.Reach.{HasReach}
use Rattle.game_laws.specs.OnRay.{IsBorneAlong, IsOnOneRay, IsOnRay}
use Rattle.game_laws.proofs.LineLemmas.{offset_of, square_is, steps_distance, steps_toward_x, steps_toward_y}
use Rattle.game_laws.proofs.OpenLemmas.{IsSingle, bears_openly, openly_bears, single_open}
use Rattle.game_laws.proofs.TableLemmas.{IsReached, one_number, ray_is, reached}
use Rattle.game_laws.proofs.SoundLemmas.{live_at}
use Rattle.game_laws.proofs.CheckLemmas.{some_and}

pub true_or_not : (b : Bool) → (b ≡ true) ⊎ (b ≡ false)
true_or_not true = inl refl
true_or_not false = inr refl

is_offset : (a z d : ℤ) → z -ℤ a ≡ d → z ≡ a +ℤ d
is_offset a z d h = omega (arith, ints, h)

-- where a ray reaches an offset, it leads there
pub reached_at : {s : Side} {k : Kind} (a z : Square) (r : IsReached s k (z.x -ℤ a.x) (z.y -ℤ a.y)) → IsAt r.ray r.times a z
reached_at a z r =
    record {
      begun = r.begun;
      one = r.one;
      leads = square_is z _ _ (is_offset a.x z.x (pos r.times *ℤ r.ray.dx) r.right) (is_offset a.y z.y (pos r.times *ℤ r.ray.dy) r.up);
    }

-- one step of a direction is a single step
single_step : (a z : Square) (dx dy : ℤ) → IsDirection dx dy → z ≡ after_steps a 1 dx dy → IsSingle a z
single_step a z dx dy (inl d) leads = inl (ap unsigned_abs (one_on a.x z.x dx (ap (λ b. b.x) leads)) ∙ d.0)
  where
    one_on : (a z d : ℤ) → z ≡ a +ℤ (pos 1 *ℤ d) → z -ℤ a ≡ d
    one_on a z d h = omega (arith, ints, h)
single_step a z dx dy (inr d) leads = inr (ap unsigned_abs (one_on a.y z.y dy (ap (λ b. b.y) leads)) ∙ d.0)
  where
    one_on : (a z d : ℤ) → z ≡ a +ℤ (pos 1 *ℤ d) → z -ℤ a ≡ d
    one_on a z d h = omega (arith, ints, h)

-- a ray of the table that is not far leads over no square
pub near_open : (p : Position) (s : Side) (k : Kind) (n : ℕ) (r : Ray) (t : ℕ) (a z : Square) → ray_of k s n ≡ Some r → r.far ≡ false → IsAt r t a z → IsOpen p a z
near_open p s k n r t a z is near h =
    single_open p a z (single_step a z r.dx r.dy (ray_is s k n r is).direction (subst (λ j. z ≡ after_steps a j r.dx r.dy) (h.one near) h.leads))

-- a man reaches what his rays of captures lead to
pub reach_at : (s : Side) (k : Kind) (n : ℕ) {r : Ray} {t : ℕ} {a z : Square} → ray_of k s n ≡ Some r
    → IsTrue (serves_captures k n) → IsAt r t a z → HasReach s k (z.x -ℤ a.x) (z.y -ℤ a.y)
reach_at s k n {r} {t} {a} {z} is serves h =
    subst (λ d. HasReach s k d (z.y -ℤ a.y)) (sym (offset_of a.x z.x (pos t *ℤ r.dx) (ap (λ b. b.x) h.leads)))
    (subst (λ d. HasReach s k (pos t *ℤ r.dx) d) (sym (offset_of a.y z.y (pos t *ℤ r.dy) (ap (λ b. b.y) h.leads))) ((ray_is s k n r is).reaches serves t h.begun h.one))

-- two rays of a man that lead from a to z are one, and as far
module _ (m : Man) (a z : Square) (n k i j : ℕ) (on : IsOnRay m a z n k) (also : IsOnRay m a z i j) where
  abbrev d : IsDirection on.ray.dx on.ray.dy
  d = (ray_is m.side m.kind n on.ray on.is_ray).direction

  abbrev e : IsDirection also.ray.dx also.ray.dy
  e = (ray_is m.side m.kind i also.ray also.is_ray).direction

  pub one_ray : (i ≡ n) × (j ≡ k)
  one_ray = (
    one_number m.side m.kind i n also.ray on.ray also.is_ray on.is_ray
        (sym (steps_toward_x a z _ _ e j also.leads.leads also.leads.begun) ∙ steps_toward_x a z _ _ d k on.leads.leads on.leads.begun)
        (sym (steps_toward_y a z _ _ e j also.leads.leads also.leads.begun) ∙ steps_toward_y a z _ _ d k on.leads.leads on.leads.begun),
    sym (steps_distance a z _ _ e j also.leads.leads) ∙ steps_distance a z _ _ d k on.leads.leads,
  )

-- a man bears along a ray
pub borne : (p : Position) (m : Man) (a z : Square) → HasReach m.side m.kind (z.x -ℤ a.x) (z.y -ℤ a.y) → IsOpen p a z → IsBorneAlong p m a z
borne p m a z reach clear =
    let r : IsReached m.side m.kind (z.x -ℤ a.x) (z.y -ℤ a.y) = reached m.side m.kind _ _ reach in
    record {
      number = r.number;
      ray = r.ray;
      is_ray = r.is_ray;
      serves = r.serves;
      along = (r.times, reached_at a z r);
      clear = λ far. clear;
    }

pub bears_borne : (p : Position) (m : Man) (z : Square) → Bears p m z → IsLiveAnd m (λ a. IsBorneAlong p m a z)
bears_borne p m z h =
    let w = some_and (square_of m) _ (bears_openly p m z h) in
    live_at m w.0 (λ a. IsBorneAlong p m a z) w.1 (borne p m w.0 z w.2.0 w.2.1)

pub borne_bears : (p : Position) (m : Man) (z : Square) → IsLiveAnd m (λ a. IsBorneAlong p m a z) → Bears p m z
borne_bears p m z h =
    let w = some_and (square_of m) _ h in
    let b : IsBorneAlong p m w.0 z = w.2 in
    let clear : IsOpen p w.0 z = elim (true_or_not b.ray.far) [
      | inl far ↦ b.clear far
      | inr near ↦ near_open p m.side m.kind b.number b.ray b.along.0 w.0 z b.is_ray near b.along.1
    ] in
    openly_bears p m z
    (live_at m w.0 (λ a. HasReach m.side m.kind (z.x -ℤ a.x) (z.y -ℤ a.y) × IsOpen p a z) w.1 (reach_at m.side m.kind b.number b.is_ray b.serves b.along.1, clear))

-- a square is not both held and empty
held_empty : (p : Position) (s : Side) (z : Square) → IsOccupiedBy p s z → IsEmptySquare p z → ⊥
held_empty p s z (k, m, within, is, h) none = none k m within (subst (λ n. StandsOn n z) (sym is) h.1)

-- a man goes along one ray, which serves what he does
module _ (p : Position) (m : Man) (a z : Square) where
  on_one : (n k : ℕ) (on : IsOnRay m a z n k) → (IsTrue on.ray.far → IsOpen p a z) → (IsEmptySquare p z → IsTrue (serves_moves m.kind n))
      → (IsOccupiedBy p (other m.side) z → IsTrue (serves_captures m.kind n)) → IsOnOneRay p m a z
  on_one n k on clear move capture =
      record { number = n; distance = k; on = on; only = λ i j also. one_ray m a z n k i j on also; clear = clear; move = move; capture = capture }

  along_one : (b : IsBorneAlong p m a z) → (IsEmptySquare p z → IsTrue (serves_moves m.kind b.number)) → IsOnOneRay p m a z
  along_one b move =
      on_one b.number b.along.0 (record { ray = b.ray; is_ray = b.is_ray; leads = b.along.1 }) b.clear move (λ h. b.serves)

module _ (p : Position) (m : Man) (z : Square) where
  abbrev OnOne : Type 0
  OnOne = IsLiveAnd m (λ a. IsOnOneRay p m a z)

  -- a man who bears on a square goes there along one ray
  borne_one : ((n : ℕ) → IsEmptySquare p z → IsTrue (serves_moves m.kind n)) → Bears p m z → OnOne
  borne_one move h =
      let w = some_and (square_of m) _ (bears_borne p m z h) in
      let b : IsBorneAlong p m w.0 z = w.2 in
      live_at m w.0 (λ a. IsOnOneRay p m a z) w.1 (along_one p m w.0 z b (move b.number))

  -- a pawn goes straight on along the first
  ahead_one : m.kind ≡ Pawn → StandsOn m (record { x = z.x; y = z.y -ℤ forward m.side }) → IsEmptySquare p z → OnOne
  ahead_one is there none =
      let a : Square = record { x = z.x; y = z.y -ℤ forward m.side } in
      live_at m a (λ a. IsOnOneRay p m a z) there
      (on_one p m a z 0 1
      (record {
        ray = leap (pos 0) (forward m.side);
        is_ray = subst (λ k. ray_of k m.side 0 ≡ Some (leap (pos 0) (forward m.side))) (sym is) refl;
        leads = record { begun = omega arith; one = λ e. refl; leads = square_is z _ _ (across z.x) (up z.y (forward m.side)) };
      })
      (λ far. absurd (cc))
      (λ e. subst (λ k. IsTrue (serves_moves k 0)) (sym is) refl)
      (λ h. absurd (held_empty p (other m.side) z h none)))
    where
      across : (x : ℤ) → x ≡ x +ℤ (pos 1 *ℤ pos 0)
      across x = omega (arith, ints)

      up : (y f : ℤ) → y ≡ (y -ℤ f) +ℤ (pos 1 *ℤ f)
      up y f = omega (arith, ints)

  serving : (k : Kind) → m.kind ≡ k → ((n : ℕ) → IsTrue (serves_moves k n)) → (n : ℕ) → IsEmptySquare p z → IsTrue (serves_moves m.kind n)
  serving k is each n none = subst (λ k. IsTrue (serves_moves k n)) (sym is) (each n)

  goes_one : (k : Kind) → m.kind ≡ k → GoesAs k p m z → OnOne
  goes_one King is h = borne_one (serving King is (λ n. refl)) h
  goes_one Queen is h = borne_one (serving Queen is (λ n. refl)) h
  goes_one Rook is h = borne_one (serving Rook is (λ n. refl)) h
  goes_one Bishop is h = borne_one (serving Bishop is (λ n. refl)) h
  goes_one Knight is h = borne_one (serving Knight is (λ n. refl)) h
  goes_one Chancellor is h = borne_one (serving Chancellor is (λ n. refl)) h
  goes_one Archbishop is h = borne_one (serving Archbishop is (λ n. refl)) h
  goes_one Amazon is h = borne_one (serving Amazon is (λ n. refl)) h
  goes_one Nightrider is h = borne_one (serving Nightrider is (λ n. refl)) h
  goes_one Pawn is (inl h) = borne_one (λ n none. absurd (held_empty p (other m.side) z h.1 none)) h.0
  goes_one Pawn is (inr h) = ahead_one is h.0 h.1

pub step_one : (p : Position) (i : ℕ) (z : Square) (q : Position) (s : Step p i z q) → IsLiveAnd s.man (λ a. IsOnOneRay p s.man a z)
step_one p i z q s = goes_one p s.man z s.man.kind refl s.goes
