-- Legal moves along a ray, and how far it is free.
use Rattle.std.proofs.Common.{◌≡◌, ◌⊎◌, inl, inr, ℕ, zero, suc, ◌<◌, ◌≤◌, ◌-ℤ◌, ◌+ℤ◌, ◌*ℤ◌, ℤ, pos, true, false, Option, Some, None, refl, sym, ap, subst, ◌∙◌, arith}
use Rattle.std.specs.Prelude.{IsTrue, IsSomeAnd}
use Rattle.std.proofs.lemmas.Int.{ints}
use Rattle.std.proofs.lemmas.Bool.{cases_lt}
use Rattle.std.proofs.lemmas.Option.{same_Some}
use Rattle.game_rules.specs.declared.men.Kind.{Kind}
use Rattle.game_rules.specs.declared.men.Kind.TheVariants.{King, Queen, Rook, Bishop, Knight, Pawn, Chancellor, Archbishop, Amazon, Nightrider}
use Rattle.game_rules.specs.declared.men.Man.{Man}
use Rattle.game_rules.specs.declared.men.Ray.{Ray}
use Rattle.game_rules.specs.declared.men.Square.{Square}
use Rattle.game_rules.specs.Game.{Position, Bears, GoesAs, IsOccupiedBy, IsApart, IsBetween, IsEmptySquare, IsLiveAnd, IsOpen, StandsOn, Step, after_steps, forward, man_at, other, square_of}
use Rattle.game_rules.specs.Rays.{IsAt, leap, ray_of, serves_captures, serves_moves}
use Rattle.game_laws.specs.OnRay.{IsBorneAlong, IsOnOneRay, IsOnRay}
use Rattle.game_laws.proofs.CheckLemmas.{any_is, one_square, some_and}
use Rattle.game_laws.proofs.DecideLemmas.{any_decided, is_after, position_after}
use Rattle.game_laws.proofs.LineLemmas.{steps_distance, steps_toward_x, steps_toward_y}
use Rattle.game_laws.proofs.MoveLemmas.{stands_or_not}
use Rattle.game_laws.proofs.RayLemmas.{borne_bears, step_one, true_or_not}
use Rattle.game_laws.proofs.SoundLemmas.{any_at, live_at, side_or_other}
use Rattle.game_laws.proofs.TableLemmas.{ray_is}
use Rattle.chess_game.specs.Way.{IsHitFrom, IsInside}
use Rattle.chess_game.specs.declared.way.Frame.{Frame}
use Rattle.mask_sets.proofs.Men.{all_men}

-- a square between others on a far ray is fewer steps along it
module _ (m : Man) (n : ℕ) (r : Ray) (is_ray : ray_of m.kind m.side n ≡ Some r) (a z : Square) (t : ℕ) (leads : IsAt r t a z) (far : r.far ≡ true) where
  between_at : {b : Square} → IsBetween a z b → (k : ℕ) × (k < t) × IsAt r k a b
  between_at h =
      let direction = (ray_is m.side m.kind n r is_ray).direction in
      let some : 0 < h.whole = omega (arith, h.begun, h.fewer) in
      let count : h.whole ≡ t = sym (steps_distance a z h.dx h.dy h.direction h.whole h.to_b) ∙ steps_distance a z r.dx r.dy direction t leads.leads in
      let x : h.dx ≡ r.dx = sym (steps_toward_x a z h.dx h.dy h.direction h.whole h.to_b some) ∙ steps_toward_x a z r.dx r.dy direction t leads.leads leads.begun in
      let y : h.dy ≡ r.dy = sym (steps_toward_y a z h.dx h.dy h.direction h.whole h.to_b some) ∙ steps_toward_y a z r.dx r.dy direction t leads.leads leads.begun in (
        h.part,
        omega (arith, h.fewer, count),
        record {
          begun = h.begun;
          one = λ near. absurd (let no : true ≡ false = sym far ∙ near in cc);
          leads = h.to_z ∙ (ap (λ d. after_steps a h.part d h.dy) x ∙ ap (λ d. after_steps a h.part r.dx d) y);
        },
      )

  at_between : (k : ℕ) (b : Square) → k < t → IsAt r k a b → IsBetween a z b
  at_between k b less at = record {
    dx = r.dx;
    dy = r.dy;
    direction = (ray_is m.side m.kind n r is_ray).direction;
    whole = t;
    part = k;
    begun = at.begun;
    fewer = less;
    to_b = leads.leads;
    to_z = at.leads;
  }

  -- where no man stands before z, the way is open
  pub open_before : (p : Position) → ((k : ℕ) (b : Square) → k < t → IsAt r k a b → IsEmptySquare p b) → IsOpen p a z
  open_before p none = (all_men p (λ c. IsLiveAnd c (IsBetween a z) → ⊥)).1 (λ k c is live.
      let w = some_and (square_of c) _ live in
      let at = between_at w.2 in
      (all_men p (λ d. StandsOn d w.0 → ⊥)).0 (none at.0 w.0 at.1 at.2) k c is w.1)

  pub none_before : (p : Position) → IsOpen p a z → (k : ℕ) (b : Square) → k < t → IsAt r k a b → IsEmptySquare p b
  none_before p clear k b less at = (all_men p (λ d. StandsOn d b → ⊥)).1 (λ i c is s.
      (all_men p (λ d. IsLiveAnd d (IsBetween a z) → ⊥)).0 clear i c is (live_at c b (IsBetween a z) s (at_between k b less at)))

-- where a ray is free, a man whom it serves may go
module _ (p : Position) (m : Man) (n : ℕ) (r : Ray) (is_ray : ray_of m.kind m.side n ≡ Some r) (a : Square) (stands : StandsOn m a) (t : ℕ)
    (z : Square) (leads : IsAt r t a z) (empty : (k : ℕ) (b : Square) → k ≤ t → IsAt r k a b → IsEmptySquare p b) where
  empty_target : IsEmptySquare p z
  empty_target = empty t z (omega arith) leads

  free_open : IsTrue r.far → IsOpen p a z
  free_open far = open_before m n r is_ray a z t leads far p (λ k b less at. empty k b (omega (arith, less)) at)

  free_bears : IsTrue (serves_captures m.kind n) → Bears p m z
  free_bears serves = borne_bears p m z (live_at m a (λ b. IsBorneAlong p m b z) stands (record { number = n; ray = r; is_ray = is_ray; serves = serves; along = (t, leads); clear = free_open }))

  behind : (x y f : ℤ) → x ≡ (x +ℤ (pos 1 *ℤ pos 0)) → y ≡ ((y +ℤ (pos 1 *ℤ f)) -ℤ f)
  behind x y f e = omega (arith, ints)

  pawn_first : (k : ℕ) → n ≡ k → m.kind ≡ Pawn → IsTrue (serves_moves Pawn k) → StandsOn m (record { x = z.x; y = z.y -ℤ forward m.side })
  pawn_first zero e pawn serves =
      let ray_zero : Some (leap (pos 0) (forward m.side)) ≡ Some r = subst (λ i. ray_of Pawn m.side i ≡ Some r) e (subst (λ k. ray_of k m.side n ≡ Some r) pawn is_ray) in
      let r_is : leap (pos 0) (forward m.side) ≡ r = same_Some (leap (pos 0) (forward m.side)) r ray_zero in
      let at : IsAt (leap (pos 0) (forward m.side)) t a z = subst (λ q. IsAt q t a z) (sym r_is) leads in
      let one : t ≡ 1 = at.one refl in
      let x : z.x ≡ a.x +ℤ (pos t *ℤ pos 0) = ap (λ s. s.x) at.leads in
      let y : z.y ≡ a.y +ℤ (pos t *ℤ forward m.side) = ap (λ s. s.y) at.leads in
      let x_is : z.x ≡ a.x = subst (λ k. z.x ≡ a.x +ℤ (pos k *ℤ pos 0)) one x ∙ across a.x in
      let y_is : z.y -ℤ forward m.side ≡ a.y = down z.y a.y (forward m.side) (subst (λ k. z.y ≡ a.y +ℤ (pos k *ℤ forward m.side)) one y) in
      stands ∙ sym (ap (λ b. Some (record { x = b; y = z.y -ℤ forward m.side })) x_is ∙ ap (λ b. Some (record { x = a.x; y = b })) y_is)
    where
      across : (b : ℤ) → b +ℤ (pos 1 *ℤ pos 0) ≡ b
      across b = omega (arith, ints)

      down : (b c f : ℤ) → b ≡ c +ℤ (pos 1 *ℤ f) → b -ℤ f ≡ c
      down b c f h = omega (arith, ints, h)
  pawn_first (suc k) e pawn serves = absurd (cc)

  free_goes : (k : Kind) → m.kind ≡ k → IsTrue (serves_moves k n) → GoesAs k p m z
  free_goes King is serves = free_bears (subst (λ k. IsTrue (serves_captures k n)) (sym is) refl)
  free_goes Queen is serves = free_bears (subst (λ k. IsTrue (serves_captures k n)) (sym is) refl)
  free_goes Rook is serves = free_bears (subst (λ k. IsTrue (serves_captures k n)) (sym is) refl)
  free_goes Bishop is serves = free_bears (subst (λ k. IsTrue (serves_captures k n)) (sym is) refl)
  free_goes Knight is serves = free_bears (subst (λ k. IsTrue (serves_captures k n)) (sym is) refl)
  free_goes Chancellor is serves = free_bears (subst (λ k. IsTrue (serves_captures k n)) (sym is) refl)
  free_goes Archbishop is serves = free_bears (subst (λ k. IsTrue (serves_captures k n)) (sym is) refl)
  free_goes Amazon is serves = free_bears (subst (λ k. IsTrue (serves_captures k n)) (sym is) refl)
  free_goes Nightrider is serves = free_bears (subst (λ k. IsTrue (serves_captures k n)) (sym is) refl)
  free_goes Pawn is serves = inr (pawn_first n refl is serves, empty_target)

  -- the step, and where it leads
  pub free_step : (i : ℕ) → man_at p i ≡ Some m → m.side ≡ p.turn → IsTrue (serves_moves m.kind n) → (q : Position) × Step p i z q
  free_step zero is turn serves = absurd (cc)
  free_step (suc j) is turn serves = (
    position_after p j z,
    record {
      man = m;
      is_man = is;
      his_turn = turn;
      not_own = λ h. let w = any_is p _ h in (all_men p (λ d. StandsOn d z → ⊥)).0 empty_target w.0 w.1 w.2 w.3.1;
      goes = free_goes m.kind refl serves;
      after = is_after p j z;
    },
  )

-- a man with no man before him on the ray is the first that is met there
pub first_met : (p : Position) (a : Square) (r : Ray) (f : Frame) (t : ℕ) (z : Square) → IsAt r t a z → IsInside f z
    → ((k : ℕ) (b : Square) → k < t → IsAt r k a b → IsEmptySquare p b) → IsApart p → (h : ℕ) (c : Man) → man_at p h ≡ Some c → StandsOn c z
    → IsHitFrom p a r f h
first_met p a r f t z leads inside before apart h c is_c on_c = record {
  to = z;
  distance = t;
  leads = leads;
  inside = inside;
  hit = rw is_c on_c;
  first = before;
  least = λ j less there. let w = some_man (man_at p j) there in absurd (omega (arith, less, apart j h w.0 c z w.1 is_c w.2 on_c));
} where
  some_man : (o : Option Man) → IsSomeAnd o (λ d. StandsOn d z) → (d : Man) × (o ≡ Some d) × StandsOn d z
  some_man None s = absurd s
  some_man (Some d) s = (d, refl, s)

-- a square is empty, or some man stands there
pub any_or_none : (p : Position) (z : Square) → IsEmptySquare p z ⊎ ((k : ℕ) × (c : Man) × (man_at p k ≡ Some c) × StandsOn c z)
any_or_none p z =
    elim (any_decided (λ c. StandsOn c z) (λ c. stands_or_not c z) p.men) [
      | inl some ↦ inr (any_is p (λ c. StandsOn c z) some)
      | inr none ↦ inl ((all_men p (λ c. StandsOn c z → ⊥)).1 (λ k c is_c on_c. none (any_at p (λ d. StandsOn d z) k c is_c on_c)))
    ]

-- what a step along a ray is
module _ (p : Position) (i : ℕ) (z : Square) (q : Position) (step : Step p i z q) (m : Man) (is : man_at p i ≡ Some m)
    (a : Square) (stands : StandsOn m a) (n t : ℕ) (on : IsOnRay m a z n t) where
  his : step.man ≡ m
  his = same_Some step.man m (sym step.is_man ∙ is)

  one : IsOnOneRay p m a z
  one =
      let w = some_and (square_of step.man) _ (step_one p i z q step) in
      let at : w.0 ≡ a = one_square m a w.0 stands (subst (λ b. StandsOn b w.0) his w.1) in
      subst (λ b. IsOnOneRay p m b z) at (subst (λ b. IsOnOneRay p b w.0 z) his w.2)

  number_is : one.number ≡ n
  number_is = sym (one.only n t on).0

  ray_same : one.on.ray ≡ on.ray
  ray_same = same_Some one.on.ray on.ray (sym one.on.is_ray ∙ (ap (λ k. ray_of m.kind m.side k) number_is ∙ on.is_ray))

  pub clear : IsTrue on.ray.far → IsOpen p a z
  clear far = one.clear (subst (λ r. IsTrue r.far) (sym ray_same) far)

  pub serves_quiet : IsEmptySquare p z → IsTrue (serves_moves m.kind n)
  serves_quiet none = subst (λ k. IsTrue (serves_moves m.kind k)) number_is (one.move none)

  -- no man stands before
  pub nobody_before : (k : ℕ) (b : Square) → k < t → IsAt on.ray k a b → IsEmptySquare p b
  nobody_before k b less at =
      elim (true_or_not on.ray.far) [
        | inl far ↦ none_before m n on.ray on.is_ray a z t on.leads far p (clear far) k b less at
        | inr near ↦ absurd (omega (arith, less, at.begun, on.leads.one near))
      ]

  same_target : {b : Square} → IsAt on.ray t a b → b ≡ z
  same_target at = at.leads ∙ sym on.leads.leads

  -- if the square is empty, no man stands up to it
  pub nobody_to : IsEmptySquare p z → (k : ℕ) (b : Square) → k ≤ t → IsAt on.ray k a b → IsEmptySquare p b
  nobody_to none k b low at = elim (cases_lt k t) [
    | inl less ↦ nobody_before k b less at
    | inr high ↦
        let e : k ≡ t = omega (arith, high, low) in
        let same : b ≡ z = same_target (subst (λ l. IsAt on.ray l a b) e at) in
        subst (IsEmptySquare p) (sym same) none
  ]

  -- a man who stands there is the first on the ray
  pub capture_hit : {f : Frame} → IsInside f z → IsApart p → (h : ℕ) (c : Man) → man_at p h ≡ Some c → StandsOn c z → IsHitFrom p a on.ray f h
  capture_hit {f} inside apart h c is_c on_c = first_met p a on.ray f t z on.leads inside nobody_before apart h c is_c on_c

  -- a target is empty or held by the other side
  pub empty_or_held : IsEmptySquare p z ⊎ IsOccupiedBy p (other p.turn) z
  empty_or_held =
      elim (any_or_none p z) [
        | inl none ↦ inl none
        | inr (k, c, is_c, on_c) ↦ elim (side_or_other c.side p.turn) [
          | inl own ↦ absurd (step.not_own (any_at p _ k c is_c (own, on_c)))
          | inr enemy ↦ inr (any_at p _ k c is_c (enemy, on_c))
        ]
      ]
