-- Moving the board, reflecting it and exchanging its colours keep the game.
use Rattle.std.proofs.Common.{◌≡◌, ◌≢◌, inl, inr, ℕ, ◌+◌, ◌<◌, ◌≤◌, ℤ, pos, ◌+ℤ◌, ◌-ℤ◌, ◌*ℤ◌, unsigned_abs, refl, sym, ap, subst, ◌∙◌, arith}
use Rattle.std.proofs.lemmas.Int.{ints}
use Rattle.game_rules.specs.Game.{IsBetween, IsDiagonal, IsDirection, IsLeap, IsStraight, after_steps, forward, other}
use Rattle.game_rules.specs.declared.men.Kind.{Kind}
use Rattle.game_rules.specs.declared.men.Kind.TheVariants.{King, Queen, Rook, Bishop, Knight, Pawn, Chancellor, Archbishop, Amazon, Nightrider}
use Rattle.game_rules.specs.declared.men.Side.{Side}
use Rattle.game_rules.specs.declared.men.Side.TheVariants.{White, Black}
use Rattle.game_rules.specs.declared.men.Square.{Square}
use Rattle.game_laws.specs.Symmetry.{BoardMap, KeepsGame, colour_exchange, reflection, shift}
use Rattle.game_laws.specs.Reach.{HasReach}
use Rattle.game_laws.proofs.LineLemmas.{square_is}
use Rattle.game_laws.proofs.Products.{negated_steps}
use Rattle.game_laws.proofs.SoundLemmas.{other_other}
use Rattle.game_laws.proofs.SymmetryLemmas.{IsCarrier, IsUndone, keeps_game}

-- a map of one coordinate, and of the steps along it, which stay as long
record IsAxisMap (at by : ℤ → ℤ) : Type 0 where
  long : (d : ℤ) → unsigned_abs (by d) ≡ unsigned_abs d
  steps : (a b d : ℤ) (t : ℕ) → b ≡ a +ℤ (pos t *ℤ d) → at b ≡ at a +ℤ (pos t *ℤ by d)
  offset : (a b : ℤ) → at b -ℤ at a ≡ by (b -ℤ a)
  less : (a d : ℤ) → at (a -ℤ d) ≡ at a -ℤ by d

abbrev moved_by : ℤ → ℤ → ℤ
moved_by e a = a +ℤ e

abbrev unchanged : ℤ → ℤ
unchanged d = d

abbrev pub negated : ℤ → ℤ
negated d = pos 0 -ℤ d

moving : (e : ℤ) → IsAxisMap (moved_by e) unchanged
moving e =
    record {
      long = λ d. refl;
      steps = λ a b d t h. omega (arith, ints, h);
      offset = λ a b. omega (arith, ints);
      less = λ a d. omega (arith, ints);
    }

staying : IsAxisMap unchanged unchanged
staying = record { long = λ d. refl; steps = λ a b d t h. h; offset = λ a b. refl; less = λ a d. refl }

negating : IsAxisMap negated negated
negating =
    record {
      long = λ d. omega (arith, ints);
      steps = λ a b d t h. omega (arith, ints, h, negated_steps t d);
      offset = λ a b. omega (arith, ints);
      less = λ a d. omega (arith, ints);
    }

none_like : (u x : ℤ) → unsigned_abs x ≡ unsigned_abs u → u ≡ pos 0 → x ≡ pos 0
none_like u x e h = omega (arith, ints, e, h)

some_like : (u x : ℤ) → unsigned_abs x ≡ unsigned_abs u → u ≢ pos 0 → x ≢ pos 0
some_like u x e ne h = ne (none_like x u (sym e) h)

straight_like : (u v x y : ℤ) → unsigned_abs x ≡ unsigned_abs u → unsigned_abs y ≡ unsigned_abs v → IsStraight u v → IsStraight x y
straight_like u v x y ex ey (inl h) = inl (none_like u x ex h.0, some_like v y ey h.1)
straight_like u v x y ex ey (inr h) = inr (some_like u x ex h.0, none_like v y ey h.1)

diagonal_like : (u v x y : ℤ) → unsigned_abs x ≡ unsigned_abs u → unsigned_abs y ≡ unsigned_abs v → IsDiagonal u v → IsDiagonal x y
diagonal_like u v x y ex ey h = (ex ∙ h.0 ∙ sym ey, subst (λ n. 0 < n) (sym ex) h.1)

direction_like : (u v x y : ℤ) → unsigned_abs x ≡ unsigned_abs u → unsigned_abs y ≡ unsigned_abs v → IsDirection u v → IsDirection x y
direction_like u v x y ex ey (inl h) = inl (ex ∙ h.0, subst (λ n. n ≤ 2) (sym ey) h.1)
direction_like u v x y ex ey (inr h) = inr (ey ∙ h.0, subst (λ n. n ≤ 2) (sym ex) h.1)

leap_like : (u v x y : ℤ) → unsigned_abs x ≡ unsigned_abs u → unsigned_abs y ≡ unsigned_abs v → IsLeap u v → IsLeap x y
leap_like u v x y ex ey (inl h) = inl (ex ∙ h.0, ey ∙ h.1)
leap_like u v x y ex ey (inr h) = inr (ex ∙ h.0, ey ∙ h.1)

-- reach goes by how long an offset is, and by the pawns' way
reach_like : (s t : Side) (k : Kind) (u v x y : ℤ) → unsigned_abs x ≡ unsigned_abs u → unsigned_abs y ≡ unsigned_abs v
    → (v ≡ forward s → y ≡ forward t) → HasReach s k u v → HasReach t k x y
reach_like s t King u v x y ex ey ahead h = rw (ex, ey) h
reach_like s t Queen u v x y ex ey ahead (inl h) = inl (straight_like u v x y ex ey h)
reach_like s t Queen u v x y ex ey ahead (inr h) = inr (diagonal_like u v x y ex ey h)
reach_like s t Rook u v x y ex ey ahead h = straight_like u v x y ex ey h
reach_like s t Bishop u v x y ex ey ahead h = diagonal_like u v x y ex ey h
reach_like s t Knight u v x y ex ey ahead h = leap_like u v x y ex ey h
reach_like s t Pawn u v x y ex ey ahead h = (ex ∙ h.0, ahead h.1)
reach_like s t Chancellor u v x y ex ey ahead (inl h) = inl (straight_like u v x y ex ey h)
reach_like s t Chancellor u v x y ex ey ahead (inr h) = inr (leap_like u v x y ex ey h)
reach_like s t Archbishop u v x y ex ey ahead (inl h) = inl (diagonal_like u v x y ex ey h)
reach_like s t Archbishop u v x y ex ey ahead (inr h) = inr (leap_like u v x y ex ey h)
reach_like s t Amazon u v x y ex ey ahead (inl (inl h)) = inl (inl (straight_like u v x y ex ey h))
reach_like s t Amazon u v x y ex ey ahead (inl (inr h)) = inl (inr (diagonal_like u v x y ex ey h))
reach_like s t Amazon u v x y ex ey ahead (inr h) = inr (leap_like u v x y ex ey h)
reach_like s t Nightrider u v x y ex ey ahead (inl h) =
    inl (subst (λ n. 0 < n) (sym ex) h.0, ey ∙ h.1 ∙ ap (λ n. n + n) (sym ex))
reach_like s t Nightrider u v x y ex ey ahead (inr h) =
    inr (subst (λ n. 0 < n) (sym ey) h.0, ex ∙ h.1 ∙ ap (λ n. n + n) (sym ey))

-- a map by coordinates
abbrev by_axes : (ℤ → ℤ) → (ℤ → ℤ) → (Side → Side) → BoardMap
by_axes across along side = record { square = λ z. record { x = across z.x; y = along z.y }; side = side }

module _ (fx ux fy uy : ℤ → ℤ) (side : Side → Side) (across : IsAxisMap fx ux) (along : IsAxisMap fy uy)
    (opponent : (s : Side) → side (other s) ≡ other (side s)) (ahead : (s : Side) → uy (forward s) ≡ forward (side s)) where
  axes_reach : (s : Side) (k : Kind) (a z : Square) → HasReach s k (z.x -ℤ a.x) (z.y -ℤ a.y) → HasReach (side s) k (fx z.x -ℤ fx a.x) (fy z.y -ℤ fy a.y)
  axes_reach s k a z h =
      reach_like s (side s) k (z.x -ℤ a.x) (z.y -ℤ a.y) (fx z.x -ℤ fx a.x) (fy z.y -ℤ fy a.y)
      (ap unsigned_abs (across.offset a.x z.x) ∙ across.long (z.x -ℤ a.x))
      (ap unsigned_abs (along.offset a.y z.y) ∙ along.long (z.y -ℤ a.y))
      (λ e. along.offset a.y z.y ∙ ap uy e ∙ ahead s) h

  axes_steps : (a b : Square) (t : ℕ) (dx dy : ℤ) → b ≡ after_steps a t dx dy
      → ◌≡◌ {A = Square} (record { x = fx b.x; y = fy b.y }) (after_steps (record { x = fx a.x; y = fy a.y }) t (ux dx) (uy dy))
  axes_steps a b t dx dy h =
      square_is (record { x = fx b.x; y = fy b.y }) (fx a.x +ℤ (pos t *ℤ ux dx)) (fy a.y +ℤ (pos t *ℤ uy dy))
      (across.steps a.x b.x dx t (ap (λ c. c.x) h)) (along.steps a.y b.y dy t (ap (λ c. c.y) h))

  axes_between : (a b z : Square) → IsBetween a b z → IsBetween (record { x = fx a.x; y = fy a.y }) (record { x = fx b.x; y = fy b.y }) (record { x = fx z.x; y = fy z.y })
  axes_between a b z h =
      record {
        dx = ux h.dx;
        dy = uy h.dy;
        direction = direction_like h.dx h.dy (ux h.dx) (uy h.dy) (across.long h.dx) (along.long h.dy) h.direction;
        whole = h.whole;
        part = h.part;
        begun = h.begun;
        fewer = h.fewer;
        to_b = axes_steps a b h.whole h.dx h.dy h.to_b;
        to_z = axes_steps a z h.part h.dx h.dy h.to_z;
      }

  axes_carry : IsCarrier (by_axes fx fy side)
  axes_carry =
      record {
        opponent = opponent;
        reach = axes_reach;
        between = axes_between;
        behind = λ s z. ap (λ y. record { x = fx z.x; y = y }) (along.less z.y (forward s) ∙ ap (λ d. fy z.y -ℤ d) (ahead s));
      }

shift_carries : (dx dy : ℤ) → IsCarrier (shift dx dy)
shift_carries dx dy =
    axes_carry (moved_by dx) unchanged (moved_by dy) unchanged (λ s. s) (moving dx) (moving dy) (λ s. refl) (λ s. refl)

reflection_carries : IsCarrier reflection
reflection_carries = axes_carry negated negated unchanged unchanged (λ s. s) negating staying (λ s. refl) (λ s. refl)

negated_forward : (s : Side) → negated (forward s) ≡ forward (other s)
negated_forward White = refl
negated_forward Black = refl

exchange_carries : IsCarrier colour_exchange
exchange_carries = axes_carry unchanged unchanged negated negated other staying negating (λ s. refl) negated_forward

moved_back : (e a : ℤ) → moved_by (negated e) (moved_by e a) ≡ a
moved_back e a = omega (arith, ints)

moved_forth : (e a : ℤ) → moved_by e (moved_by (negated e) a) ≡ a
moved_forth e a = omega (arith, ints)

negated_back : (a : ℤ) → negated (negated a) ≡ a
negated_back a = omega (arith, ints)

pub shift_undone : (dx dy : ℤ) → IsUndone (shift dx dy) (shift (negated dx) (negated dy))
shift_undone dx dy =
    record {
      carrier = shift_carries dx dy;
      back = shift_carries (negated dx) (negated dy);
      square = λ z. sym (square_is z _ _ (sym (moved_back dx z.x)) (sym (moved_back dy z.y)));
      square_back = λ z. sym (square_is z _ _ (sym (moved_forth dx z.x)) (sym (moved_forth dy z.y)));
      side = λ s. refl;
      side_back = λ s. refl;
    }

pub reflection_undone : IsUndone reflection reflection
reflection_undone =
    record {
      carrier = reflection_carries;
      back = reflection_carries;
      square = λ z. ap (λ x. record { x = x; y = z.y }) (negated_back z.x);
      square_back = λ z. ap (λ x. record { x = x; y = z.y }) (negated_back z.x);
      side = λ s. refl;
      side_back = λ s. refl;
    }

pub exchange_undone : IsUndone colour_exchange colour_exchange
exchange_undone =
    record {
      carrier = exchange_carries;
      back = exchange_carries;
      square = λ z. ap (λ y. record { x = z.x; y = y }) (negated_back z.y);
      square_back = λ z. ap (λ y. record { x = z.x; y = y }) (negated_back z.y);
      side = other_other;
      side_back = other_other;
    }

pub shift_keeps : (dx dy : ℤ) → KeepsGame (shift dx dy)
shift_keeps dx dy = keeps_game (shift_undone dx dy)

pub reflection_keeps : KeepsGame reflection
reflection_keeps = keeps_game reflection_undone

pub exchange_keeps : KeepsGame colour_exchange
exchange_keeps = keeps_game exchange_undone
