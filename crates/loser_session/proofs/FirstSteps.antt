-- Who goes along a ray may go its first step, where his king is not in check: a man who stood between the king and another man, and may leave the line
-- that he bears along, goes along that line, and so does his first step.
use Rattle.std.proofs.Common.{◌≡◌, ◌≢◌, ◌⊎◌, inl, inr, ℕ, zero, suc, ◌+◌, ◌<◌, ℤ, pos, negsuc, ◌+ℤ◌, ◌-ℤ◌, ◌*ℤ◌, true, length, get_or, Option, Some, None, sym, ap, subst, ◌∙◌, arith, refl}
use Rattle.std.specs.Prelude.{IsSomeAnd, IsTrue}
use Rattle.std.specs.List.{All, Any}
use Rattle.std.proofs.lemmas.Int.{ints}
use Rattle.std.proofs.lemmas.Bool.{cases_lt}
use Rattle.std.proofs.lemmas.Bool.Decides.{eqb_tells}
use Rattle.std.proofs.lemmas.Option.{get_or_from_slice_get, same_Some, slice_get-get_or, slice_get_within}
use Rattle.game_rules.specs.declared.men.Kind.{Kind}
use Rattle.game_rules.specs.declared.men.Kind.TheVariants.{King, Queen, Rook, Bishop, Knight, Pawn, Chancellor, Archbishop, Amazon, Nightrider}
use Rattle.game_rules.specs.declared.men.Man.{Man}
use Rattle.game_rules.specs.declared.men.Place.TheVariants.{At}
use Rattle.game_rules.specs.declared.men.Ray.{Ray}
use Rattle.game_rules.specs.declared.men.Side.{Side}
use Rattle.game_rules.specs.declared.men.Square.{Square}
use Rattle.game_rules.specs.Game.{Position, Attacked, Bears, GoesAs, HasMove, InCheck, IsAfter, IsBetween, IsDirection, IsEmptySquare, IsLiveAnd, IsOccupiedBy, IsOpen, Legal, Sound, StandsOn, after_steps, forward, man_at, other, square_of}
use Rattle.game_rules.specs.Rays.{leap, ray_of, rays_of, serves_captures}
use Rattle.game_laws.specs.Answer.{CanGo, distance}
use Rattle.game_laws.specs.OnRay.{IsBorneAlong, IsOnOneRay, IsOnRay}
use Rattle.game_laws.specs.Reach.{HasReach}
use Rattle.game_laws.proofs.CheckLemmas.{IsChecked, any_is, one_square, some_and}
use Rattle.game_laws.proofs.CrossLemmas.{IsOpposite, none_after, steps_ahead, steps_back}
use Rattle.game_laws.proofs.DecideLemmas.{Decided, any_decided, below, between, can_go, in_check, is_after, map_decided, position_after, some_decided, square_same}
use Rattle.game_laws.proofs.MoveLemmas.{after_each}
use Rattle.game_laws.proofs.MateLemmas.{mate_or_move}
use Rattle.game_laws.proofs.RayLemmas.{borne_bears, step_one, true_or_not}
use Rattle.game_laws.proofs.TableLemmas.{ray_is}
use Rattle.move_choice.proofs.Firsts.{man_high}
use Rattle.loser_session.specs.FirstSteps.{CanStep, first_square}
use Rattle.game_laws.proofs.OpenLemmas.{bears_openly, openly_bears}
use Rattle.game_laws.proofs.SoundLemmas.{moved, taken, kept, any_at, at_same, fate, king_not_taken, live_at, other_differs}
use Rattle.game_laws.proofs.LineLemmas.{on_way, steps_distance, steps_toward, steps_toward_x, steps_toward_y, square_is}

less_by : (m n : ℕ) → m < n → (w : ℕ) × (0 < w) × (n ≡ m + w)
less_by zero n h = (n, h, omega arith)
less_by (suc m) zero h = absurd (omega (arith, h))
less_by (suc m) (suc n) h = let w = less_by m n (omega (arith, h)) in (w.0, w.1, omega (arith, w.2))

-- equal steps of two directions that lead from one square to another are the same, and as many
module _ (a b : Square) (u v x y : ℤ) (t w : ℕ) (d : IsDirection u v) (e : IsDirection x y) (by : b ≡ after_steps a t u v) (also : b ≡ after_steps a w x y)
    (some : 0 < t) (begun : 0 < w) where
  same_steps : t ≡ w
  same_steps = sym (steps_distance a b u v d t by) ∙ steps_distance a b x y e w also

  same_across : u ≡ x
  same_across = sym (steps_toward_x a b u v d t by some) ∙ steps_toward_x a b x y e w also begun

  same_along : v ≡ y
  same_along = sym (steps_toward_y a b u v d t by some) ∙ steps_toward_y a b x y e w also begun

  same_first : after_steps a 1 u v ≡ after_steps a 1 x y
  same_first = ap (λ n. after_steps a 1 n v) same_across ∙ ap (λ n. after_steps a 1 x n) same_along

back_direction : (dx dy : ℤ) → IsDirection dx dy → IsDirection (pos 0 -ℤ dx) (pos 0 -ℤ dy)
back_direction dx dy (inl h) = inl (omega (arith, ints, h.0), omega (arith, ints, h.1))
back_direction dx dy (inr h) = inr (omega (arith, ints, h.0), omega (arith, ints, h.1))

-- one step more, and one step less
one_more : (b a d : ℤ) (s : ℕ) → b ≡ a +ℤ (pos s *ℤ d) → b +ℤ (pos 1 *ℤ d) ≡ a +ℤ (pos (suc s) *ℤ d)
one_more b a d s is = omega (arith, ints, is)

step_more : (b a : Square) (dx dy : ℤ) (s : ℕ) → b ≡ after_steps a s dx dy → after_steps b 1 dx dy ≡ after_steps a (suc s) dx dy
step_more b a dx dy s is =
    square_is (after_steps b 1 dx dy) _ _ (one_more b.x a.x dx s (ap (λ z. z.x) is)) (one_more b.y a.y dy s (ap (λ z. z.y) is))

one_less : (b a d : ℤ) (s : ℕ) → b ≡ a +ℤ (pos (suc s) *ℤ d) → b +ℤ (pos 1 *ℤ (pos 0 -ℤ d)) ≡ a +ℤ (pos s *ℤ d)
one_less b a d s is = omega (arith, ints, is)

step_less : (b a : Square) (dx dy : ℤ) (s : ℕ) → b ≡ after_steps a (suc s) dx dy → after_steps b 1 (pos 0 -ℤ dx) (pos 0 -ℤ dy) ≡ after_steps a s dx dy
step_less b a dx dy s is =
    square_is (after_steps b 1 (pos 0 -ℤ dx) (pos 0 -ℤ dy)) _ _ (one_less b.x a.x dx s (ap (λ z. z.x) is)) (one_less b.y a.y dy s (ap (λ z. z.y) is))

-- how far a square on the line lies from its beginning, in the steps of another square between
module _ (a k b z : Square) (line : IsBetween a k b) where
  begin_or_between : (z ≡ a) ⊎ IsBetween a k z → (s : ℕ) × (s < line.whole) × (z ≡ after_steps a s line.dx line.dy)
  begin_or_between (inl e) = (0, omega (arith, line.fewer), e ∙ none_after a line.dx line.dy)
  begin_or_between (inr h) =
      let few : h.part < line.whole =
      subst (λ n. h.part < n) (sym (steps_distance a k h.dx h.dy h.direction h.whole h.to_b) ∙ steps_distance a k line.dx line.dy line.direction line.whole line.to_b) h.fewer in (
        h.part,
        few,
        h.to_z ∙ steps_toward a k h.dx h.dy h.direction h.whole h.to_b (omega (arith, h.begun, h.fewer)) h.part
            ∙ sym (steps_toward a k line.dx line.dy line.direction line.whole line.to_b (omega (arith, line.begun, line.fewer)) h.part),
      )

-- a man that goes from a square between two others to another one between them, or to the first, goes along their line
module _ (a k b z : Square) (line : IsBetween a k b) (s : ℕ) (fewer : s < line.whole) (at : z ≡ after_steps a s line.dx line.dy)
    (u v : ℤ) (d : IsDirection u v) (t : ℕ) (more : 1 < t) (goes : z ≡ after_steps b t u v) where
  abbrev dx : ℤ
  dx = line.dx

  abbrev dy : ℤ
  dy = line.dy

  between_at : (n : ℕ) (c : Square) → 0 < n → n < line.whole → c ≡ after_steps a n line.dx line.dy → IsBetween a k c
  between_at n c begun less is =
      record { dx = line.dx; dy = line.dy; direction = line.direction; whole = line.whole; part = n; begun = begun; fewer = less; to_b = line.to_b; to_z = is }

  onward : (w : ℕ) → 0 < w → s ≡ line.part + w → IsBetween a k (after_steps b 1 u v)
  onward w some is =
      let there : z ≡ after_steps b w line.dx line.dy =
      steps_ahead z b a line.dx line.dy line.part w line.to_z (at ∙ ap (λ n. after_steps a n line.dx line.dy) is) in
      between_at (suc line.part) (after_steps b 1 u v) (omega arith) (omega (arith, some, is, fewer))
      (same_first b z u v line.dx line.dy t w d line.direction goes there (omega (arith, more)) some ∙ step_more b a line.dx line.dy line.part line.to_z)

  no_way : s ≡ line.part → ⊥
  no_way is =
      let here : b ≡ z = line.to_z ∙ ap (λ n. after_steps a n line.dx line.dy) (sym is) ∙ sym at in
      let none : distance b z ≡ 0 = steps_distance b z u v d 0 (sym here ∙ none_after b u v) in
      let far : distance b z ≡ t = steps_distance b z u v d t goes in
      omega (arith, none, far, more)

  backward : (w : ℕ) → 0 < w → line.part ≡ s + w → IsBetween a k (after_steps b 1 u v)
  backward w some is =
      let from : b ≡ after_steps z w line.dx line.dy =
      steps_ahead b z a line.dx line.dy s w at (line.to_z ∙ ap (λ n. after_steps a n line.dx line.dy) is) in
      let nx : ℤ = pos 0 -ℤ line.dx in
      let ny : ℤ = pos 0 -ℤ line.dy in
      let opposite : IsOpposite nx ny line.dx line.dy = (omega (arith, ints), omega (arith, ints)) in
      let there : z ≡ after_steps b w nx ny = steps_back b z nx ny line.dx line.dy w opposite from in
      let turned : IsDirection nx ny = back_direction line.dx line.dy line.direction in
      let many : t ≡ w = same_steps b z u v nx ny t w d turned goes there (omega (arith, more)) some in
      let first : after_steps b 1 u v ≡ after_steps b 1 nx ny = same_first b z u v nx ny t w d turned goes there (omega (arith, more)) some in
      before line.part refl many first
    where
      before : (n : ℕ) → line.part ≡ n → t ≡ w → after_steps b 1 u v ≡ after_steps b 1 (pos 0 -ℤ line.dx) (pos 0 -ℤ line.dy) → IsBetween a k (after_steps b 1 u v)
      before zero e many first = absurd (omega (arith, e, is, some))
      before (suc n) e many first =
          between_at n (after_steps b 1 u v) (omega (arith, e, is, many, more)) (omega (arith, e, line.fewer))
          (first ∙ step_less b a line.dx line.dy n (line.to_z ∙ ap (λ j. after_steps a j line.dx line.dy) e))

  pub first_between : IsBetween a k (after_steps b 1 u v)
  first_between =
      elim (cases_lt line.part s) [
        | inl ahead ↦ let w = less_by line.part s ahead in onward w.0 w.1 w.2
        | inr low ↦ elim (cases_lt s line.part) [
          | inl behind ↦ let w = less_by s line.part behind in backward w.0 w.1 w.2
          | inr high ↦ absurd (no_way (omega (arith, low, high)))
        ]
      ]

-- what holds of each man holds of the one of a number
all_at : (p : Position) (P : Man → Type 0) (k : ℕ) (m : Man) → man_at p k ≡ Some m → All P p.men → P m
all_at p P zero m is all = cc
all_at p P (suc k) m is all = subst P (get_or_from_slice_get p.men k m m is) (all k m (slice_get_within p.men k m is))

-- the check of a side, for either turn
checked_men : (p : Position) (s : Side) → InCheck p s → IsChecked (record { men = p.men; turn = s })
checked_men p s check =
    let k = any_is p _ check in
    let at_king = some_and (square_of k.1) _ k.3.2 in
    let c = any_is p _ at_king.2 in
    let at_checker = some_and (square_of c.1) _ (bears_openly p c.1 at_king.0 c.3.1) in
    record {
      king_number = k.0;
      king = k.1;
      king_is = k.2;
      king_side = k.3.0;
      king_kind = k.3.1;
      king_square = at_king.0;
      king_there = at_king.1;
      number = c.0;
      checker = c.1;
      checker_is = c.2;
      checker_side = c.3.0;
      square = at_checker.0;
      there = at_checker.1;
      reach = at_checker.2.0;
      clear = at_checker.2.1;
    }

-- a man who may go two steps or more of a direction over empty squares, where his king is not in check
module _ (p : Position) (i : ℕ) (z : Square) (q : Position) (sound : Sound p) (calm : InCheck p p.turn → ⊥) (l : Legal p i z q)
    (b : Square) (there : StandsOn l.step.man b) (not_king : l.step.man.kind ≢ King)
    (u v : ℤ) (d : IsDirection u v) (t : ℕ) (more : 1 < t) (goes : z ≡ after_steps b t u v) (clear : IsOpen p b z) where
  abbrev w : Square
  w = after_steps b 1 u v

  on_the_way : IsBetween b z (after_steps b 1 u v)
  on_the_way = record { dx = u; dy = v; direction = d; whole = t; part = 1; begun = omega arith; fewer = more; to_b = goes; to_z = refl }

  first_empty : IsEmptySquare p (after_steps b 1 u v)
  first_empty k e within stands =
      clear k e within (live_at (get_or p.men k e) (after_steps b 1 u v) (IsBetween b z) stands on_the_way)

  -- after his first step
  module _ (first : Position) (after : IsAfter p i (after_steps b 1 u v) first) where
    -- the others are as they were
    same_other : (k : ℕ) (m : Man) → k ≢ i → man_at first k ≡ Some m → man_at p k ≡ Some m
    same_other k m ne is =
        let was = at_same first p k m (sym after.same_count) is in
        elim (fate after k was.0 m was.1 is) [
          | moved e at ↦ absurd (ne e)
          | taken off stands at ↦ absurd (all_at p (λ n. StandsOn n (after_steps b 1 u v) → ⊥) k was.0 was.1 first_empty stands)
          | kept off at ↦ was.1 ∙ ap (λ n. Some n) (sym at)
        ]

    -- in a check from a man there, the man who has gone stood in between before
    module _ (c : IsChecked (record { men = first.men; turn = p.turn })) where
      his_king : c.king_number ≢ i
      his_king e =
          let here = after.mover l.step.man l.step.is_man in
          let both : Some c.king ≡ Some (record l.step.man { place = At (after_steps b 1 u v).x (after_steps b 1 u v).y }) =
          sym c.king_is ∙ ap (λ n. man_at first n) e ∙ here in
          not_king (ap (λ m. m.kind) (sym (same_Some _ _ both)) ∙ c.king_kind)

      his_side : c.number ≢ i
      his_side e =
          let here = after.mover l.step.man l.step.is_man in
          let both : Some c.checker ≡ Some (record l.step.man { place = At (after_steps b 1 u v).x (after_steps b 1 u v).y }) =
          sym c.checker_is ∙ ap (λ n. man_at first n) e ∙ here in
          other_differs p.turn (sym l.step.his_turn ∙ ap (λ m. m.side) (sym (same_Some _ _ both)) ∙ c.checker_side)

      king_was : man_at p c.king_number ≡ Some c.king
      king_was = same_other c.king_number c.king his_king c.king_is

      checker_was : man_at p c.number ≡ Some c.checker
      checker_was = same_other c.number c.checker his_side c.checker_is

      -- no other man stands in between
      abbrev Off : Man → Type 0
      Off m = IsLiveAnd m (IsBetween c.square c.king_square) → ⊥

      others_off : (k : ℕ) (m : Man) → k ≢ i → man_at p k ≡ Some m → Off m
      others_off k m ne is =
          let now = at_same p first k m after.same_count is in
          let same : Some m ≡ Some now.0 = sym is ∙ same_other k now.0 ne now.1 in
          subst Off (sym (same_Some m now.0 same)) (all_at first Off k now.0 now.1 c.clear)

      -- if both stand and no man is in between, there is check
      checks : (r : Position) → man_at r c.king_number ≡ Some c.king → man_at r c.number ≡ Some c.checker → IsOpen r c.square c.king_square → InCheck r p.turn
      checks r king checker open_line =
          let bears : Bears r c.checker c.king_square =
          openly_bears r c.checker c.king_square
          (live_at c.checker c.square (λ a. HasReach c.checker.side c.checker.kind (c.king_square.x -ℤ a.x) (c.king_square.y -ℤ a.y) × IsOpen r a c.king_square) c.there
          (c.reach, open_line)) in
          let attacked : Attacked r (other p.turn) c.king_square = any_at r _ c.number c.checker checker (c.checker_side, bears) in
          any_at r _ c.king_number c.king king (c.king_side, c.king_kind, live_at c.king c.king_square (Attacked r (other p.turn)) c.king_there attacked)

      -- before the move he stood there
      open_before : (IsBetween c.square c.king_square b → ⊥) → IsOpen p c.square c.king_square
      open_before off k e within =
          elim (eqb_tells (suc k) i) [
            | inl is ↦
                let here : man_at p (suc k) ≡ Some l.step.man = subst (λ n. man_at p n ≡ Some l.step.man) (sym is.1) l.step.is_man in
                let him : get_or p.men k e ≡ l.step.man = get_or_from_slice_get p.men k l.step.man e here in
                subst Off (sym him) (λ live.
                let at = some_and (square_of l.step.man) _ live in
                off (subst (IsBetween c.square c.king_square) (one_square l.step.man b at.0 there at.1) at.2))
            | inr ne ↦ others_off (suc k) (get_or p.men k e) ne.1 (slice_get-get_or p.men k e within)
          ]

      stood_between : IsBetween c.square c.king_square b
      stood_between = elim (between c.square c.king_square b) [
        | inl is ↦ is
        | inr off ↦ absurd (calm (checks p king_was checker_was (open_before off)))
      ]

      -- and his move, which leaves no check, took the other man or kept in between
      open_after : (IsBetween c.square c.king_square z → ⊥) → IsOpen q c.square c.king_square
      open_after off k e within =
          let before : k < length p.men = omega (arith, within, l.step.after.same_count) in
          after_each l.step.after k e before Off
          (λ is live. off live)
          (λ ne stands live. live)
          (λ ne stands. others_off (suc k) (get_or p.men k e) ne (slice_get-get_or p.men k e before))

      king_left : man_at q c.king_number ≡ Some c.king
      king_left =
          let now = at_same p q c.king_number c.king l.step.after.same_count king_was in
          elim (fate l.step.after c.king_number c.king now.0 king_was now.1) [
            | moved e is ↦ absurd (his_king e)
            | taken ne stands is ↦ absurd (king_not_taken p i z q sound l.step c.king_number c.king king_was c.king_kind stands)
            | kept off is ↦ now.1 ∙ ap (λ n. Some n) is
          ]

      checker_left : z ≢ c.square → man_at q c.number ≡ Some c.checker
      checker_left off_square =
          let now = at_same p q c.number c.checker l.step.after.same_count checker_was in
          elim (fate l.step.after c.number c.checker now.0 checker_was now.1) [
            | moved e is ↦ absurd (his_side e)
            | taken ne stands is ↦ absurd (off_square (one_square c.checker c.square z c.there stands))
            | kept off is ↦ now.1 ∙ ap (λ n. Some n) is
          ]

      goes_there : (z ≡ c.square) ⊎ IsBetween c.square c.king_square z
      goes_there = elim (square_same z c.square) [
        | inl e ↦ inl e
        | inr off ↦ inr (elim (between c.square c.king_square z) [
          | inl is ↦ is
          | inr none ↦ absurd (l.safe (checks q king_left (checker_left off) (open_after none)))
        ])
      ]

      -- so his first step kept in between
      steps_between : IsBetween c.square c.king_square (after_steps b 1 u v)
      steps_between =
          let at = begin_or_between c.square c.king_square b z stood_between goes_there in
          first_between c.square c.king_square b z stood_between at.0 at.1 at.2 u v d t more goes

      none_checks : ⊥
      none_checks =
          let moved : Man = record l.step.man { place = At (after_steps b 1 u v).x (after_steps b 1 u v).y } in
          all_at first Off i moved (after.mover l.step.man l.step.is_man) c.clear steps_between

    pub first_safe : InCheck first p.turn → ⊥
    first_safe check = none_checks (checked_men first p.turn check)

-- a far ray serves captures too, and a man that goes along one goes where he bears
pub record GoesFar (k : Kind) (n : ℕ) : Type 0 where
  pub serves : IsTrue (serves_captures k n)
  pub goes : (p : Position) (m : Man) (z : Square) → Bears p m z → GoesAs k p m z

goes_far : (k : Kind) (s : Side) (n : ℕ) (r : Ray) → ray_of k s n ≡ Some r → r.far ≡ true → GoesFar k n
goes_far King s n r is far = record { serves = refl; goes = λ p m z h. h }
goes_far Queen s n r is far = record { serves = refl; goes = λ p m z h. h }
goes_far Rook s n r is far = record { serves = refl; goes = λ p m z h. h }
goes_far Bishop s n r is far = record { serves = refl; goes = λ p m z h. h }
goes_far Knight s n r is far = record { serves = refl; goes = λ p m z h. h }
goes_far Pawn s n r is far = absurd (near_pawn s n r is far)
  where
    near_pawn : (s : Side) (n : ℕ) (r : Ray) → ray_of Pawn s n ≡ Some r → r.far ≡ true → ⊥
    near_pawn s zero r is far = let same : (leap (pos 0) (forward s)).far ≡ r.far = ap (λ x. x.far) (same_Some _ r is) in cc
    near_pawn s (suc zero) r is far = let same : (leap (negsuc 0) (forward s)).far ≡ r.far = ap (λ x. x.far) (same_Some _ r is) in cc
    near_pawn s (suc (suc zero)) r is far = let same : (leap (pos 1) (forward s)).far ≡ r.far = ap (λ x. x.far) (same_Some _ r is) in cc
    near_pawn s (suc (suc (suc n))) r is far = cc
goes_far Chancellor s n r is far = record { serves = refl; goes = λ p m z h. h }
goes_far Archbishop s n r is far = record { serves = refl; goes = λ p m z h. h }
goes_far Amazon s n r is far = record { serves = refl; goes = λ p m z h. h }
goes_far Nightrider s n r is far = record { serves = refl; goes = λ p m z h. h }

-- no man is between a square and the first one of a direction
step_open : (p : Position) (b : Square) (u v : ℤ) → IsDirection u v → IsOpen p b (after_steps b 1 u v)
step_open p b u v d k e within live =
    let at = some_and (square_of (get_or p.men k e)) _ live in
    let way = on_way at.2 in
    let one : distance b (after_steps b 1 u v) ≡ 1 = steps_distance b (after_steps b 1 u v) u v d 1 refl in
    omega (arith, way.begun, way.fewer, one)

-- a man who goes along a ray from his square
module _ (p : Position) (i : ℕ) (z : Square) (q : Position) (sound : Sound p) (calm : InCheck p p.turn → ⊥) (l : Legal p i z q)
    (b : Square) (there : StandsOn l.step.man b) (n t : ℕ) (on : IsOnRay l.step.man b z n t) where
  abbrev r : Ray
  r = on.ray

  direction : IsDirection on.ray.dx on.ray.dy
  direction = (ray_is l.step.man.side l.step.man.kind n on.ray on.is_ray).direction

  -- more than one step
  module _ (more : 1 < t) where
    far : on.ray.far ≡ true
    far = elim (true_or_not on.ray.far) [ inl is ↦ is | inr near ↦ absurd (omega (arith, more, on.leads.one near)) ]

    not_king : l.step.man.kind ≢ King
    not_king = (ray_is l.step.man.side l.step.man.kind n on.ray on.is_ray).not_king far

    clear : IsOpen p b z
    clear =
        let w = some_and (square_of l.step.man) _ (step_one p i z q l.step) in
        let one : IsOnOneRay p l.step.man w.0 z = w.2 in
        let here : w.0 ≡ b = one_square l.step.man b w.0 there w.1 in
        let his : IsOnOneRay p l.step.man b z = subst (λ a. IsOnOneRay p l.step.man a z) here one in
        let same = his.only n t on in
        his.clear (alike his.on same.0)
      where
        alike : {m k : ℕ} (has : IsOnRay l.step.man b z m k) → n ≡ m → IsTrue has.ray.far
        alike {m} has e = ap (λ x. x.far) (same_Some has.ray on.ray (sym has.is_ray ∙ ap (ray_of l.step.man.kind l.step.man.side) (sym e) ∙ on.is_ray)) ∙ far

    empty : IsEmptySquare p (first_square b on.ray)
    empty = first_empty p i z q sound calm l b there not_king on.ray.dx on.ray.dy direction t more on.leads.leads clear

    not_held : IsOccupiedBy p p.turn (first_square b on.ray) → ⊥
    not_held (k, m, within, is, h) = empty k m within (subst (λ x. StandsOn x (first_square b on.ray)) (sym is) h.1)

    borne_there : Bears p l.step.man (first_square b on.ray)
    borne_there =
        let goes = goes_far l.step.man.kind l.step.man.side n on.ray on.is_ray far in
        borne_bears p l.step.man (first_square b on.ray)
        (live_at l.step.man b (λ a. IsBorneAlong p l.step.man a (first_square b on.ray)) there
        (record {
          number = n;
          ray = on.ray;
          is_ray = on.is_ray;
          serves = goes.serves;
          along = (1, record { begun = omega arith; one = λ near. refl; leads = refl });
          clear = λ far. step_open p b on.ray.dx on.ray.dy direction;
        }))

    steps_first : (j : ℕ) → i ≡ suc j → CanGo p i (first_square b on.ray)
    steps_first j e =
        let first = position_after p j (first_square b on.ray) in
        let after : IsAfter p i (first_square b on.ray) first = subst (λ k. IsAfter p k (first_square b on.ray) first) (sym e) (is_after p j (first_square b on.ray)) in (
          first,
          record {
            step = record {
              man = l.step.man;
              is_man = l.step.is_man;
              his_turn = l.step.his_turn;
              not_own = not_held;
              goes = (goes_far l.step.man.kind l.step.man.side n on.ray on.is_ray far).goes p l.step.man (first_square b on.ray) borne_there;
              after = after;
            };
            safe = first_safe p i z q sound calm l b there not_king on.ray.dx on.ray.dy direction t more on.leads.leads clear first after;
          },
        )

  numbered : (k : ℕ) → i ≡ k → man_at p k ≡ Some l.step.man → 1 < t → CanGo p i (first_square b on.ray)
  numbered zero e is more = absurd (cc)
  numbered (suc j) e is more = steps_first more j e

  pub goes_first : CanGo p i (first_square b on.ray)
  goes_first =
      elim (cases_lt 1 t) [
        | inl more ↦ numbered i refl l.step.is_man more
        | inr low ↦
            let one : t ≡ 1 = omega (arith, low, on.leads.begun) in
            let same : z ≡ first_square b on.ray = on.leads.leads ∙ ap (λ k. after_steps b k on.ray.dx on.ray.dy) one in
            subst (CanGo p i) same (q, l)
      ]

-- wherever he stands
pub first_is_free : (p : Position) (i : ℕ) (z : Square) (q : Position) (l : Legal p i z q) → Sound p → (InCheck p p.turn → ⊥)
    → IsLiveAnd l.step.man (λ a. (n k : ℕ) (on : IsOnRay l.step.man a z n k) → CanGo p i (first_square a on.ray))
first_is_free p i z q l sound calm =
    let w = some_and (square_of l.step.man) _ (step_one p i z q l.step) in
    live_at l.step.man w.0 (λ a. (n k : ℕ) (on : IsOnRay l.step.man a z n k) → CanGo p i (first_square a on.ray)) w.1
    (λ n k on. goes_first p i z q sound calm l w.0 w.1 n k on)

-- whether a man can go a first step is known
step_decided : (p : Position) (i : ℕ) (o : Option Man)
    → Decided (IsSomeAnd o (λ m. IsLiveAnd m (λ a. Any (λ r. CanGo p i (first_square a r)) (rays_of m.kind m.side))))
step_decided p i None = inr (λ h. h)
step_decided p i (Some m) =
    some_decided (square_of m) _
    (λ a. any_decided (λ r. CanGo p i (first_square a r)) (λ r. can_go p i (first_square a r)) (rays_of m.kind m.side))

some_step : (p : Position) (i : ℕ) (o : Option Man)
    → IsSomeAnd o (λ m. IsLiveAnd m (λ a. Any (λ r. CanGo p i (first_square a r)) (rays_of m.kind m.side))) → HasMove p
some_step p i None h = absurd h
some_step p i (Some m) h =
    let w = some_and (square_of m) _ h in
    let (k, r, within, is, go) = w.2 in
    (i, first_square w.0 r, go.0, go.1)

-- in a position without check, each legal move gives a first step
step_found : (p : Position) → Sound p → (InCheck p p.turn → ⊥) → HasMove p → (i : ℕ) × (i < suc (length p.men)) × CanStep p i
step_found p sound calm (i, z, q, l) =
    let w = some_and (square_of l.step.man) _ (step_one p i z q l.step) in
    let one : IsOnOneRay p l.step.man w.0 z = w.2 in
    let go : CanGo p i (first_square w.0 one.on.ray) = goes_first p i z q sound calm l w.0 w.1 one.number one.distance one.on in
    let found : Any (λ r. CanGo p i (first_square w.0 r)) (rays_of l.step.man.kind l.step.man.side) = (
      one.number,
      one.on.ray,
      slice_get_within (rays_of l.step.man.kind l.step.man.side) one.number one.on.ray one.on.is_ray,
      get_or_from_slice_get (rays_of l.step.man.kind l.step.man.side) one.number one.on.ray one.on.ray one.on.is_ray,
      go,
    ) in
    let Steps : Man → Type 0 = λ m. IsLiveAnd m (λ a. Any (λ r. CanGo p i (first_square a r)) (rays_of m.kind m.side)) in (
      i,
      (let high = man_high p i l.step.man l.step.is_man in omega (arith, high)),
      subst (λ o. IsSomeAnd o Steps) (sym l.step.is_man)
          (live_at l.step.man w.0 (λ a. Any (λ r. CanGo p i (first_square a r)) (rays_of l.step.man.kind l.step.man.side)) w.1 found),
    )

-- each sound position has a legal move or none
pub moves_known : (p : Position) → Sound p → Decided (HasMove p)
moves_known p sound = elim (in_check p p.turn) [
  | inl check ↦ elim (mate_or_move p sound check) [
    | inl mate ↦ inr (λ h. mate.stuck h.0 h.1 h.2 h.3)
    | inr moves ↦ inl moves
  ]
  | inr calm ↦
      map_decided ((i : ℕ) × (i < suc (length p.men)) × CanStep p i) (HasMove p)
      (λ h. some_step p h.0 (man_at p h.0) h.2) (step_found p sound calm)
      (below (CanStep p) (λ i. step_decided p i (man_at p i)) (suc (length p.men)))
]
