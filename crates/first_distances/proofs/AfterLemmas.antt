-- A first move along a ray, and the coordinates after it.
use Rattle.std.proofs.Common.{◌≡◌, ◌≢◌, ℕ, ◌+◌, ◌-◌, ◌/◌, ◌<◌, ◌≤◌, true, false, length, Some, inl, inr, refl, sym, ap, subst, ◌∙◌, arith}
use Rattle.std.specs.Prelude.{slice_get}
use Rattle.std.proofs.lemmas.Option.{same_Some}
use Rattle.game_rules.specs.Game.{IsAfter, IsLeftBy, Legal, Lost, Position, Sound, StandsOn, Step, after_steps, man_at, other, place_square, square_of}
use Rattle.game_rules.specs.Rays.{ray_of}
use Rattle.game_rules.specs.declared.men.Man.{Man}
use Rattle.game_rules.specs.declared.men.Place.TheVariants.{At, Gone}
use Rattle.game_rules.specs.declared.men.Ray.{Ray}
use Rattle.game_rules.specs.declared.men.Side.{Side}
use Rattle.game_rules.specs.declared.men.Square.{Square}
use Rattle.game_laws.specs.OnRay.{IsOnOneRay, IsOnRay}
use Rattle.game_laws.proofs.CheckLemmas.{one_square, some_and}
use Rattle.game_laws.proofs.LineLemmas.{steps_distance, steps_toward_x, steps_toward_y}
use Rattle.game_laws.proofs.MoveLemmas.{stands_or_not}
use Rattle.game_laws.proofs.RayLemmas.{step_one, true_or_not}
use Rattle.game_laws.proofs.SoundLemmas.{any_at, at_same, stands_moved}
use Rattle.game_laws.proofs.TableLemmas.{one_number, ray_is}
use Rattle.mask_sets.specs.Stock.{mask_of}
use Rattle.game_laws.specs.Stock.{HasStock}
use Rattle.mask_sets.specs.Tuple.{tuple_of}
use Rattle.mask_sets.proofs.Masks.{mask_tells}
use Rattle.game_laws.proofs.StockLemmas.{own_stock, step_stock, stock_has, stock_man-men}
use Rattle.mate_plan.specs.PlanOf.{last_ply}
use Rattle.rule_formula.specs.Fits.{IsGameMask}
use Rattle.rule_formula.specs.Placed.{is_live, place_at, placed}
use Rattle.rule_formula.proofs.AfterTheorem.{moved, moved_other, moved_same}
use Rattle.rule_formula.proofs.GameTheorem.{arrives, live_by_mask, placed_mask, placed_stock, sound_fits}
use Rattle.rule_formula.proofs.LawTheorem.{square_stands, squares_of, steps_by_options}
use Rattle.rule_formula.proofs.ListTheorem.{options_are}
use Rattle.rule_formula.proofs.MoveLemmas.{same_number}
use Rattle.rule_formula.proofs.PlacedLemmas.{from_placed, stands_placed}
use Rattle.rule_formula.proofs.PointTracks.{place_there}
use Rattle.rule_formula.proofs.StockLemmas.{stock_placed, stock_unique}
use Rattle.rule_formula.proofs.SweptLemmas.{placed_same}
use Rattle.winning_sets.specs.Kept.{Kept, moves_left}
use Rattle.winning_sets.specs.Solve.{IsTupleOf}
use Rattle.winning_sets.proofs.KeptParts.{moves_counted, value_lost}
use Rattle.move_choice.specs.Aims.{IsMover}
use Rattle.winner_session.specs.Firsts.{Firsts}
use Rattle.first_distances.specs.RayFormula.{masks_after}
use Rattle.first_distances.proofs.LineLemmas.{tuple_gone}
use Rattle.first_distances.proofs.MaskLemmas.{after_prey}

-- the live men stand where they did, and the mover where he went
squares_after : {p q : Position} {i : ℕ} {z : Square} → IsAfter p i z q → (k : ℕ) → 0 < k → k ≤ length p.men → is_live (mask_of q) k ≡ true
    → squares_of q k ≡ moved (squares_of p) i z k
squares_after {p} {q} {i} {z} after k low high on =
    let (m, in_stock) = stock_has p.men k low high in
    let is : man_at p k ≡ Some m = sym (stock_man-men p k) ∙ in_stock in
    let (n, at) = at_same p q k m after.same_count is in
    let live : n.place ≢ Gone = live_by_mask q k n at on in
    let (w, stands) = place_there n live in
    let now : squares_of q k ≡ w = square_stands q k n w (stock_man-men q k ∙ at) stands in
    elim (same_number k i) [
      | inl e ↦
          let his : man_at q k ≡ Some (record m { place = At z.x z.y }) =
          subst (λ j. man_at q j ≡ Some (record m { place = At z.x z.y })) (sym e) (after.mover m (subst (λ j. man_at p j ≡ Some m) e is)) in
          let same : n ≡ record m { place = At z.x z.y } = same_Some n (record m { place = At z.x z.y }) (sym at ∙ his) in
          let here : z ≡ w = stands_moved m z w (subst (λ a. StandsOn a w) same stands) in
          now ∙ sym here ∙ sym (moved_same (squares_of p) i k z e)
      | inr ne ↦
          let left : IsLeftBy z m n = after.others k m n ne is at in
          elim (stands_or_not m z) [
            | inl stood ↦ absurd (live (ap (λ (a : Man). a.place) (left.taken stood)))
            | inr away ↦
                let same : n ≡ m = left.kept away in
                now ∙ sym (moved_other (squares_of p) i k z ne ∙ square_stands p k m w in_stock (subst (λ a. StandsOn a w) same stands))
          ]
    ]

tuple_after : {p q : Position} {i : ℕ} {z : Square} → IsAfter p i z q
    → tuple_of q ≡ tuple_of (placed p.men (is_live (mask_of q)) (other p.turn) (moved (squares_of p) i z))
tuple_after {p} {q} {i} {z} after =
    let stock : HasStock p.men q = step_stock (own_stock p) after in
    ap tuple_of
    (sym (stock_placed stock) ∙ ap (λ s. placed p.men (is_live (mask_of q)) s (squares_of q)) after.turn
    ∙ placed_same p.men (is_live (mask_of q)) (other p.turn) (squares_of q) (moved (squares_of p) i z) (λ k low high on. squares_after after k low high on))

-- the winner has one move less
less_one : (w t : Side) (n : ℕ) → t ≡ w → moves_left (last_ply w t n) 1 ≡ n - 1
less_one w t n e = ap (λ s. moves_left (last_ply w s n) 1) e ∙ (moves_counted w n 1).0 ∙ one n
  where
    one : (n : ℕ) → n - (1 + 1) / 2 ≡ n - 1
    one n = omega arith

module _ {p : Position} {i ray : ℕ} {r : Ray} (mover : IsMover p i ray r) where
  -- a step to a square as many steps of the ray away goes along it
  on_his_ray : (t : ℕ) (z : Square) (q : Position) → 1 ≤ t → Step p i z q → z ≡ after_steps mover.square t r.dx r.dy
      → IsOnRay mover.man mover.square z ray t
  on_his_ray t z q some step leads = record {
    ray = r;
    is_ray = mover.is_ray;
    leads = record { begun = some; one = near; leads = leads };
  }
    where
      his : step.man ≡ mover.man
      his = same_Some step.man mover.man (sym step.is_man ∙ mover.is_man)

      one : IsOnOneRay p mover.man mover.square z
      one =
          let w = some_and (square_of step.man) _ (step_one p i z q step) in
          let at : w.0 ≡ mover.square = one_square mover.man mover.square w.0 mover.stands (subst (λ b. StandsOn b w.0) his w.1) in
          subst (λ b. IsOnOneRay p mover.man b z) at (subst (λ b. IsOnOneRay p b w.0 z) his w.2)

      near : r.far ≡ false → t ≡ 1
      near close =
          let a = mover.square in
          let d = (ray_is mover.man.side mover.man.kind ray r mover.is_ray).direction in
          let e = (ray_is mover.man.side mover.man.kind one.number one.on.ray one.on.is_ray).direction in
          let there = one.on.leads.leads in
          let count : t ≡ one.distance =
          sym (steps_distance a z r.dx r.dy d t leads) ∙ steps_distance a z one.on.ray.dx one.on.ray.dy e one.distance there in
          elim (true_or_not one.on.ray.far) [
            | inl far ↦
                let begun = one.on.leads.begun in
                let dx : r.dx ≡ one.on.ray.dx =
                sym (steps_toward_x a z r.dx r.dy d t leads (omega (arith, some))) ∙ steps_toward_x a z one.on.ray.dx one.on.ray.dy e one.distance there (omega (arith, begun)) in
                let dy : r.dy ≡ one.on.ray.dy =
                sym (steps_toward_y a z r.dx r.dy d t leads (omega (arith, some))) ∙ steps_toward_y a z one.on.ray.dx one.on.ray.dy e one.distance there (omega (arith, begun)) in
                let number : ray ≡ one.number = one_number mover.man.side mover.man.kind ray one.number r one.on.ray mover.is_ray one.on.is_ray dx dy in
                let same : r ≡ one.on.ray =
                same_Some r one.on.ray (sym mover.is_ray ∙ ap (λ k. ray_of mover.man.kind mover.man.side k) number ∙ one.on.is_ray) in
                let no : true ≡ false = sym far ∙ sym (ap (λ (k : Ray). k.far) same) ∙ close in
                absurd (cc)
            | inr step_only ↦ count ∙ one.on.leads.one step_only
          ]

  module _ (sound : Sound p) (w : Side) (turn : p.turn ≡ w) (n : ℕ) where
    losers_turn : {j : ℕ} {z : Square} {q : Position} → Legal p j z q → q.turn ≡ other w
    losers_turn legal = legal.step.after.turn ∙ ap other turn

    -- the coordinates after a first move are kept ones, of one of the masks
    pub first_kept : (t : ℕ) → Firsts w n p i ray t
        → (j mask : ℕ) × (slice_get (masks_after p) j ≡ Some mask) × IsTupleOf (Kept w p n 1) mask (tuple_gone p i r mover.square mask t)
    first_kept t v =
        let q : Position = v.after in
        let his : v.him ≡ mover.man = same_Some v.him mover.man (sym v.is_man ∙ mover.is_man) in
        let from : v.from ≡ mover.square = one_square mover.man mover.square v.from mover.stands (subst (λ m. StandsOn m v.from) his v.stands) in
        let on : IsOnRay mover.man mover.square v.to ray t =
        subst (λ a. IsOnRay mover.man a v.to ray t) from (subst (λ m. IsOnRay m v.from v.to ray t) his v.on) in
        let one : on.ray ≡ r = same_Some on.ray r (sym on.is_ray ∙ mover.is_ray) in
        let to : v.to ≡ after_steps mover.square t r.dx r.dy =
        subst (λ (k : Ray). v.to ≡ after_steps mover.square t k.dx k.dy) one on.leads.leads in
        let (o, listed, takes) = (steps_by_options p q (mask_of p) sound (mask_tells p)).0 (i, v.to, v.legal.step) in
        let of_side = (options_are p.men (mask_of p) p.turn o).0 listed in
        let there = arrives sound.kings (sound_fits sound) of_side takes in
        let (j, at) = after_prey p of_side.0.man.side o.taken of_side.1 of_side.0.is.prey in
        let kept : Kept w p n 1 q = record {
          reached = (p, refl, (i, v.to, v.legal));
          value = inr (subst (λ k. Lost w k q) (sym (less_one w p.turn n turn)) v.is_in);
        } in (
          j,
          mask_of q,
          at ∙ ap (λ m. Some m) (sym there.mask),
          record {
            position = q;
            is_in = kept;
            mask_is = refl;
            tuple_is =
                tuple_after v.legal.step.after
                ∙ ap (λ z. tuple_of (placed p.men (is_live (mask_of q)) (other p.turn) (moved (squares_of p) i z))) to;
          },
        )

    -- and kept coordinates come of a first move
    pub kept_first : (t mask : ℕ) → 1 ≤ t → IsGameMask p mask → IsTupleOf (Kept w p n 1) mask (tuple_gone p i r mover.square mask t) → Firsts w n p i ray t
    kept_first t mask some game h =
        let (before, here, (j, z, legal)) = h.is_in.reached in
        from_move j z (subst (λ x. Legal x j z h.position) here legal)
      where
        from_move : (j : ℕ) (z : Square) → Legal p j z h.position → Firsts w n p i ray t
        from_move j z legal =
            let f : ℕ → Square = moved (squares_of p) i (after_steps mover.square t r.dx r.dy) in
            let step = legal.step in
            let same : h.position ≡ placed p.men (is_live mask) (other p.turn) f =
            stock_unique (step_stock (own_stock p) step.after) (placed_stock p.men (is_live mask) (other p.turn) f) step.after.turn
            (h.mask_is ∙ placed_mask p.men (is_live mask) (other p.turn) f mask game.no_more (λ k low high. refl)) h.tuple_is
            in
            let now : man_at (placed p.men (is_live mask) (other p.turn) f) j ≡ Some (record step.man { place = At z.x z.y }) =
            subst (λ x. man_at x j ≡ Some (record step.man { place = At z.x z.y })) same (step.after.mover step.man step.is_man) in
            let him = from_placed p.men (is_live mask) (other p.turn) f j (record step.man { place = At z.x z.y }) now in
            let stands : place_square (place_at (is_live mask j) (f j)) ≡ Some z = sym (ap (λ (a : Man). place_square a.place) him.is) in
            let there = stands_placed (is_live mask j) (f j) z stands in
            elim (same_number j i) [
              | inl e ↦
                  let arrived : z ≡ after_steps mover.square t r.dx r.dy = sym there.1 ∙ moved_same (squares_of p) i j (after_steps mover.square t r.dx r.dy) e in
                  let his : Legal p i z h.position = subst (λ k. Legal p k z h.position) e legal in
                  record {
                    him = mover.man;
                    from = mover.square;
                    to = z;
                    after = h.position;
                    is_man = mover.is_man;
                    stands = mover.stands;
                    on = on_his_ray t z h.position some his.step arrived;
                    is_target = tt;
                    legal = his;
                    is_in = subst (λ k. Lost w k h.position) (less_one w p.turn n turn) (value_lost w (moves_left (last_ply w p.turn n) 1) h.position (losers_turn legal) h.is_in.value);
                  }
              | inr ne ↦
                  let (y, stood) = place_there step.man (game.live j step.man step.is_man there.0) in
                  let stayed : y ≡ z =
                  sym (square_stands p j step.man y (stock_man-men p j ∙ step.is_man) stood) ∙ sym (moved_other (squares_of p) i j (after_steps mover.square t r.dx r.dy) ne) ∙ there.1 in
                  absurd (step.not_own (any_at p (λ m. (m.side ≡ p.turn) × StandsOn m z) j step.man step.is_man (step.his_turn, subst (StandsOn step.man) stayed stood)))
            ]
