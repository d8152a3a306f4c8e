-- The first move along a ray into the sets: the least hit of the search, or the capture after all free distances.
use Rattle.std.proofs.Common.{◌≡◌, ◌≢◌, ◌⊎◌, inl, inr, ℕ, zero, suc, ◌<◌, ◌≤◌, ℤ, ◌+◌, length, to_z, of_z, Bor, false, List, Option, Some, None, refl, sym, ap, subst, ◌∙◌, arith}
use Rattle.std.specs.Prelude.{IsTrue, IsSomeAnd, slice_set}
use Rattle.std.specs.Int.{w8}
use Rattle.std.proofs.lemmas.Option.{same_Some, slice_get_within}
use Rattle.std.proofs.lemmas.Bool.{cases_order}
use Rattle.auto_core.specs.Automaton.{Automaton}
use Rattle.auto_core.specs.Integers.{IsAccepted}
use Rattle.auto_search.specs.Fews.{HasFew}
use Rattle.auto_search.specs.TupleRay.{HasHits, IsHit as IsWayHit, IsSlope, IsTupleRay, tuple_at, value_after, IsLeastFound as IsWayFound}
use Rattle.auto_search.specs.declared.few.Few.{Few}
use Rattle.auto_search.proofs.Tallies.{has-same}
use Rattle.auto_search.specs.declared.tuple_ray.TupleRay.{TupleRay}
use Rattle.game_rules.specs.declared.men.Man.{Man}
use Rattle.game_rules.specs.declared.men.Place.TheVariants.{Gone}
use Rattle.game_rules.specs.declared.men.Ray.{Ray}
use Rattle.game_rules.specs.declared.men.Square.{Square}
use Rattle.game_rules.specs.Game.{Position, IsOccupiedBy, IsAfter, IsEmptySquare, IsLiveAnd, Legal, Sound, StandsOn, Step, after_steps, man_at, other, square_of}
use Rattle.game_rules.specs.Rays.{IsAt, serves_moves}
use Rattle.game_laws.specs.OnRay.{IsOnRay}
use Rattle.game_laws.proofs.CheckLemmas.{any_is}
use Rattle.game_laws.proofs.MoveLemmas.{same_after}
use Rattle.game_laws.proofs.SoundLemmas.{at_same, fate, fate_kind, fate_side}
use Rattle.chess_game.specs.Way.{IsFreeFrom, IsHit, IsHitFrom, IsInside}
use Rattle.chess_game.specs.declared.moves.Move.{Move}
use Rattle.chess_game.specs.declared.way.Frame.{Frame}
use Rattle.mask_sets.specs.Stock.{mask_of}
use Rattle.game_laws.specs.Stock.{HasStock}
use Rattle.mask_sets.specs.Tuple.{tuple_of}
use Rattle.mask_sets.proofs.Men.{all_men}
use Rattle.game_laws.proofs.StockLemmas.{stock_man-men}
use Rattle.move_choice.specs.Choice.{AreHisSteps, FirstOf, LeadsTo, IsAlongRay, IsBefore, IsCapture, IsQuiet, Leads, target}
use Rattle.move_choice.specs.Aims.{AreNext, IsAlong, IsFreeBetween, IsHitAlong, IsLeast, IsLeastFound, IsMet, IsMover, tuple_along}
use Rattle.mask_sets.specs.Places.{coordinates_before}
use Rattle.mask_sets.specs.Sets.{IsIn, Table, set_at}
use Rattle.move_choice.specs.declared.choice.Choice.{Choice}
use Rattle.move_choice.proofs.Bridges.{along_of}
use Rattle.move_choice.proofs.Hits.{choice_hit, going, going_at, hit_leads, quiet_unserved, quiet_unset}
use Rattle.move_choice.proofs.Meets.{hit, hit_held, hit_to, of_square, on_square, stands_is, steps_right}
use Rattle.move_choice.proofs.Slopes.{ray_slopes, slope_same}
use Rattle.move_choice.proofs.Tuples.{live_room, stands_live}
use Rattle.move_choice.proofs.Ways.{capture_hit, empty_or_held, nobody_before}

-- of two moves along one ray the first is the nearer one
pub nearer : (d c : Choice) → IsBefore d c → d.mv.man ≡ c.mv.man → d.ray ≡ c.ray → d.distance < c.distance
nearer d c (inl less) man ray = absurd (omega (arith, less, man))
nearer d c (inr (e, inl less)) man ray = absurd (omega (arith, less, ray))
nearer d c (inr (e, inr h)) man ray = h.1

module _ {p : Position} {table : Table} (next : AreNext p table) (f : Frame) {i n : ℕ} {r : Ray} (mover : IsMover p i n r) where
  abbrev Quiet : Option Choice → Type 0
  Quiet o = FirstOf (IsQuiet p i n) (IsIn table) f p o

  abbrev Capture : Option Choice → Type 0
  Capture o = FirstOf (IsCapture p i n) (IsIn table) f p o

  -- without a set there is no quiet move into the sets
  pub quiet_none_there : set_at table (mask_of p) ≡ None → Quiet None
  quiet_none_there none d q (e, ray, empty) h =
      quiet_unset mover table none (along_of (IsEmptySquare p) e ray empty h)

  -- nor on a ray that does not serve moves
  pub quiet_none_served : serves_moves mover.man.kind n ≡ false → Quiet None
  quiet_none_served never d q (e, ray, empty) h =
      quiet_unserved mover never (along_of (IsEmptySquare p) e ray empty h)

  module _ (a : Automaton) (set_is : set_at table (mask_of p) ≡ Some a) (near far : ℕ) (free : IsFreeBetween p i r f near far) where
    -- a quiet move into the sets is hit
    found : (d : Choice) (q : Position) → IsQuiet p i n d → Leads (IsIn table) f p d q → (near ≤ d.distance) × (d.distance ≤ far) × IsHitAlong a p i r d.distance
    found d q has h =
        let hit = choice_hit next mover set_is has h in
        let within = (free d.distance).1 (on_square mover (λ b. IsFreeFrom p b r f d.distance) hit.0) in
        (within.0, within.1, hit.1)

    pub quiet_none_hit : ((t : ℕ) → near ≤ t → t ≤ far → IsHitAlong a p i r t → ⊥) → Quiet None
    quiet_none_hit none d q has h = let w = found d q has h in none d.distance w.0 w.1 w.2

    pub quiet_first_hit : {t : ℕ} (c : Choice) → IsLeast (IsHitAlong a p i r) near far t → c.mv.man ≡ i → c.ray ≡ n → c.distance ≡ t
        → LeadsTo p i r t (target c.mv) → IsTrue (serves_moves mover.man.kind n)
        → Quiet (Some c)
    quiet_first_hit {t} c least man ray far_is leads serves =
        let at_t : IsFreeFrom p mover.square r f t = of_square mover (λ b. IsFreeFrom p b r f t) ((free t).0 (least.from, least.to)) in
        let w : IsFreeFrom p mover.square r f c.distance = subst (IsFreeFrom p mover.square r f) (sym far_is) at_t in
        let lead : target c.mv ≡ after_steps mover.square t r.dx r.dy = of_square mover (λ b. target c.mv ≡ after_steps b t r.dx r.dy) leads in
        let to : target c.mv ≡ w.to = lead ∙ (ap (λ k. after_steps mover.square k r.dx r.dy) (sym far_is) ∙ sym w.leads.leads) in
        let hit : IsHitAlong a p i r c.distance = subst (IsHitAlong a p i r) (sym far_is) least.has in
        let all = hit_leads next mover c set_is man ray serves w to hit in
        record {
          has = all.0;
          position = all.1.0;
          leads = all.1.1;
          first = λ d q has h before.
              let v = found d q has h in
              let close = nearer d c before (has.0 ∙ sym man) (has.1 ∙ sym ray) in
              let t_least = least.least d.distance v.0 v.2 in
              omega (arith, close, t_least, far_is);
        }

  -- a capture along the ray is one of the first man met
  pub capture_met : Sound p → {d : Choice} {q : Position} → IsCapture p i n d → Leads (IsIn table) f p d q → (h : ℕ) × IsHit p i r f h
  capture_met sound {d} {q} (e, ray, held) h =
      let g = going next mover e ray h in
      let w = any_is p _ held in
      let hit = capture_hit p i (target d.mv) q g.2 mover.man mover.is_man mover.square mover.stands n d.distance g.0 h.inside sound.apart w.0 w.1 w.2 w.3.1 in
      (w.0, on_square mover (λ b. IsHitFrom p b r f w.0) (subst (λ k. IsHitFrom p mover.square k f w.0) g.1 hit))

  pub capture_none_met : Sound p → ((h : ℕ) → IsHit p i r f h → ⊥) → Capture None
  capture_none_met sound none d q has h = let w = capture_met sound has h in none w.0 w.1

  module _ (sound : Sound p) (mv : Move) (man : mv.man ≡ i) (met : IsMet p i r f (target mv)) where
    abbrev there : IsHitFrom p mover.square r f met.number
    there = hit mover met

    there_to : there.to ≡ target mv
    there_to = hit_to mover met

    there_held : IsEmptySquare p there.to → ⊥
    there_held = hit_held mover met

    -- each capture along the ray goes there
    where_it_goes : {d : Choice} {q : Position} → IsCapture p i n d → Leads (IsIn table) f p d q → (d.distance ≡ there.distance) × (target d.mv ≡ target mv)
    where_it_goes {d} {q} (e, ray, held) h =
        let g = going next mover e ray h in
        let at : IsAt r d.distance mover.square (target d.mv) = going_at mover g in
        let at_there : IsAt g.0.ray there.distance mover.square there.to = subst (λ k. IsAt k there.distance mover.square there.to) (sym g.1) there.leads in
        let not_before : there.distance < d.distance → ⊥ =
        λ less. there_held
        (nobody_before p i (target d.mv) q g.2 mover.man mover.is_man mover.square mover.stands n d.distance g.0 there.distance there.to
        less at_there) in
        let w = any_is p _ held in
        let not_after : d.distance < there.distance → ⊥ = λ less. (all_men p (λ m. StandsOn m (target d.mv) → ⊥)).0 (there.first d.distance (target d.mv) less at) w.0 w.1 w.2 w.3.1 in
        let same : d.distance ≡ there.distance = same_number d.distance there.distance not_after not_before in
        (same, at.leads ∙ (ap (λ k. after_steps mover.square k r.dx r.dy) same ∙ (sym there.leads.leads ∙ there_to)))
      where
        same_number : (a b : ℕ) → (a < b → ⊥) → (b < a → ⊥) → a ≡ b
        same_number a b h k = elim (cases_order a b) [ inl e ↦ e | inr (inl less) ↦ absurd (h less) | inr (inr more) ↦ absurd (k more) ]

    -- so it is this move, and leads to what it leads to
    its_legal : {d : Choice} {q : Position} → IsCapture p i n d → Leads (IsIn table) f p d q → Legal p mv.man (target mv) q
    its_legal {d} {q} has h =
        subst (λ k. Legal p k (target mv) q) (has.0 ∙ sym man) (subst (λ z. Legal p d.mv.man z q) (where_it_goes has h).1 h.legal)

    pub capture_none_legal : ((q : Position) → Legal p mv.man (target mv) q → ⊥) → Capture None
    capture_none_legal none d q has h = none q (its_legal has h)

    pub capture_none_in : {q : Position} → Legal p mv.man (target mv) q → (IsIn table q → ⊥) → Capture None
    capture_none_in {q} legal out d q' has h =
        let same : q' ≡ q = same_after {r = q} (its_legal has h).step.after legal.step.after in
        out (subst (IsIn table) same h.is_in)

    pub capture_some_in : {q : Position} → Legal p mv.man (target mv) q → IsIn table q → (t : ℕ)
        → AreHisSteps p i r (target mv) t → Capture (Some (record { mv = mv; ray = n; distance = t }))
    capture_some_in {q} legal is_in t steps =
        let right : t ≡ there.distance = steps_right mover met t steps in
        let at : IsAt r t mover.square (target mv) = subst (λ k. IsAt r k mover.square (target mv)) (sym right) (subst (IsAt r there.distance mover.square) there_to there.leads) in
        let his : Step p i (target mv) q = subst (λ k. Step p k (target mv) q) man legal.step in
        let on : IsOnRay mover.man mover.square (target mv) n t = record { ray = r; is_ray = mover.is_ray; leads = at } in
        record {
          has = (man, refl, held (empty_or_held p i (target mv) q his mover.man mover.is_man mover.square mover.stands n t on));
          position = q;
          leads = record {
            man = mover.man;
            from = mover.square;
            is_man = ap (man_at p) man ∙ mover.is_man;
            stands = mover.stands;
            on = on;
            inside = subst (IsInside f) there_to there.inside;
            legal = legal;
            is_in = is_in;
          };
          first = λ d q' has h before.
              let close = nearer d (record { mv = mv; ray = n; distance = t }) before (has.0 ∙ sym man) has.1 in
              let same = (where_it_goes has h).0 in
              omega (arith, close, same, right);
        }
      where
        held : IsEmptySquare p (target mv) ⊎ IsOccupiedBy p (other p.turn) (target mv) → IsOccupiedBy p (other p.turn) (target mv)
        held (inl none) = absurd (there_held (subst (IsEmptySquare p) (sym there_to) none))
        held (inr h) = h

  -- the moves along the ray are the quiet ones and the captures
  which : {d : Choice} {q : Position} → IsAlongRay i n d → Leads (IsIn table) f p d q → IsQuiet p i n d ⊎ IsCapture p i n d
  which {d} {q} (e, ray) h =
      let g = going next mover e ray h in
      elim (empty_or_held p i (target d.mv) q g.2 mover.man mover.is_man mover.square mover.stands n d.distance g.0) [
        | inl none ↦ inl (e, ray, none)
        | inr held ↦ inr (e, ray, held)
      ]

  pub along_quiet : (c : Choice) → Quiet (Some c) → FirstOf (IsAlongRay i n) (IsIn table) f p (Some c)
  along_quiet c h = record {
    has = (h.has.0, h.has.1);
    position = h.position;
    leads = h.leads;
    first = λ d q has into before. elim (which has into) [
      | inl quiet ↦ h.first d q quiet into before
      | inr taking ↦
          let g = going next mover h.has.0 h.has.1 h.leads in
          let k = going next mover has.0 has.1 into in
          let at : IsAt g.0.ray d.distance mover.square (target d.mv) = subst (λ b. IsAt b d.distance mover.square (target d.mv)) (sym g.1) (going_at mover k) in
          let close = nearer d c before (has.0 ∙ sym h.has.0) (has.1 ∙ sym h.has.1) in
          let none = nobody_before p i (target c.mv) h.position g.2 mover.man mover.is_man mover.square mover.stands n c.distance g.0 d.distance (target d.mv) close at in
          let w = any_is p _ taking.2 in
          (all_men p (λ m. StandsOn m (target d.mv) → ⊥)).0 none w.0 w.1 w.2 w.3.1
    ];
  }

  pub along_capture : Quiet None → (o : Option Choice) → Capture o → FirstOf (IsAlongRay i n) (IsIn table) f p o
  along_capture none None h = λ d q has into. elim (which has into) [ inl quiet ↦ none d q quiet into | inr taking ↦ h d q taking into ]
  along_capture none (Some c) h = record {
    has = (h.has.0, h.has.1);
    position = h.position;
    leads = h.leads;
    first = λ d q has into before. elim (which has into) [ inl quiet ↦ none d q quiet into | inr taking ↦ h.first d q taking into before ];
  }

-- the way of a man along a ray
pub along_is : {p : Position} {i n : ℕ} {r : Ray} (fixed : Bor (List ℤ)) (place : ℕ) → IsMover p i n r → fixed.now ≡ tuple_of p
    → place ≡ coordinates_before p i
    → IsAlong p i r (record { fixed = fixed; x_track = place; y_track = place + 1; dx = to_z w8 (of_z w8 r.dx); dy = to_z w8 (of_z w8 r.dy) })
along_is {n} {r} fixed place mover same at =
    let short = ray_slopes mover.man.kind mover.man.side n r mover.is_ray in
    record { fixed = same; x_track = at; y_track = ap (λ k. k + 1) at; dx = slope_same r.dx short.x; dy = slope_same r.dy short.y }

-- it can be searched
pub way_right : {p : Position} {i n : ℕ} {r : Ray} {way : TupleRay} → IsMover p i n r → IsAlong p i r way → IsTupleRay way
way_right {p} {i} {n} {r} mover along =
    let short = ray_slopes mover.man.kind mover.man.side n r mover.is_ray in
    let live : IsSomeAnd (man_at p i) (λ m. m.place ≢ Gone) =
    subst (λ (o : Option Man). IsSomeAnd o (λ m. m.place ≢ Gone)) (sym mover.is_man)
    (stands_live mover.man mover.square mover.stands) in
    let room = live_room p i live in
    let len = ap length along.fixed in
    record {
      x_track = omega (arith, room, len, along.x_track);
      y_track = omega (arith, room, len, along.y_track);
      apart = λ e. omega (arith, e, along.x_track, along.y_track);
      dx = subst IsSlope (sym along.dx) short.x;
      dy = subst IsSlope (sym along.dy) short.y;
    }

-- a list with two of its numbers moved by some steps
abbrev Stepped : ℕ → List ℤ → ℕ → ℕ → ℤ → ℤ → List ℤ
Stepped t xs x y dx dy = slice_set (slice_set xs x (value_after xs x dx t)) y (value_after xs y dy t)

-- its tuples are those along the ray
tuples_along : {p : Position} {i : ℕ} {r : Ray} {way : TupleRay} → IsAlong p i r way → (t : ℕ) → tuple_at way t ≡ tuple_along p i r t
tuples_along {p} {i} {r} {way} along t =
    let x = coordinates_before p i in
    ap (λ xs. Stepped t xs way.x_track way.y_track way.dx way.dy) along.fixed
    ∙ (ap (λ k. Stepped t (tuple_of p) k way.y_track way.dx way.dy) along.x_track
    ∙ (ap (λ k. Stepped t (tuple_of p) x k way.dx way.dy) along.y_track
    ∙ (ap (λ d. Stepped t (tuple_of p) x (x + 1) d way.dy) along.dx ∙ ap (λ d. Stepped t (tuple_of p) x (x + 1) r.dx d) along.dy)))

-- and what the search finds is what is found along the ray
pub least_along : (a : Automaton) {p : Position} {i : ℕ} {r : Ray} {way : TupleRay} (near far : ℕ) (found : Option ℕ) → IsAlong p i r way
    → IsWayFound a way near far found → IsLeastFound (IsHitAlong a p i r) near far found
least_along a near far None along none =
    λ t low high hit. none t low high (subst (IsAccepted a) (sym (tuples_along along t)) hit)
least_along a near far (Some t) along is = record {
  from = is.from;
  to = is.to;
  has = subst (IsAccepted a) (tuples_along along t) is.hit;
  least = λ u low hit. is.least u low (subst (IsAccepted a) (sym (tuples_along along u)) hit);
}

-- and as many of all distances
pub count_along : (a : Automaton) {p : Position} {i : ℕ} {r : Ray} {way : TupleRay} (few : Few) → IsAlong p i r way → HasHits a way few → HasFew few (λ t. (1 ≤ t) × IsHitAlong a p i r t)
count_along a {p} {i} {r} {way} few along has =
    has-same few (λ t. (1 ≤ t) × IsWayHit a way t) (λ t. (1 ≤ t) × IsHitAlong a p i r t) has
    (λ t h. (h.0, subst (IsAccepted a) (tuples_along along t) h.1))
    (λ t h. (h.0, subst (IsAccepted a) (sym (tuples_along along t)) h.1))

-- a man who is met has a number
pub met_number : (p : Position) (i : ℕ) (r : Ray) (f : Frame) (h : ℕ) → IsHit p i r f h → (m : Man) × (z : Square) × (man_at p h ≡ Some m) × StandsOn m z
met_number p i r f h is = by (man_at p i) is
  where
    from : (o : Option Square) → IsSomeAnd o (λ a. IsHitFrom p a r f h) → (m : Man) × (z : Square) × (man_at p h ≡ Some m) × StandsOn m z
    from None s = absurd s
    from (Some a) s = let w = stands_is p h s.to s.hit in (w.0, s.to, w.1, w.2)

    by : (o : Option Man) → IsSomeAnd o (λ m. IsLiveAnd m (λ a. IsHitFrom p a r f h)) → (m : Man) × (z : Square) × (man_at p h ≡ Some m) × StandsOn m z
    by None s = absurd s
    by (Some m) s = from (square_of m) s

pub man_low : (p : Position) (h : ℕ) (m : Man) → man_at p h ≡ Some m → 1 ≤ h
man_low p zero m is = absurd (cc)
man_low p (suc h) m is = omega arith

pub man_high : (p : Position) (h : ℕ) (m : Man) → man_at p h ≡ Some m → h ≤ length p.men
man_high p zero m is = absurd (cc)
man_high p (suc h) m is = let less = slice_get_within p.men h m is in omega (arith, less)
