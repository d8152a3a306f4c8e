-- The first move over all rays of a man, and over all men.
use Rattle.std.proofs.Common.{◌≡◌, ◌≢◌, inl, inr, ℕ, zero, suc, ◌+◌, ◌<◌, List, [], ◌∷◌, length, Option, Some, None, refl, sym, ap, subst, ◌∙◌, arith}
use Rattle.std.specs.Prelude.{slice_get, IsSomeAnd}
use Rattle.std.proofs.lemmas.Bool.{cases_lt}
use Rattle.std.proofs.lemmas.Option.{same_Some, slice_get_cases}
use Rattle.game_rules.specs.declared.men.Kind.{Kind}
use Rattle.game_rules.specs.declared.men.Man.{Man}
use Rattle.game_rules.specs.declared.men.Place.{Place}
use Rattle.game_rules.specs.declared.men.Place.TheVariants.{At, Gone}
use Rattle.game_rules.specs.declared.men.Ray.{Ray}
use Rattle.game_rules.specs.declared.men.Side.{Side}
use Rattle.game_rules.specs.Game.{Position, man_at, place_square, square_of}
use Rattle.game_rules.specs.Rays.{ray_of, rays_of}
use Rattle.game_laws.specs.OnRay.{IsOnOneRay}
use Rattle.game_laws.proofs.CheckLemmas.{some_and}
use Rattle.game_laws.proofs.RayLemmas.{step_one}
use Rattle.chess_game.specs.declared.way.Frame.{Frame}
use Rattle.chess_game.proofs.AnswerBounds.{rays_few}
use Rattle.move_choice.specs.Choice.{FirstOf, IsAlongRay, IsBefore, IsOf, Leads, Pick}
use Rattle.move_choice.specs.Aims.{IsLiveOf, IsMover}
use Rattle.move_choice.specs.declared.choice.Choice.{Choice}
use Rattle.move_choice.proofs.Firsts.{man_high}
use Rattle.move_choice.proofs.Tuples.{stands_live}

-- no move of the man along a ray below this one leads into the set
abbrev pub NoneBelowRay : (Position → Type 0) → Frame → Position → ℕ → ℕ → Type 0
NoneBelowRay Set f p man number = (d : Choice) (q : Position) → d.mv.man ≡ man → d.ray < number → Leads Set f p d q → ⊥

-- nor one of a man below this one
abbrev pub NoneBelowMan : (Position → Type 0) → Frame → Position → ℕ → Type 0
NoneBelowMan Set f p number = (d : Choice) (q : Position) → d.mv.man < number → Leads Set f p d q → ⊥

past_none : (rs : List Ray) (k n : ℕ) (r : Ray) → slice_get rs n ≡ None → slice_get rs k ≡ Some r → k < n
past_none [] k n r none some = absurd (cc)
past_none (x ∷ rs) k zero r none some = absurd (cc)
past_none (x ∷ rs) zero (suc n) r none some = omega arith
past_none (x ∷ rs) (suc k) (suc n) r none some = let less = past_none rs k n r none some in omega (arith, less)

-- a kind has no ray after the greatest number of rays
no_more_rays : (k : Kind) (s : Side) → slice_get (rays_of k s) 16 ≡ None
no_more_rays k s =
    elim (slice_get_cases (rays_of k s) 16).1 [ inl w ↦ let few = rays_few k s in absurd (omega (arith, w.1, few)) | inr w ↦ w.1 ]

-- a live man's mover
pub mover_at : (p : Position) (i n : ℕ) (m : Man) (r : Ray) → man_at p i ≡ Some m → IsSomeAnd (man_at p i) (IsLiveOf p.turn)
    → ray_of m.kind m.side n ≡ Some r → IsMover p i n r
mover_at p i n m r is live ray = on m.place refl
  where
    his : IsLiveOf p.turn m
    his = subst (λ (o : Option Man). IsSomeAnd o (IsLiveOf p.turn)) is live

    on : (x : Place) → m.place ≡ x → IsMover p i n r
    on Gone e = absurd (his.1 e)
    on (At x y) e = record { man = m; is_man = is; turn = his.0; square = record { x = x; y = y }; stands = ap place_square e; is_ray = ray }

module _ (Set : Position → Type 0) (f : Frame) (p : Position) where
  module _ (man : ℕ) (number : ℕ) (none : NoneBelowRay Set f p man number) where
    pub ray_more : FirstOf (IsAlongRay man number) Set f p None → NoneBelowRay Set f p man (number + 1)
    ray_more also d q e low h = elim (cases_lt d.ray number) [
      | inl before ↦ none d q e before h
      | inr here ↦ also d q (e, omega (arith, here, low)) h
    ]

    pub ray_first : (c : Choice) → FirstOf (IsAlongRay man number) Set f p (Some c) → FirstOf (IsOf man) Set f p (Some c)
    ray_first c h = record {
      has = h.has.0;
      position = h.position;
      leads = h.leads;
      first = λ d q e into before. by d q e into before;
    } where
      by : (d : Choice) (q : Position) → d.mv.man ≡ man → Leads Set f p d q → IsBefore d c → ⊥
      by d q e into (inl less) = let his = h.has.0 in omega (arith, less, e, his)
      by d q e into (inr (same, inl less)) = let his = h.has.1 in none d q e (omega (arith, less, his)) into
      by d q e into (inr (same, inr both)) = h.first d q (e, both.0 ∙ h.has.1) into (inr (same, inr both))

    pub ray_none : (m : Man) → man_at p man ≡ Some m → ray_of m.kind m.side number ≡ None → FirstOf (IsOf man) Set f p None
    ray_none m is past d q e h =
        let same : h.man ≡ m = same_Some h.man m (sym h.is_man ∙ (ap (man_at p) e ∙ is)) in
        let his : ray_of m.kind m.side d.ray ≡ Some h.on.ray = subst (λ k. ray_of k.kind k.side d.ray ≡ Some h.on.ray) same h.on.is_ray in
        none d q e (past_none (rays_of m.kind m.side) d.ray number h.on.ray past his) h

  pub all_rays : (man : ℕ) (m : Man) → man_at p man ≡ Some m → NoneBelowRay Set f p man 16 → FirstOf (IsOf man) Set f p None
  all_rays man m is none = ray_none man 16 none m is (no_more_rays m.kind m.side)

  module _ (number : ℕ) (none : NoneBelowMan Set f p number) where
    pub man_more : FirstOf (IsOf number) Set f p None → NoneBelowMan Set f p (number + 1)
    man_more also d q low h = elim (cases_lt d.mv.man number) [
      | inl before ↦ none d q before h
      | inr here ↦ also d q (omega (arith, here, low)) h
    ]

    pub man_first : (c : Choice) → FirstOf (IsOf number) Set f p (Some c) → Pick Set f p (Some c)
    man_first c h = record {
      has = tt;
      position = h.position;
      leads = h.leads;
      first = λ d q has into before. by d q into before;
    } where
      by : (d : Choice) (q : Position) → Leads Set f p d q → IsBefore d c → ⊥
      by d q into (inl less) = let his = h.has in none d q (omega (arith, less, his)) into
      by d q into (inr both) = h.first d q (both.0 ∙ h.has) into (inr both)

  -- a man that is captured or belongs to the other side has no move
  pub man_idle : (number : ℕ) (m : Man) → man_at p number ≡ Some m → (IsLiveOf p.turn m → ⊥) → FirstOf (IsOf number) Set f p None
  man_idle number m is idle d q e h =
      let same : h.man ≡ m = same_Some h.man m (sym h.is_man ∙ (ap (man_at p) e ∙ is)) in
      let his : h.legal.step.man ≡ h.man = same_Some h.legal.step.man h.man (sym h.legal.step.is_man ∙ h.is_man) in
      idle (subst (λ k. k.side ≡ p.turn) (his ∙ same) h.legal.step.his_turn, subst (λ k. k.place ≢ Gone) same (stands_live h.man h.from h.stands))

  -- each legal move is one along a ray
  pub no_man : (number : ℕ) → length p.men < number → NoneBelowMan Set f p number → Pick Set f p None
  no_man number past none i z q legal inside is_in =
      let step = legal.step in
      let w = some_and (square_of step.man) _ (step_one p i z q step) in
      let one : IsOnOneRay p step.man w.0 z = w.2 in
      let d : Choice = record { mv = record { man = i; x = z.x; y = z.y }; ray = one.number; distance = one.distance } in
      let high = man_high p i step.man step.is_man in
      none d q (omega (arith, high, past)) (record { man = step.man; from = w.0; is_man = step.is_man; stands = w.1; on = one.on; inside = inside; legal = legal; is_in = is_in })
