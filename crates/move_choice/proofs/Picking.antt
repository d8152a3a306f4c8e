-- There is a first move into a set, or there is none, where it is decided which positions after a move are in the set.
use Rattle.std.proofs.Common.{◌≡◌, ◌⊎◌, inl, inr, ℕ, zero, suc, ◌+◌, ◌<◌, ◌≤◌, ◌≤ℤ◌, ℤ, pos, ◌+ℤ◌, ◌-ℤ◌, ◌*ℤ◌, unsigned_abs, Bool, true, false, List, [], ◌∷◌, length, Option, Some, None, refl, sym, ap, subst, ◌∙◌, arith}
use Rattle.std.specs.Prelude.{slice_get}
use Rattle.std.proofs.lemmas.Int.{by_lt_z, ints}
use Rattle.std.proofs.lemmas.Option.{same_Some}
use Rattle.game_rules.specs.declared.men.Kind.{Kind}
use Rattle.game_rules.specs.declared.men.Man.{Man}
use Rattle.game_rules.specs.declared.men.Ray.{Ray}
use Rattle.game_rules.specs.declared.men.Side.{Side}
use Rattle.game_rules.specs.declared.men.Square.{Square}
use Rattle.game_rules.specs.Game.{Position, IsDirection, Legal, StandsOn, after_steps, man_at, square_of}
use Rattle.game_rules.specs.Rays.{IsAt, ray_of, rays_of}
use Rattle.game_laws.specs.OnRay.{IsOnOneRay}
use Rattle.game_laws.proofs.CheckLemmas.{one_square, some_and}
use Rattle.game_laws.proofs.DecideLemmas.{Decided, both, can_go, less, map_decided, number_same}
use Rattle.game_laws.proofs.LineLemmas.{far_steps}
use Rattle.game_laws.proofs.MoveLemmas.{same_after}
use Rattle.game_laws.proofs.RayLemmas.{step_one}
use Rattle.chess_game.specs.Way.{IsInside}
use Rattle.chess_game.specs.declared.way.Frame.{Frame}
use Rattle.chess_game.proofs.AnswerBounds.{ray_stepwise, rays_few, steps_below}
use Rattle.move_choice.specs.Choice.{IsBefore, Leads, Pick, target}
use Rattle.move_choice.specs.declared.choice.Choice.{Choice}
use Rattle.move_choice.proofs.Firsts.{man_high}
use Rattle.move_choice.proofs.Least.{IsFirstWith, first_with, some_with}

less_or_not : (a b : ℤ) → Decided (a ≤ℤ b)
less_or_not a b = by_lt_z b a (λ h. inr (λ k. omega (arith, ints, h, k))) (λ h. inl h)

inside : (f : Frame) (z : Square) → Decided (IsInside f z)
inside f z =
    map_decided (((f.x_low ≤ℤ z.x) × (z.x ≤ℤ f.x_high)) × ((f.y_low ≤ℤ z.y) × (z.y ≤ℤ f.y_high))) (IsInside f z)
    (λ h. record { left = h.0.0; right = h.0.1; below = h.1.0; above = h.1.1 }) (λ h. ((h.left, h.right), (h.below, h.above)))
    (both _ _ (both _ _ (less_or_not f.x_low z.x) (less_or_not z.x f.x_high)) (both _ _ (less_or_not f.y_low z.y) (less_or_not z.y f.y_high)))

far_or_one : (far : Bool) (t : ℕ) → Decided (far ≡ false → t ≡ 1)
far_or_one true t = inl (λ e. absurd (cc))
far_or_one false t = map_decided (t ≡ 1) (false ≡ false → t ≡ 1) (λ h e. h) (λ h. h refl) (number_same t 1)

-- how far a square may lie within the frame
abbrev stretch : Frame → Square → ℕ
stretch f a =
    unsigned_abs (f.x_low -ℤ a.x) + unsigned_abs (f.x_high -ℤ a.x) + unsigned_abs (f.y_low -ℤ a.y) + unsigned_abs (f.y_high -ℤ a.y) + 2

between : (low at high m : ℤ) → low ≤ℤ (at +ℤ m) → (at +ℤ m) ≤ℤ high → unsigned_abs m ≤ unsigned_abs (low -ℤ at) + unsigned_abs (high -ℤ at)
between low at high m h k = omega (arith, ints, h, k)

sum_of : (m n t a b c d : ℕ) → t ≤ m + n → m ≤ a + b → n ≤ c + d → t < a + b + c + d + 2
sum_of m n t a b c d h x y = omega (arith, h, x, y)

stays_near : {f : Frame} {a : Square} {r : Ray} {t : ℕ} {z : Square} → IsDirection r.dx r.dy → IsAt r t a z → IsInside f z → t < stretch f a
stays_near {f} {a} {r} {t} direction at framed =
    let m : ℕ = unsigned_abs (pos t *ℤ r.dx) in
    let n : ℕ = unsigned_abs (pos t *ℤ r.dy) in
    let steps : t ≤ m + n = subst (λ k. k ≤ m + n) (far_steps r.dx r.dy direction t) (steps_below m n (m + n) (omega arith) (omega arith)) in
    let x = between f.x_low a.x f.x_high (pos t *ℤ r.dx) (subst (λ (w : Square). f.x_low ≤ℤ w.x) at.leads framed.left) (subst (λ (w : Square). w.x ≤ℤ f.x_high) at.leads framed.right) in
    let y = between f.y_low a.y f.y_high (pos t *ℤ r.dy) (subst (λ (w : Square). f.y_low ≤ℤ w.y) at.leads framed.below) (subst (λ (w : Square). w.y ≤ℤ f.y_high) at.leads framed.above) in
    sum_of m n t (unsigned_abs (f.x_low -ℤ a.x)) (unsigned_abs (f.x_high -ℤ a.x)) (unsigned_abs (f.y_low -ℤ a.y)) (unsigned_abs (f.y_high -ℤ a.y)) steps x y

get_low : (rs : List Ray) (n : ℕ) (r : Ray) → slice_get rs n ≡ Some r → n < length rs
get_low [] n r is = absurd (cc)
get_low (x ∷ rs) zero r is = omega arith
get_low (x ∷ rs) (suc n) r is = let low = get_low rs n r is in omega (arith, low)

ray_low : (k : Kind) (s : Side) (n : ℕ) (r : Ray) → ray_of k s n ≡ Some r → n < 16
ray_low k s n r is = let low = get_low (rays_of k s) n r is in let few = rays_few k s in omega (arith, low, few)

module _ (Set : Position → Type 0) (f : Frame) (p : Position) (decided : (i : ℕ) (z : Square) (q : Position) → Legal p i z q → Decided (Set q)) where
  -- a move of this man along this ray, so far, leads into the set
  record Led (i n t : ℕ) : Type 0 where
    choice : Choice
    position : Position
    man : choice.mv.man ≡ i
    ray : choice.ray ≡ n
    far : choice.distance ≡ t
    leads : Leads Set f p choice position

  is_led : {c : Choice} {q : Position} → Leads Set f p c q → Led c.mv.man c.ray c.distance
  is_led {c} {q} h = record { choice = c; position = q; man = refl; ray = refl; far = refl; leads = h }

  -- a legal move to the square leads into the set
  abbrev Lands : ℕ → Square → Type 0
  Lands i z = (q : Position) × Legal p i z q × Set q

  lands_from : {i : ℕ} {z : Square} {q : Position} → Legal p i z q → Decided (Set q) → Decided (Lands i z)
  lands_from {q} legal (inl h) = inl (q, legal, h)
  lands_from legal (inr off) = inr (λ k. off (subst Set (same_after k.1.step.after legal.step.after) k.2))

  lands : (i : ℕ) (z : Square) → Decided (Lands i z)
  lands i z = elim (can_go p i z) [
    | inl go ↦ lands_from go.1 (decided i z go.0 go.1)
    | inr none ↦ inr (λ h. none (h.0, h.1))
  ]

  module _ (i n : ℕ) (m : Man) (a : Square) (r : Ray) (is_man : man_at p i ≡ Some m) (stands : StandsOn m a) (is_ray : ray_of m.kind m.side n ≡ Some r) where
    abbrev to : ℕ → Square
    to t = after_steps a t r.dx r.dy

    abbrev Parts : ℕ → Type 0
    Parts t = ((0 < t) × (r.far ≡ false → t ≡ 1)) × (IsInside f (to t) × Lands i (to t))

    of_parts : (t : ℕ) → Parts t → Led i n t
    of_parts t h = record {
      choice = record { mv = record { man = i; x = (to t).x; y = (to t).y }; ray = n; distance = t };
      position = h.1.1.0;
      man = refl;
      ray = refl;
      far = refl;
      leads = record {
        man = m;
        from = a;
        is_man = is_man;
        stands = stands;
        on = record { ray = r; is_ray = is_ray; leads = record { begun = h.0.0; one = h.0.1; leads = refl } };
        inside = h.1.0;
        legal = h.1.1.1;
        is_in = h.1.1.2;
      };
    }

    -- the man, his square and his ray are those
    module _ (t : ℕ) (led : Led i n t) where
      his_man : led.leads.man ≡ m
      his_man = same_Some led.leads.man m (sym led.leads.is_man ∙ (ap (man_at p) led.man ∙ is_man))

      his_square : led.leads.from ≡ a
      his_square = one_square m a led.leads.from stands (subst (λ k. StandsOn k led.leads.from) his_man led.leads.stands)

      his_ray : led.leads.on.ray ≡ r
      his_ray =
          same_Some led.leads.on.ray r
          (sym (subst (λ k. ray_of led.leads.man.kind led.leads.man.side k ≡ Some led.leads.on.ray) led.ray led.leads.on.is_ray)
          ∙ (ap (λ (k : Man). ray_of k.kind k.side n) his_man ∙ is_ray))

      along : IsAt r t a (target led.choice.mv)
      along =
          subst (λ k. IsAt r k a (target led.choice.mv)) led.far
          (subst (λ b. IsAt r led.choice.distance b (target led.choice.mv)) his_square
          (subst (λ x. IsAt x led.choice.distance led.leads.from (target led.choice.mv)) his_ray led.leads.on.leads))

      goes : Legal p i (target led.choice.mv) led.position
      goes = subst (λ k. Legal p k (target led.choice.mv) led.position) led.man led.leads.legal

      parts_of : Parts t
      parts_of = (
        (along.begun, along.one),
        (subst (IsInside f) along.leads led.leads.inside, (led.position, subst (λ z. Legal p i z led.position) along.leads goes, led.leads.is_in)),
      )

      within : t < stretch f a
      within = stays_near (ray_stepwise m.kind m.side n r is_ray) along led.leads.inside

    led_or_not : (t : ℕ) → Decided (Led i n t)
    led_or_not t =
        map_decided (Parts t) (Led i n t) (of_parts t) (parts_of t)
        (both _ _ (both _ _ (less 0 t) (far_or_one r.far t)) (both _ _ (inside f (to t)) (lands i (to t))))

    nearest_on : IsFirstWith (Led i n) ⊎ ((t : ℕ) → Led i n t → ⊥)
    nearest_on = first_with (Led i n) led_or_not (stretch f a) within

  abbrev Nearest : ℕ → ℕ → Type 0
  Nearest i n = IsFirstWith (Led i n) ⊎ ((t : ℕ) → Led i n t → ⊥)

  on_ray : (i n : ℕ) (m : Man) (a : Square) → man_at p i ≡ Some m → StandsOn m a → (o : Option Ray) → ray_of m.kind m.side n ≡ o → Nearest i n
  on_ray i n m a is stands None e = inr (λ t led.
      let man = same_Some led.leads.man m (sym led.leads.is_man ∙ (ap (man_at p) led.man ∙ is)) in
      let no : None ≡ Some led.leads.on.ray =
      sym e ∙ (ap (λ (k : Man). ray_of k.kind k.side n) (sym man)
      ∙ subst (λ k. ray_of led.leads.man.kind led.leads.man.side k ≡ Some led.leads.on.ray) led.ray led.leads.on.is_ray) in
      cc)
  on_ray i n m a is stands (Some r) e = nearest_on i n m a r is stands e

  of_man : (i n : ℕ) (m : Man) → man_at p i ≡ Some m → (o : Option Square) → square_of m ≡ o → Nearest i n
  of_man i n m is None e = inr (λ t led.
      let man = same_Some led.leads.man m (sym led.leads.is_man ∙ (ap (man_at p) led.man ∙ is)) in
      let no : None ≡ Some led.leads.from = sym e ∙ (ap square_of (sym man) ∙ led.leads.stands) in
      cc)
  of_man i n m is (Some a) e = on_ray i n m a is e (ray_of m.kind m.side n) refl

  at_number : (i n : ℕ) (o : Option Man) → man_at p i ≡ o → Nearest i n
  at_number i n None e = inr (λ t led. let no : None ≡ Some led.leads.man = sym e ∙ (ap (man_at p) (sym led.man) ∙ led.leads.is_man) in cc)
  at_number i n (Some m) e = of_man i n m e (square_of m) refl

  nearest : (i n : ℕ) → Nearest i n
  nearest i n = at_number i n (man_at p i) refl

  abbrev OnRay : ℕ → ℕ → Type 0
  OnRay i n = (t : ℕ) × Led i n t

  on_ray_or_not : (i n : ℕ) → Decided (OnRay i n)
  on_ray_or_not i n = elim (nearest i n) [ inl h ↦ inl (h.number, h.has) | inr none ↦ inr (λ h. none h.0 h.1) ]

  ray_bound : (i n : ℕ) → OnRay i n → n < 16
  ray_bound i n (t, led) =
      let low = ray_low led.leads.man.kind led.leads.man.side led.choice.ray led.leads.on.ray led.leads.on.is_ray in
      let is = led.ray in omega (arith, low, is)

  abbrev OfMan : ℕ → Type 0
  OfMan i = (n : ℕ) × OnRay i n

  man_bound : (i : ℕ) → OfMan i → i < suc (length p.men)
  man_bound i (n, (t, led)) =
      let high = man_high p led.choice.mv.man led.leads.man led.leads.is_man in
      let is = led.man in omega (arith, high, is)

  first_ray : (i : ℕ) → IsFirstWith (OnRay i) ⊎ ((n : ℕ) → OnRay i n → ⊥)
  first_ray i = first_with (OnRay i) (on_ray_or_not i) 16 (ray_bound i)

  first_man : IsFirstWith OfMan ⊎ ((i : ℕ) → OfMan i → ⊥)
  first_man = first_with OfMan (λ i. some_with (OnRay i) (on_ray_or_not i) 16 (ray_bound i)) (suc (length p.men)) man_bound

  none_led : ((i : ℕ) → OfMan i → ⊥) → Pick Set f p None
  none_led none i z q legal framed is_in =
      let step = legal.step in
      let w = some_and (square_of step.man) _ (step_one p i z q step) in
      let one : IsOnOneRay p step.man w.0 z = w.2 in
      let d : Choice = record { mv = record { man = i; x = z.x; y = z.y }; ray = one.number; distance = one.distance } in
      let into : Leads Set f p d q =
      record { man = step.man; from = w.0; is_man = step.is_man; stands = w.1; on = one.on; inside = framed; legal = legal; is_in = is_in } in
      none i (one.number, (one.distance, is_led into))

  module _ (man : IsFirstWith OfMan) (ray : IsFirstWith (OnRay man.number)) (far : IsFirstWith (Led man.number ray.number)) where
    before : {d : Choice} {q : Position} → Leads Set f p d q → IsBefore d far.has.choice → ⊥
    before {d} into (inl low) = let is = far.has.man in man.least d.mv.man (omega (arith, low, is)) (d.ray, (d.distance, is_led into))
    before {d} {q} into (inr (same, inl low)) =
        let is = far.has.ray in
        ray.least d.ray (omega (arith, low, is))
        (d.distance, record { choice = d; position = q; man = same ∙ far.has.man; ray = refl; far = refl; leads = into })
    before {d} {q} into (inr (same, inr (on, low))) =
        let is = far.has.far in
        far.least d.distance (omega (arith, low, is))
        (record { choice = d; position = q; man = same ∙ far.has.man; ray = on ∙ far.has.ray; far = refl; leads = into })

    picked : Pick Set f p (Some far.has.choice)
    picked = record { has = tt; position = far.has.position; leads = far.has.leads; first = λ d q has into is. before into is }

  abbrev Found : Type 0
  Found = (o : Option Choice) × Pick Set f p o

  with_ray : (man : IsFirstWith OfMan) (ray : IsFirstWith (OnRay man.number)) → Nearest man.number ray.number → Found
  with_ray man ray (inl far) = (Some far.has.choice, picked man ray far)
  with_ray man ray (inr none) = absurd (none ray.has.0 ray.has.1)

  with_man : (man : IsFirstWith OfMan) → IsFirstWith (OnRay man.number) ⊎ ((n : ℕ) → OnRay man.number n → ⊥) → Found
  with_man man (inl ray) = with_ray man ray (nearest man.number ray.number)
  with_man man (inr none) = absurd (none man.has.0 man.has.1)

  pub some_pick : Found
  some_pick = elim first_man [ inl man ↦ with_man man (first_ray man.number) | inr none ↦ (None, none_led none) ]
