-- Lemmas on rays and frames.
use Rattle.std.proofs.Common.{◌≡◌, ◌≢◌, ◌⊎◌, inl, inr, ℕ, zero, suc, ◌<◌, ◌≤◌, ◌+◌, true, false, List, length, get_or, add-one, ℤ, pos, ◌+ℤ◌, ◌-ℤ◌, ◌*ℤ◌, neg_ℤ, unsigned_abs, Option, Some, None, refl, sym, ap, ◌∙◌, subst, arith}
use Rattle.std.specs.Prelude.{◌↔◌, IfNone, IfSome, IsSomeAnd, slice_get}
use Rattle.std.proofs.lemmas.Int.{ints}
use Rattle.std.proofs.lemmas.Option.{get_or_from_slice_get, slice_get_within, slice_get-get_or}
use Rattle.game_rules.specs.Game.{IsDirection, Position, IsEmptySquare, IsLiveAnd, StandsOn, after_steps, man_at, square_of}
use Rattle.game_rules.specs.Rays.{IsAt}
use Rattle.game_rules.specs.declared.men.Man.{Man}
use Rattle.game_rules.specs.declared.men.Ray.{Ray}
use Rattle.game_rules.specs.declared.men.Square.{Square}
use Rattle.game_laws.proofs.LineLemmas.{square_is, steps_distance}
use Rattle.game_laws.proofs.Products.{negated_steps}
use Rattle.chess_game.specs.Unsoundness.{StandsAt}
use Rattle.chess_game.specs.Along.{IsIn, IsNearest, IsNearestMan, IsReach, IsStepwise, IsWithin, IsWithinAfter, StandsOff}
use Rattle.chess_game.specs.Offsets.{IsTimes}
use Rattle.chess_game.specs.Way.{IsFree, IsFreeFrom, IsHitFrom, IsInside}
use Rattle.chess_game.specs.declared.way.Progression.{Progression}
use Rattle.chess_game.specs.declared.way.Frame.{Frame}
use Rattle.chess_game.specs.declared.way.Hit.{Hit}
use Rattle.chess_game.specs.declared.way.DistanceRange.{DistanceRange}
use Rattle.chess_game.proofs.UnsoundnessLemmas.{man_of_some, number_cases}
use Rattle.chess_game.proofs.OffsetLemmas.{times_from, times_to}

-- no step
pub level : (t : ℕ) (x : Progression) → x.step ≡ pos 0 → IsWithin x x.at t ↔ IsWithinAfter x t
level t x e =
    let once : pos t *ℤ pos 0 ≡ pos 0 = grind (arith, ints) in
    let far : pos t *ℤ x.step ≡ pos 0 = rw e once in
    let same : x.at +ℤ pos 0 ≡ x.at = omega (arith, ints) in
    (λ h. rw (far, same) h, λ h. rw (far, same) at h)

-- steps of 1
pub rising : (t : ℕ) (x : Progression) → x.step ≡ pos 1 → IsWithin x (x.at +ℤ pos t) t ↔ IsWithinAfter x t
rising t x e =
    let once : pos t *ℤ pos 1 ≡ pos t = grind (arith, ints) in
    let far : pos t *ℤ x.step ≡ pos t = rw e once in
    (λ h. rw far h, λ h. rw far at h)

-- steps of 2
pub doubled : (t : ℕ) (x : Progression) → x.step ≡ pos 2 → IsWithin x (x.at +ℤ pos (t + t)) t ↔ IsWithinAfter x t
doubled t x e =
    let once : pos t *ℤ pos 2 ≡ pos (t + t) = omega (arith, ints) in
    let far : pos t *ℤ x.step ≡ pos (t + t) = rw e once in
    (λ h. rw far h, λ h. rw far at h)

-- steps the other way, seen from the other end
pub falling : (t : ℕ) (x y : Progression) → y.step ≡ neg_ℤ x.step → y.at ≡ neg_ℤ x.at → y.low ≡ neg_ℤ x.high
    → y.high ≡ neg_ℤ x.low → IsWithinAfter y t ↔ IsWithinAfter x t
falling t x y step at low high =
    let turned : neg_ℤ x.step ≡ pos 0 -ℤ x.step = omega (arith, ints) in
    let far : pos t *ℤ y.step ≡ pos 0 -ℤ (pos t *ℤ x.step) = ap (λ d. pos t *ℤ d) (step ∙ turned) ∙ negated_steps t x.step in (
      λ h. (h.0, omega (arith, ints, h.1, h.2, at, low, high, far), omega (arith, ints, h.1, h.2, at, low, high, far)),
      λ h. (h.0, omega (arith, ints, h.1, h.2, at, low, high, far), omega (arith, ints, h.1, h.2, at, low, high, far)),
    )

-- the two axes of a ray tell of the square
pub axes_inside : (t : ℕ) (a : Square) (r : Ray) (f : Frame) (x y : Progression) → x.at ≡ a.x → x.step ≡ r.dx → x.low ≡ f.x_low → x.high ≡ f.x_high
    → y.at ≡ a.y → y.step ≡ r.dy → y.low ≡ f.y_low → y.high ≡ f.y_high
    → (IsWithinAfter x t × IsWithinAfter y t) ↔ ((1 ≤ t) × IsInside f (after_steps a t r.dx r.dy))
axes_inside t a r f x y ax sx lx hx ay sy ly hy = (
  λ h.
      let gx = rw (ax, sx, lx, hx) at h.0 in
      let gy = rw (ay, sy, ly, hy) at h.1 in
      (gx.0, record { left = gx.1; right = gx.2; below = gy.1; above = gy.2 }),
  λ h. (rw (ax, sx, lx, hx) (h.0, h.1.left, h.1.right), rw (ay, sy, ly, hy) (h.0, h.1.below, h.1.above)),
)

pub direction_moves : (dx dy : ℤ) → IsDirection dx dy → (dx ≢ pos 0) ⊎ (dy ≢ pos 0)
direction_moves dx dy (inl h) = inl (λ e. omega (arith, h.0, ap unsigned_abs e))
direction_moves dx dy (inr h) = inr (λ e. omega (arith, h.0, ap unsigned_abs e))

once : (d : ℤ) → pos 1 *ℤ d ≡ d
once d = grind (arith, ints)

-- the first square of a ray is one step away
pub leap_inside : (t : ℕ) (a : Square) (r : Ray) (f : Frame) (z : Square) → z.x ≡ a.x +ℤ r.dx → z.y ≡ a.y +ℤ r.dy → t ≡ 1 → IsInside f z ↔ IsInside f (after_steps a t r.dx r.dy)
leap_inside t a r f z x y first =
    let same : z ≡ after_steps a 1 r.dx r.dy = rw (once r.dx, once r.dy) (square_is z (a.x +ℤ r.dx) (a.y +ℤ r.dy) x y) in
    let there : z ≡ after_steps a t r.dx r.dy = rw first same in
    (λ h. subst (IsInside f) there h, λ h. subst (IsInside f) (sym there) h)

-- a ray from one square to another, by the offset and the step
module _ (a z : Square) (r : Ray) (ox oy ux uy : ℤ) (is_ox : ox ≡ z.x -ℤ a.x) (is_oy : oy ≡ z.y -ℤ a.y) (is_ux : ux ≡ r.dx) (is_uy : uy ≡ r.dy) where
  pub leap_at : (ox ≡ ux) × (oy ≡ uy) → IsAt r 1 a z
  leap_at same =
      record {
        begun = omega arith;
        one = λ no. refl;
        leads = times_from a z {dx = r.dx} {dy = r.dy} {ox = ox} {oy = oy} {t = 1} is_ox is_oy (record {
          positive = omega arith;
          right = same.0 ∙ is_ux ∙ sym (once r.dx);
          up = same.1 ∙ is_uy ∙ sym (once r.dy);
        });
      }

  pub at_leap : (t : ℕ) → r.far ≡ false → IsAt r t a z → (ox ≡ ux) × (oy ≡ uy)
  at_leap t leaps h =
      let first : t ≡ 1 = h.one leaps in
      let there : z ≡ after_steps a 1 r.dx r.dy = subst (λ k. z ≡ after_steps a k r.dx r.dy) first h.leads in
      let times = times_to a z r.dx r.dy ox oy 1 is_ox is_oy (omega arith) there in
      (times.right ∙ once r.dx ∙ sym is_ux, times.up ∙ once r.dy ∙ sym is_uy)

  slide_at : {t : ℕ} → r.far ≡ true → IsTimes ux uy ox oy t → IsAt r t a z
  slide_at {t} far h =
      let there : IsTimes r.dx r.dy ox oy t = subst (λ d. IsTimes r.dx d ox oy t) is_uy (subst (λ d. IsTimes d uy ox oy t) is_ux h) in
      let some : 0 < t = h.positive in
      record {
        begun = omega arith;
        one = λ no. cc;
        leads = times_from a z is_ox is_oy there;
      }

  at_slide : {t : ℕ} → IsAt r t a z → IsTimes ux uy ox oy t
  at_slide {t} h =
      let some : 1 ≤ t = h.begun in
      let there : IsTimes r.dx r.dy ox oy t = times_to a z r.dx r.dy ox oy t is_ox is_oy (omega arith) h.leads in
      subst (λ d. IsTimes ux d ox oy t) (sym is_uy) (subst (λ d. IsTimes d r.dy ox oy t) (sym is_ux) there)

  pub slide_some : r.far ≡ true → (o : Option ℕ) → IfSome o (IsTimes ux uy ox oy) → IfSome o (λ t. IsAt r t a z)
  slide_some far (Some t) h = slide_at far h
  slide_some far None h = tt

  pub slide_none : (o : Option ℕ) → IfNone o ((t : ℕ) → IsTimes ux uy ox oy t → ⊥) → IfNone o ((t : ℕ) → IsAt r t a z → ⊥)
  slide_none (Some t) h = tt
  slide_none None h = λ t there. h t (at_slide there)

-- the distances of a far ray
pub far_reach : (r : Ray) (a : Square) (f : Frame) (t : ℕ) → r.far ≡ true → ((1 ≤ t) × IsInside f (after_steps a t r.dx r.dy)) ↔ IsReach r a f t
far_reach r a f t far =
    (λ h. (record { begun = h.0; one = λ no. cc; leads = refl }, h.1), λ h. (h.0.begun, h.1))

-- the one distance of another
pub near_reach : (r : Ray) (a : Square) (f : Frame) (t : ℕ) → r.far ≡ false → ((t ≡ 1) × IsInside f (after_steps a t r.dx r.dy)) ↔ IsReach r a f t
near_reach r a f t near = (
  λ h. let first : t ≡ 1 = h.0 in (record { begun = omega arith; one = λ no. first; leads = refl }, h.1),
  λ h. (h.0.one near, h.1),
)

square_of_some : (o : Option Square) (P : Square → Type 0) → IsSomeAnd o P → (z : Square) × (o ≡ Some z) × P z
square_of_some None P h = absurd h
square_of_some (Some z) P h = (z, refl, h)

-- a distance along a ray is the only one
pub at_unique : {r : Ray} {a z : Square} {s t : ℕ} → IsStepwise r → IsAt r s a z → IsAt r t a z → s ≡ t
at_unique {r} {a} {z} {s} {t} stepwise hs ht =
    sym (steps_distance a z r.dx r.dy stepwise s hs.leads) ∙ steps_distance a z r.dx r.dy stepwise t ht.leads

-- so is the distance at which a man stands
pub off_unique : (o : Option Square) (r : Ray) (a : Square) (s t : ℕ) → IsStepwise r → IsSomeAnd o (IsAt r s a) → IsSomeAnd o (IsAt r t a) → s ≡ t
off_unique None r a s t stepwise hs ht = absurd hs
off_unique (Some z) r a s t stepwise hs ht = at_unique stepwise hs ht

less_suc : (k n : ℕ) → k < n + 1 → (k < n) ⊎ (k ≡ n)
less_suc k n h = grind arith

same_man : (ms : List Man) (k n : ℕ) (m d : Man) → k ≡ n → slice_get ms k ≡ Some m → slice_get ms n ≡ Some d → m ≡ d
same_man ms k n m d e is_m is_d =
    let both : Some m ≡ Some d = sym is_m ∙ ap (slice_get ms) e ∙ is_d in cc

-- a man who is no nearer changes nothing
pub nearest_keep : (ms : List Man) (n : ℕ) (a : Square) (r : Ray) (hit : Hit) (d : Man) (t : ℕ) → IsStepwise r → slice_get ms n ≡ Some d
    → IsNearestMan ms n a r hit → StandsOff r a d t → hit.distance ≤ t → IsNearestMan ms (n + 1) a r hit
nearest_keep ms n a r hit d t stepwise is h stands farther =
    let within : hit.index < n = h.within in
    record {
      within = omega arith;
      there = h.there;
      nearest = λ k m s low is_m there.
          elim (less_suc k n low) [
            | inl less ↦ h.nearest k m s less is_m there
            | inr same ↦
                let only : s ≡ t = off_unique (square_of d) r a s t stepwise (subst (λ b. StandsOff r a b s) (same_man ms k n m d same is_m is) there) stands in
                omega arith
          ];
      least = h.least;
    }

-- a nearer man is the nearest
pub nearest_take : (ms : List Man) (n : ℕ) (a : Square) (r : Ray) (best : Option Hit) (d : Man) (hit : Hit) → IsStepwise r → slice_get ms n ≡ Some d
    → hit.index ≡ n → IsNearest ms n a r best → StandsOff r a d hit.distance → IfSome best (λ old. hit.distance < old.distance)
    → IsNearestMan ms (n + 1) a r hit
nearest_take ms n a r None d hit stepwise is index h stands nearer =
    record {
      within = omega arith;
      there = rw (index, is) stands;
      nearest = λ k m s low is_m there.
          elim (less_suc k n low) [
            | inl less ↦ absurd (h k m s less is_m there)
            | inr same ↦
                let only : s ≡ hit.distance = off_unique (square_of d) r a s hit.distance stepwise (subst (λ b. StandsOff r a b s) (same_man ms k n m d same is_m is) there) stands in
                omega arith
          ];
      least = λ k m less is_m there. h k m hit.distance (omega arith) is_m there;
    }
nearest_take ms n a r (Some old) d hit stepwise is index h stands nearer =
    record {
      within = omega arith;
      there = rw (index, is) stands;
      nearest = λ k m s low is_m there.
          elim (less_suc k n low) [
            | inl less ↦ let far : old.distance ≤ s = h.nearest k m s less is_m there in omega arith
            | inr same ↦
                let only : s ≡ hit.distance = off_unique (square_of d) r a s hit.distance stepwise (subst (λ b. StandsOff r a b s) (same_man ms k n m d same is_m is) there) stands in
                omega arith
          ];
      least = λ k m less is_m there.
          let far : old.distance ≤ hit.distance = h.nearest k m hit.distance (omega arith) is_m there in
          absurd (omega arith);
    }

-- the first man on the ray is one of the eight
pub few_hits : (ms : List Man) (a : Square) (r : Ray) (hit : Option Hit) → length ms ≤ 8 → IsNearest ms (length ms) a r hit → IfSome hit (λ h. h.index < 8)
few_hits ms a r None few h = tt
few_hits ms a r (Some hit) few h = let within : hit.index < length ms = h.within in omega arith

off_at : (m : Man) (a z : Square) (r : Ray) (k : ℕ) → StandsOn m z → IsAt r k a z → StandsOff r a m k
off_at m a z r k stands at = rw stands at

-- where no man stands so far along the ray, or nearer, the square there is empty
empty_at : (p : Position) (a z : Square) (r : Ray) (k : ℕ) → IsAt r k a z → ((i : ℕ) (m : Man) → slice_get p.men i ≡ Some m → StandsOff r a m k → ⊥) → IsEmptySquare p z
empty_at p a z r k at none i d low stands =
    none i (get_or p.men i d) (slice_get-get_or p.men i d low) (off_at (get_or p.men i d) a z r k stands at)

-- who stands on an empty square
not_empty : (p : Position) (z : Square) (i : ℕ) (m : Man) → IsEmptySquare p z → slice_get p.men i ≡ Some m → StandsOn m z → ⊥
not_empty p z i m empty is stands =
    let at : get_or p.men i m ≡ m = get_or_from_slice_get p.men i m m is in
    empty i m (slice_get_within p.men i m is) (subst (λ b. StandsOn b z) (sym at) stands)

at_most : {t d : ℕ} → (t ≡ d) ⊎ (d < t) → d ≤ t
at_most (inl same) = omega arith
at_most (inr less) = omega arith

-- the man of this number, by his index
man_at_stands : (p : Position) (i : ℕ) (z : Square) → StandsAt p i z → (k : ℕ) × (m : Man) × (slice_get p.men k ≡ Some m) × StandsOn m z
man_at_stands p zero z h = absurd h
man_at_stands p (suc k) z h = let w = man_of_some (slice_get p.men k) _ h in (k, w.0, w.1, w.2)

stands_at_index : (p : Position) (i : ℕ) (m : Man) (z : Square) → slice_get p.men i ≡ Some m → StandsOn m z → StandsAt p (i + 1) z
stands_at_index p i m z is stands = rw (add-one, is) stands

-- what the first man on the ray says of its squares
module _ (p : Position) (a : Square) (r : Ray) (f : Frame) where
  pub free_from : (hit : Option Hit) → IsNearest p.men (length p.men) a r hit → (t : ℕ) → IsReach r a f t → IfSome hit (λ h. t < h.distance) → IsFreeFrom p a r f t
  free_from None nearest t reach before =
      record {
        to = after_steps a t r.dx r.dy;
        leads = reach.0;
        inside = reach.1;
        empty = λ k z low at. empty_at p a z r k at (λ i m is off. nearest i m k (slice_get_within p.men i m is) is off);
      }
  free_from (Some hit) nearest t reach before =
      record {
        to = after_steps a t r.dx r.dy;
        leads = reach.0;
        inside = reach.1;
        empty = λ k z low at. empty_at p a z r k at (λ i m is off.
            let far : hit.distance ≤ k = nearest.nearest i m k (slice_get_within p.men i m is) is off in
            absurd (omega arith));
      }

  reach_of : {t : ℕ} → {z : Square} → IsAt r t a z → IsInside f z → IsReach r a f t
  reach_of {t} at inside =
      (subst (IsAt r t a) at.leads at, subst (IsInside f) at.leads inside)

  pub from_free : (hit : Option Hit) → IsNearest p.men (length p.men) a r hit → {t : ℕ} → IsFreeFrom p a r f t → IsReach r a f t × IfSome hit (λ h. t < h.distance)
  from_free None nearest h = (reach_of h.leads h.inside, tt)
  from_free (Some hit) nearest {t} h =
      let w = man_of_some (slice_get p.men hit.index) _ nearest.there in
      let z = square_of_some (square_of w.0) _ w.2 in (
        reach_of h.leads h.inside,
        elim (number_cases t hit.distance) [
          | inl lt ↦ lt
          | inr past ↦ absurd (not_empty p z.0 hit.index w.0 (h.empty hit.distance z.0 (at_most past) z.2) w.1 z.1)
        ],
      )

  no_lesser_man : {hit : Hit} → IsNearestMan p.men (length p.men) a r hit → {z : Square} → IsAt r hit.distance a z → (j : ℕ) → j < hit.index + 1 → StandsAt p j z → ⊥
  no_lesser_man nearest at zero low there = there
  no_lesser_man {hit} nearest {z} at (suc k) low there =
      let w = man_of_some (slice_get p.men k) _ there in
      nearest.least k w.0 (omega arith) w.1 (off_at w.0 a z r hit.distance w.2 at)

  hit_some : {hit : Hit} → IsNearestMan p.men (length p.men) a r hit → IsReach r a f hit.distance → IsHitFrom p a r f (hit.index + 1)
  hit_some {hit} nearest reach =
      let w = man_of_some (slice_get p.men hit.index) _ nearest.there in
      let z = square_of_some (square_of w.0) _ w.2 in
      record {
        to = z.0;
        distance = hit.distance;
        leads = z.2;
        inside = subst (IsInside f) (sym z.2.leads) reach.1;
        hit = stands_at_index p hit.index w.0 z.0 w.1 z.1;
        first = λ k y low at. empty_at p a y r k at (λ i m is off.
            let far : hit.distance ≤ k = nearest.nearest i m k (slice_get_within p.men i m is) is off in
            absurd (omega arith));
        least = λ j low there. no_lesser_man nearest z.2 j low there;
      }

  pub hits_some : (span : DistanceRange) → ((t : ℕ) → IsIn span t → IsReach r a f t) → (hit : Option Hit) → IsNearest p.men (length p.men) a r hit
      → (o : Option ℕ) → IfSome o (λ n. IsSomeAnd hit (λ h. (n ≡ h.index + 1) × IsIn span h.distance)) → IfSome o (IsHitFrom p a r f)
  hits_some span reach hit nearest None h = tt
  hits_some span reach None nearest (Some n) h = absurd h
  hits_some span reach (Some hit) nearest (Some n) h =
      subst (IsHitFrom p a r f) (sym h.0) (hit_some nearest (reach hit.distance h.1))

  pub hits_none : (span : DistanceRange) → ((t : ℕ) → IsReach r a f t → IsIn span t) → (hit : Option Hit) → IsNearest p.men (length p.men) a r hit
      → (o : Option ℕ) → IfNone o (IfSome hit (λ h. IsIn span h.distance → ⊥)) → IfNone o ((i : ℕ) → IsHitFrom p a r f i → ⊥)
  hits_none span reach hit nearest (Some n) h = tt
  hits_none span reach None nearest None h = λ i there.
      let w = man_at_stands p i there.to there.hit in
      nearest w.0 w.1 there.distance (slice_get_within p.men w.0 w.1 w.2) w.2 (off_at w.1 a there.to r there.distance w.3 there.leads)
  hits_none span reach (Some hit) nearest None h = λ i there.
      let w = man_at_stands p i there.to there.hit in
      let far : hit.distance ≤ there.distance = nearest.nearest w.0 w.1 there.distance (slice_get_within p.men w.0 w.1 w.2) w.2 (off_at w.1 a there.to r there.distance w.3 there.leads) in
      let v = man_of_some (slice_get p.men hit.index) _ nearest.there in
      let z = square_of_some (square_of v.0) _ v.2 in
      elim (number_cases hit.distance there.distance) [
        | inl lt ↦ not_empty p z.0 hit.index v.0 (there.first hit.distance z.0 lt z.2) v.1 z.1
        | inr rest ↦ elim rest [
          | inl same ↦ h (reach hit.distance (subst (IsReach r a f) (sym same) (reach_of there.leads there.inside)))
          | inr gt ↦ absurd (omega arith)
        ]
      ]

-- what is free from a man's square is free for him
pub free_at : (p : Position) (i : ℕ) (a : Square) (r : Ray) (f : Frame) (t : ℕ) → StandsAt p i a → IsFreeFrom p a r f t → IsFree p i r f t
free_at p i a r f t stands h =
    let w = man_of_some (man_at p i) _ stands in
    let live : IsLiveAnd w.0 (λ z. IsFreeFrom p z r f t) = rw w.2 h in
    rw w.1 live
