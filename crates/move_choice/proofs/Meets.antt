-- The man whom one meets on a ray, and how far the way to him is clear.
use Rattle.std.proofs.Common.{◌≡◌, ◌↔◌, inl, inr, ℕ, zero, suc, ◌+◌, ◌<◌, ◌≤◌, ◌-◌, true, false, Option, Some, None, refl, sym, ap, subst, ◌∙◌, arith}
use Rattle.std.specs.Prelude.{IsSomeAnd}
use Rattle.std.proofs.lemmas.Bool.{cases_lt}
use Rattle.std.proofs.lemmas.Option.{same_Some}
use Rattle.game_rules.specs.declared.men.Man.{Man}
use Rattle.game_rules.specs.declared.men.Ray.{Ray}
use Rattle.game_rules.specs.declared.men.Square.{Square}
use Rattle.game_rules.specs.Game.{Position, IsApart, IsEmptySquare, IsOccupiedBy, IsLiveAnd, StandsOn, after_steps, man_at}
use Rattle.game_rules.specs.declared.men.Side.{Side}
use Rattle.game_rules.specs.Rays.{IsAt}
use Rattle.game_laws.specs.Answer.{distance}
use Rattle.game_laws.proofs.CheckLemmas.{any_is, one_square}
use Rattle.game_laws.proofs.LineLemmas.{steps_distance}
use Rattle.game_laws.proofs.RayLemmas.{true_or_not}
use Rattle.game_laws.proofs.TableLemmas.{ray_is}
use Rattle.chess_game.specs.Unsoundness.{StandsAt}
use Rattle.chess_game.specs.Way.{IsHit, IsHitFrom}
use Rattle.chess_game.specs.declared.way.Frame.{Frame}
use Rattle.mask_sets.proofs.Men.{all_men}
use Rattle.move_choice.specs.Aims.{HoldsMen, IsMet, IsMover}
use Rattle.move_choice.specs.Along.{IsClear, IsClearForever, IsClearFrom, IsClearTo}
use Rattle.move_choice.specs.Choice.{AreHisSteps, AreSteps}
use Rattle.move_choice.proofs.Ways.{any_or_none, first_met}

-- what is said of a live man's square
module _ {p : Position} {i n : ℕ} {r : Ray} (mover : IsMover p i n r) (P : Square → Type 0) where
  pub of_square : IsSomeAnd (man_at p i) (λ m. IsLiveAnd m P) → P mover.square
  of_square h =
      let live : IsLiveAnd mover.man P = subst (λ (o : Option Man). IsSomeAnd o (λ m. IsLiveAnd m P)) mover.is_man h in
      subst (λ (o : Option Square). IsSomeAnd o P) mover.stands live

  pub on_square : P mover.square → IsSomeAnd (man_at p i) (λ m. IsLiveAnd m P)
  on_square h =
      subst (λ (o : Option Man). IsSomeAnd o (λ m. IsLiveAnd m P)) (sym mover.is_man)
      (subst (λ (o : Option Square). IsSomeAnd o P) (sym mover.stands) h)

pub stands_is : (p : Position) (h : ℕ) (z : Square) → StandsAt p h z → (m : Man) × (man_at p h ≡ Some m) × StandsOn m z
stands_is p h z s = by (man_at p h) s
  where
    by : (o : Option Man) → IsSomeAnd o (λ m. StandsOn m z) → (m : Man) × (o ≡ Some m) × StandsOn m z
    by None s = absurd s
    by (Some m) s = (m, refl, s)

pub stands_at : (p : Position) (h : ℕ) (z : Square) (m : Man) → man_at p h ≡ Some m → StandsOn m z → StandsAt p h z
stands_at p h z m is on = subst (λ (o : Option Man). IsSomeAnd o (λ k. StandsOn k z)) (sym is) on

-- no man stands on an empty square
pub empty_not_held : (p : Position) (s : Side) (z : Square) → IsEmptySquare p z → IsOccupiedBy p s z → ⊥
empty_not_held p s z none held = let w = any_is p _ held in (all_men p (λ m. StandsOn m z → ⊥)).0 none w.0 w.1 w.2 w.3.1

module _ {p : Position} {i n : ℕ} {r : Ray} (mover : IsMover p i n r) where
  -- the first man met, on his square
  module _ {f : Frame} {z : Square} (met : IsMet p i r f z) where
    pub hit : IsHitFrom p mover.square r f met.number
    hit = of_square mover (λ b. IsHitFrom p b r f met.number) met.hit

    pub hit_to : hit.to ≡ z
    hit_to =
        let v = stands_is p met.number hit.to hit.hit in
        let w = stands_is p met.number z met.there in
        one_square w.0 z hit.to w.2 (subst (λ m. StandsOn m hit.to) (same_Some v.0 w.0 (sym v.1 ∙ w.1)) v.2)

    pub hit_held : IsEmptySquare p hit.to → ⊥
    hit_held none =
        let v = stands_is p met.number hit.to hit.hit in
        (all_men p (λ m. StandsOn m hit.to → ⊥)).0 none met.number v.0 v.1 v.2

    -- the distance by the squares
    pub steps_right : (t : ℕ) → AreHisSteps p i r z t → t ≡ hit.distance
    steps_right t steps =
        let by = of_square mover (λ b. AreSteps r b z t) steps in
        elim (true_or_not r.far) [
          | inl is ↦
              by.0 is
              ∙ (ap (distance mover.square) (sym hit_to)
              ∙ steps_distance mover.square hit.to r.dx r.dy (ray_is mover.man.side mover.man.kind n r mover.is_ray).direction
              hit.distance hit.leads.leads)
          | inr is ↦ by.1 is ∙ sym (hit.leads.one is)
        ]

    -- the way is clear before him and no farther
    clear_from : (t : ℕ) → t < hit.distance → 1 ≤ t → IsClearFrom p mover.square r t
    clear_from t less begun = record {
      to = after_steps mover.square t r.dx r.dy;
      leads = record { begun = begun; one = λ near. let one = hit.leads.one near in absurd (omega (arith, less, begun, one)); leads = refl };
      empty = λ k b low at. hit.first k b (omega (arith, low, less)) at;
    }

    clear_less : {t : ℕ} → IsClearFrom p mover.square r t → t < hit.distance
    clear_less {t} c = elim (cases_lt t hit.distance) [ inl less ↦ less | inr past ↦ absurd (hit_held (c.empty hit.distance hit.to past hit.leads)) ]

    pub clear_before : (t last : ℕ) → last + 1 ≡ hit.distance → ((1 ≤ t) × (t ≤ last)) ↔ IsClear p i r t
    clear_before t last is = (
      λ (begun, low). on_square mover (λ b. IsClearFrom p b r t) (clear_from t (omega (arith, low, is)) begun),
      λ c.
          let from = of_square mover (λ b. IsClearFrom p b r t) c in
          let less = clear_less from in
          (from.leads.begun, omega (arith, less, is)),
    )

    -- so one step less than to him is the farthest
    pub before_hit : (t : ℕ) → AreHisSteps p i r z t → (1 ≤ t) × IsClearTo p i r (t - 1)
    before_hit t steps =
        let right = steps_right t steps in
        let begun = hit.leads.begun in
        (omega (arith, right, begun), λ u. clear_before u (t - 1) (omega (arith, right, begun)))

  -- if no man is met in a frame that contains all men, no man stands on the ray
  module _ {f : Frame} (apart : IsApart p) (holds : HoldsMen f p) (none : (h : ℕ) → IsHit p i r f h → ⊥) where
    nobody_below : (k : ℕ) (l : ℕ) (z : Square) → l < k → IsAt r l mover.square z → IsEmptySquare p z
    nobody_below zero l z less at = absurd (omega (arith, less))
    nobody_below (suc k) l z less at =
        elim (any_or_none p z) [
          | inl empty ↦ empty
          | inr (h, m, is, on) ↦
              let before : (t : ℕ) (b : Square) → t < l → IsAt r t mover.square b → IsEmptySquare p b = λ t b fewer on_ray. nobody_below k t b (omega (arith, less, fewer)) on_ray in
              let hits : IsHitFrom p mover.square r f h = first_met p mover.square r f l z at (holds h z (stands_at p h z m is on)) before apart h m is on in
              absurd (none h (on_square mover (λ b. IsHitFrom p b r f h) hits))
        ]

    nobody : {k : ℕ} {z : Square} → IsAt r k mover.square z → IsEmptySquare p z
    nobody {k} {z} at = nobody_below (suc k) k z (omega arith) at

    clear_at : (t : ℕ) → IsAt r t mover.square (after_steps mover.square t r.dx r.dy) → IsClear p i r t
    clear_at t at = on_square mover (λ b. IsClearFrom p b r t) (record { to = after_steps mover.square t r.dx r.dy; leads = at; empty = λ k z low on. nobody on })

    begun_clear : (t : ℕ) → IsClear p i r t → 1 ≤ t
    begun_clear t c = (of_square mover (λ b. IsClearFrom p b r t) c).leads.begun

    pub clear_far : r.far ≡ true → IsClearForever p i r
    clear_far far t = (
      λ begun. clear_at t (record { begun = begun; one = λ near. let no : true ≡ false = sym far ∙ near in absurd (cc); leads = refl }),
      λ c. begun_clear t c,
    )

    pub clear_near : r.far ≡ false → IsClearTo p i r 1
    clear_near near t = (
      λ (begun, low). clear_at t (record { begun = begun; one = λ is. omega (arith, begun, low); leads = refl }),
      λ c.
          let from = of_square mover (λ b. IsClearFrom p b r t) c in
          let one = from.leads.one near in
          (from.leads.begun, omega (arith, one)),
    )
