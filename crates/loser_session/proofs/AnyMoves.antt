-- Whether some move leads into sets: along a ray, by a man, and at all.
use Rattle.std.proofs.Common.{◌≡◌, ℕ, ◌+◌, ◌<◌, ◌≤◌, length, inl, inr, ◌∙◌, subst, arith}
use Rattle.std.proofs.lemmas.Bool.{cases_lt}
use Rattle.std.proofs.lemmas.Option.{slice_get_within}
use Rattle.game_rules.specs.Game.{Position, Legal, square_of}
use Rattle.game_rules.specs.Rays.{rays_of}
use Rattle.game_rules.specs.declared.men.Square.{Square}
use Rattle.game_laws.specs.OnRay.{IsOnOneRay}
use Rattle.game_laws.proofs.CheckLemmas.{some_and}
use Rattle.game_laws.proofs.RayLemmas.{step_one}
use Rattle.chess_game.proofs.AnswerBounds.{rays_few}
use Rattle.move_choice.specs.Along.{LeadsAnywhere}
use Rattle.move_choice.proofs.Firsts.{man_high}
use Rattle.loser_session.specs.Leading.{LeadsNowhere}

module _ (Set : Position → Type 0) (p : Position) where
  -- no man has a ray of number sixteen or more
  past_rays : (man ray distance : ℕ) → 16 ≤ ray → LeadsAnywhere Set p man ray distance → ⊥
  past_rays man ray distance high w =
      let less = slice_get_within (rays_of w.him.kind w.him.side) ray w.on.ray w.on.is_ray in
      let few = rays_few w.him.kind w.him.side in
      omega (arith, high, less, few)

  -- along one of those counted, or along none
  abbrev pub NoneBelow : ℕ → ℕ → Type 0
  NoneBelow man rays = (ray distance : ℕ) → ray < rays → LeadsAnywhere Set p man ray distance → ⊥

  pub ray_more : (man rays : ℕ) → NoneBelow man rays → ((distance : ℕ) → LeadsAnywhere Set p man rays distance → ⊥) → NoneBelow man (rays + 1)
  ray_more man rays so_far here ray distance less w =
      elim (cases_lt ray rays) [
        | inl before ↦ so_far ray distance before w
        | inr last ↦
            let at : ray ≡ rays = omega (arith, last, less) in
            here distance (subst (λ n. LeadsAnywhere Set p man n distance) at w)
      ]

  pub none_along : (man rays : ℕ) → 16 ≤ rays → NoneBelow man rays → (ray distance : ℕ) → LeadsAnywhere Set p man ray distance → ⊥
  none_along man rays high none ray distance w =
      elim (cases_lt ray rays) [ inl before ↦ none ray distance before w | inr past ↦ past_rays man ray distance (omega (arith, high, past)) w ]

  abbrev pub NoMan : ℕ → Type 0
  NoMan men = (man ray distance : ℕ) → man < men → LeadsAnywhere Set p man ray distance → ⊥

  pub man_more : (men : ℕ) → NoMan men → ((ray distance : ℕ) → LeadsAnywhere Set p men ray distance → ⊥) → NoMan (men + 1)
  man_more men so_far here man ray distance less w =
      elim (cases_lt man men) [
        | inl before ↦ so_far man ray distance before w
        | inr last ↦
            let at : man ≡ men = omega (arith, last, less) in
            here ray distance (subst (λ n. LeadsAnywhere Set p n ray distance) at w)
      ]

  -- each legal move leads along a ray of its man
  legal_along : {i : ℕ} {z : Square} {q : Position} → Legal p i z q → Set q → (ray : ℕ) × (distance : ℕ) × LeadsAnywhere Set p i ray distance
  legal_along {i} {z} {q} legal is =
      let step = legal.step in
      let w = some_and (square_of step.man) _ (step_one p i z q step) in
      let one : IsOnOneRay p step.man w.0 z = w.2 in (
        one.number,
        one.distance,
        record { him = step.man; from = w.0; to = z; after = q; is_man = step.is_man; stands = w.1; on = one.on; is_target = tt; legal = legal; is_in = is },
      )

  -- where no man leads into the set, no legal move does
  pub nobody : (men : ℕ) → length p.men < men → NoMan men → LeadsNowhere Set p
  nobody men all none i z q legal is =
      let (ray, distance, w) = legal_along legal is in
      let high = man_high p i legal.step.man legal.step.is_man in
      none i ray distance (omega (arith, all, high)) w
