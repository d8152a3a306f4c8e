-- There is one first move.
use Rattle.std.proofs.Common.{◌≡◌, inl, inr, Some, None, refl, sym, ap, subst, ◌∙◌}
use Rattle.std.proofs.lemmas.Option.{same_Some}
use Rattle.std.proofs.lemmas.Bool.{cases_order}
use Rattle.game_rules.specs.declared.men.Ray.{Ray}
use Rattle.game_rules.specs.declared.men.Square.{Square}
use Rattle.game_rules.specs.Game.{Position, StandsOn, after_steps, man_at}
use Rattle.game_rules.specs.Rays.{ray_of}
use Rattle.game_laws.proofs.CheckLemmas.{one_square}
use Rattle.chess_game.specs.declared.way.Frame.{Frame}
use Rattle.move_choice.specs.Choice.{IsBefore, OnePick, Pick, target}
use Rattle.move_choice.specs.declared.choice.Choice.{Choice}

-- of two moves one is before the other, or they are alike
alike : (c d : Choice) → (IsBefore c d → ⊥) → (IsBefore d c → ⊥) → (c.mv.man ≡ d.mv.man) × (c.ray ≡ d.ray) × (c.distance ≡ d.distance)
alike c d not_c not_d =
    elim (cases_order c.mv.man d.mv.man) [
      | inr (inl less) ↦ absurd (not_c (inl less))
      | inr (inr more) ↦ absurd (not_d (inl more))
      | inl man ↦ elim (cases_order c.ray d.ray) [
        | inr (inl less) ↦ absurd (not_c (inr (man, inl less)))
        | inr (inr more) ↦ absurd (not_d (inr (sym man, inl more)))
        | inl ray ↦ elim (cases_order c.distance d.distance) [
          | inr (inl less) ↦ absurd (not_c (inr (man, inr (ray, less))))
          | inr (inr more) ↦ absurd (not_d (inr (sym man, inr (sym ray, more))))
          | inl far ↦ (man, ray, far)
        ]
      ]
    ]

choice_same : (c d : Choice) → c.mv.man ≡ d.mv.man → target c.mv ≡ target d.mv → c.ray ≡ d.ray → c.distance ≡ d.distance → c ≡ d
choice_same c d man to ray far =
    ap (λ i. record { mv = record { man = i; x = c.mv.x; y = c.mv.y }; ray = c.ray; distance = c.distance }) man
    ∙ (ap (λ (z : Square). record { mv = record { man = d.mv.man; x = z.x; y = z.y }; ray = c.ray; distance = c.distance }) to
    ∙ (ap (λ n. record { mv = d.mv; ray = n; distance = c.distance }) ray ∙ ap (λ t. record { mv = d.mv; ray = d.ray; distance = t }) far))

module _ (Set : Position → Type 0) (f : Frame) (p : Position) where
  same_pick : (c d : Choice) → Pick Set f p (Some c) → Pick Set f p (Some d) → c ≡ d
  same_pick c d one two =
      let h = one.leads in
      let k = two.leads in
      let same = alike c d (λ before. two.first c one.position tt h before) (λ before. one.first d two.position tt k before) in
      let man : h.man ≡ k.man = same_Some h.man k.man (sym h.is_man ∙ (ap (man_at p) same.0 ∙ k.is_man)) in
      let from : h.from ≡ k.from = one_square k.man k.from h.from k.stands (subst (λ m. StandsOn m h.from) man h.stands) in
      let on_h : ray_of k.man.kind k.man.side d.ray ≡ Some h.on.ray =
      subst (λ n. ray_of k.man.kind k.man.side n ≡ Some h.on.ray) same.1
      (subst (λ m. ray_of m.kind m.side c.ray ≡ Some h.on.ray) man h.on.is_ray) in
      let ray : h.on.ray ≡ k.on.ray = same_Some h.on.ray k.on.ray (sym on_h ∙ k.on.is_ray) in
      let to : target c.mv ≡ target d.mv =
      h.on.leads.leads
      ∙ (ap (λ a. after_steps a c.distance h.on.ray.dx h.on.ray.dy) from
      ∙ (ap (λ t. after_steps k.from t h.on.ray.dx h.on.ray.dy) same.2
      ∙ (ap (λ (r : Ray). after_steps k.from d.distance r.dx r.dy) ray ∙ sym k.on.leads.leads))) in
      choice_same c d same.0 to same.1 same.2

  pub pick_once : OnePick Set f p
  pick_once None None one two = refl
  pick_once None (Some d) one two = absurd (one d.mv.man (target d.mv) two.position two.leads.legal two.leads.inside two.leads.is_in)
  pick_once (Some c) None one two = absurd (two c.mv.man (target c.mv) one.position one.leads.legal one.leads.inside one.leads.is_in)
  pick_once (Some c) (Some d) one two = ap (λ x. Some x) (same_pick c d one two)
