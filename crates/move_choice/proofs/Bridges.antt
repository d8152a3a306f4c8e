-- Moves along a ray, by their distances and by their choices.
use Rattle.std.proofs.Common.{◌≡◌, inl, inr, ℕ, Some, None, refl, sym, ap, subst, ◌∙◌}
use Rattle.std.proofs.lemmas.Bool.{cases_lt}
use Rattle.game_rules.specs.Game.{Position, Legal, man_at}
use Rattle.game_rules.specs.declared.men.Square.{Square}
use Rattle.game_laws.specs.OnRay.{IsOnRay}
use Rattle.chess_game.specs.Way.{IsInside}
use Rattle.chess_game.specs.declared.way.Frame.{Frame}
use Rattle.move_choice.specs.Along.{IsLeastOf, LeadsAlong, LeadsInside}
use Rattle.move_choice.specs.Choice.{FirstOf, IsAlongRay, Leads, target}
use Rattle.move_choice.specs.declared.choice.Choice.{Choice}

module _ {Set : Position → Type 0} {p : Position} {i n : ℕ} where
  -- another set, and other squares
  abbrev pub led_to : {S : Square → Type 0} {t : ℕ} (T : Square → Type 0) (Other : Position → Type 0)
      → (w : LeadsAlong S Set p i n t) → T w.to → Other w.after → LeadsAlong T Other p i n t
  led_to T Other w to after = record {
    him = w.him;
    from = w.from;
    to = w.to;
    after = w.after;
    is_man = w.is_man;
    stands = w.stands;
    on = w.on;
    is_target = to;
    legal = w.legal;
    is_in = after;
  }

  -- a move of the man so far along his ray is a choice
  abbrev pub choice_at : {T : Square → Type 0} {t : ℕ} → LeadsAlong T Set p i n t → Choice
  choice_at {T} {t} w = record { mv = record { man = i; x = w.to.x; y = w.to.y }; ray = n; distance = t }

  module _ {f : Frame} where
    -- a choice goes as far as it says
    abbrev pub along_of : (T : Square → Type 0) {d : Choice} {q : Position} → d.mv.man ≡ i → d.ray ≡ n → T (target d.mv)
        → Leads Set f p d q → LeadsAlong T Set p i n d.distance
    along_of T {d} {q} man ray to h = record {
      him = h.man;
      from = h.from;
      to = target d.mv;
      after = q;
      is_man = ap (man_at p) (sym man) ∙ h.is_man;
      stands = h.stands;
      on = subst (λ k. IsOnRay h.man h.from (target d.mv) k d.distance) ray h.on;
      is_target = to;
      legal = subst (λ k. Legal p k (target d.mv) q) man h.legal;
      is_in = h.is_in;
    }

    -- and a move of the man leads where its choice does
    abbrev pub leads_of : {T : Square → Type 0} {t : ℕ} (w : LeadsAlong T Set p i n t) → IsInside f w.to
        → Leads Set f p (choice_at w) w.after
    leads_of w inside = record {
      man = w.him;
      from = w.from;
      is_man = w.is_man;
      stands = w.stands;
      on = w.on;
      inside = inside;
      legal = w.legal;
      is_in = w.is_in;
    }

    -- the first choice along the ray goes the least distance
    pub none_least : FirstOf (IsAlongRay i n) Set f p None → (t : ℕ) → LeadsInside f Set p i n t → ⊥
    none_least none t w = none (choice_at w) w.after (refl, refl) (leads_of w w.is_target)

    pub some_least : {c : Choice} → FirstOf (IsAlongRay i n) Set f p (Some c) → IsLeastOf (LeadsInside f Set p i n) c.distance
    some_least {c} h = record {
      has = along_of (IsInside f) h.has.0 h.has.1 h.leads.inside h.leads;
      least = λ t w. elim (cases_lt t c.distance) [
        | inl less ↦ absurd (h.first (choice_at w) w.after (refl, refl) (leads_of w w.is_target) (inr (sym h.has.0, inr (sym h.has.1, less))))
        | inr more ↦ more
      ];
    }
