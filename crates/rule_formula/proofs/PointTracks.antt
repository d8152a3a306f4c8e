-- The free variables of the formula of a position are those of its live men.
use Rattle.std.proofs.Common.{◌≡◌, ◌≢◌, ◌⊎◌, ◌↔◌, ℕ, zero, suc, ◌<◌, ◌≤◌, Bool, true, List, length, Option, Some, None, inl, inr, refl, subst, sym, ap, ◌∙◌, arith}
use Rattle.game_rules.specs.declared.men.Man.{Man}
use Rattle.game_rules.specs.declared.men.Place.{Place}
use Rattle.game_rules.specs.declared.men.Place.TheVariants.{Gone, At}
use Rattle.game_rules.specs.declared.men.Square.{Square}
use Rattle.game_rules.specs.Game.{Position, StandsOn, place_square}
use Rattle.game_laws.proofs.StockLemmas.{stock_has, stock_man-men}
use Rattle.track_word.specs.declared.tracks.Var.{Var}
use Rattle.lin_formula.specs.Tree.{Tree, free_vars}
use Rattle.lin_formula.specs.Free.{IsFree}
use Rattle.rule_formula.specs.declared.seats.Seat.{Seat}
use Rattle.mask_sets.specs.Stock.{mask_of}
use Rattle.game_laws.specs.Stock.{stock_man}
use Rattle.rule_formula.specs.Placed.{is_live}
use Rattle.rule_formula.specs.Seats.{own}
use Rattle.rule_formula.specs.Trees.{man_square, point_of, point_to, tracks_of, with_square}
use Rattle.rule_formula.proofs.GameTheorem.{live_by_mask, live_in_mask}
use Rattle.rule_formula.proofs.MoveLemmas.{same_number}
use Rattle.rule_formula.proofs.PointTheorem.{from_square}
use Rattle.rule_formula.proofs.TracksTheorem.{IsOf, IsSeated, tracks_are}

abbrev MaybeFree : Option Tree → Var → Type 0
MaybeFree None z = ⊥
MaybeFree (Some f) z = IsFree z f

abbrev HasSquare : Option Square → Type 0
HasSquare o = (y : Square) × (o ≡ Some y)

with_square_free : (o : Option Tree) (s : Seat) (x : Option Square) (z : Var) → MaybeFree (with_square o s x) z ↔ (MaybeFree o z ⊎ (HasSquare x × IsOf s z))
with_square_free o s None z = (λ h. inl h, λ h. elim h [ inl a ↦ a | inr b ↦ absurd (let none : None ≡ Some b.0.0 = b.0.1 in cc) ])
with_square_free None s (Some y) z = (
  λ h. elim h [ inl a ↦ inr ((y, refl), inl a) | inr b ↦ inr ((y, refl), inr b) ],
  λ h. elim h [ inl a ↦ absurd a | inr b ↦ b.1 ],
)
with_square_free (Some f) s (Some y) z = (
  λ h. elim h [ inl (inl a) ↦ inl a | inl (inr b) ↦ inr ((y, refl), inl b) | inr c ↦ inr ((y, refl), inr c) ],
  λ h. elim h [ inl a ↦ inl (inl a) | inr b ↦ elim b.1 [ inl c ↦ inl (inr c) | inr d ↦ inr d ] ],
)

point_free : (men : List Man) (live : ℕ → Bool) → ((k : ℕ) → 0 < k → k ≤ length men → HasSquare (man_square (stock_man men k)) ↔ (live k ≡ true))
    → (n : ℕ) → n ≤ length men → (z : Var) → MaybeFree (point_to men n) z ↔ IsSeated own live n z
point_free men live tells zero high z = (λ h. absurd h, λ h. absurd (omega (arith, h.low, h.high)))
point_free men live tells (suc n) high z =
    let step = with_square_free (point_to men n) (own (suc n)) (man_square (stock_man men (suc n))) z in
    let before = point_free men live tells n (omega (arith, high)) z in
    let here = tells (suc n) (omega arith) high in (
      λ h.
          elim (step.0 h) [
            | inl a ↦ let w = before.0 a in record { number = w.number; low = w.low; high = omega (arith, w.high); on = w.on; is = w.is }
            | inr b ↦ record { number = suc n; low = omega arith; high = omega arith; on = here.0 b.0; is = b.1 }
          ],
      λ h.
          elim (same_number h.number (suc n)) [
            | inl e ↦ step.1 (inr (here.1 (subst (λ j. live j ≡ true) e h.on), subst (λ j. IsOf (own j) z) e h.is))
            | inr ne ↦ step.1 (inl (before.1 (record { number = h.number; low = h.low; high = omega (arith, h.high, ne); on = h.on; is = h.is })))
          ],
    )

square_there : (x : Place) → x ≢ Gone → (z : Square) × (place_square x ≡ Some z)
square_there Gone there = absurd (there refl)
square_there (At x y) there = (record { x = x; y = y }, refl)

-- who is live has a square
pub place_there : (m : Man) → m.place ≢ Gone → (z : Square) × StandsOn m z
place_there m there = square_there m.place there

no_square : (x : Place) (z : Square) → place_square x ≡ Some z → x ≢ Gone
no_square Gone z e = absurd (cc)
no_square (At x y) z e = λ gone. cc

point_tells : (p : Position) (k : ℕ) → 0 < k → k ≤ length p.men → HasSquare (man_square (stock_man p.men k)) ↔ (is_live (mask_of p) k ≡ true)
point_tells p k low high = (
  λ (z, e).
      let (m, is, stands) = from_square (stock_man p.men k) z e in
      live_in_mask p k m (sym (stock_man-men p k) ∙ is) (no_square m.place z stands),
  λ on.
      let (m, is) = stock_has p.men k low high in
      let (z, stands) = place_there m (live_by_mask p k m (sym (stock_man-men p k) ∙ is) on) in
      (z, ap man_square is ∙ stands),
)

pub point_tracks : (p : Position) (t : Tree) → point_of p.men ≡ Some t → free_vars t ≡ tracks_of p.men (is_live (mask_of p))
point_tracks p t is =
    let free = λ (z : Var). point_free p.men (is_live (mask_of p)) (point_tells p) (length p.men) (omega arith) z in
    tracks_are (is_live (mask_of p)) (length p.men) t
    (λ z h. (free z).0 (subst (λ o. MaybeFree o z) (sym is) h))
    (λ z w. subst (λ o. MaybeFree o z) is ((free z).1 w))
