-- The variables of a shift are those of the live men.
use Rattle.std.proofs.Common.{◌≡◌, ◌≢◌, ℕ, ◌*◌, ◌<◌, ◌≤◌, ℤ, Bool, true, false, List, [], ◌∷◌, map, ◌==◌, if◌then◌else◌, inl, inr, refl, sym, ap, ◌∙◌, subst, arith}
use Rattle.std.proofs.lemmas.Bool.{eqb-true}
use Rattle.std.proofs.lemmas.Bool.Decides.{eqb_tells}
use Rattle.track_word.specs.declared.tracks.Var.{Var}
use Rattle.lin_formula.specs.Tree.{free_vars}
use Rattle.lin_formula.specs.Free.{IsOneOf}
use Rattle.lin_formula.proofs.FreeVars.{same-var}
use Rattle.rule_formula.specs.Seats.{elsewhere, own, vars_to}
use Rattle.rule_formula.proofs.TracksTheorem.{Rises, own_low, seated, seated_in, spans_own, spans_rise, tracks_are}
use Rattle.table_plan.specs.Table.{in_place, shift_tree}

-- a variable of the live men is not the spare one
pub not_spare : (live : ℕ → Bool) (n : ℕ) (z : Var) → n ≤ 8 → IsOneOf z (vars_to own live n) → z.0 ≢ elsewhere.x.0
not_spare live n z few h same =
    let below : z.0 < 16 = own_low few (seated own live n z h) in omega (arith, below, same)

-- a variable that takes part in a list with one put in the place of another
placed_back : (x u z : Var) (ys : List Var) → z ≢ u → IsOneOf z (map (in_place x u) ys) → IsOneOf z ys
placed_back x u z [] ne h = h
placed_back x u z (y ∷ ys) ne (inl e) = by (y.0 == x.0) refl e
  where
    by : (b : Bool) → y.0 == x.0 ≡ b → z ≡ (if b then u else y) → IsOneOf z (y ∷ ys)
    by true t is = absurd (ne is)
    by false t is = inl is
placed_back x u z (y ∷ ys) ne (inr h) = inr (placed_back x u z ys ne h)

placed_there : (x u z : Var) (ys : List Var) → z.0 ≢ x.0 → IsOneOf z ys → IsOneOf z (map (in_place x u) ys)
placed_there x u z [] ne h = h
placed_there x u z (y ∷ ys) ne (inl e) = inl (by (y.0 == x.0) refl)
  where
    by : (b : Bool) → y.0 == x.0 ≡ b → z ≡ (if b then u else y)
    by true t = absurd (ne (ap (λ (v : Var). v.0) e ∙ eqb-true y.0 x.0 t))
    by false t = e
placed_there x u z (y ∷ ys) ne (inr h) = inr (placed_there x u z ys ne h)

pub shift_tracks : (live : ℕ → Bool) (n : ℕ) (x : Var) (d : ℤ) → n ≤ 8 → IsOneOf x (vars_to own live n) → free_vars (shift_tree (vars_to own live n) x d) ≡ vars_to own live n
shift_tracks live n x d few is =
    tracks_are live n (shift_tree (vars_to own live n) x d)
    (λ z h. elim h.1 [
      | inl a ↦ seated own live n z (placed_back x elsewhere.x z (vars_to own live n) h.0 a)
      | inr (inl e) ↦ seated own live n z (subst (λ y. IsOneOf y (vars_to own live n)) (sym e) is)
      | inr (inr (inl e)) ↦ absurd (h.0 e)
      | inr (inr (inr none)) ↦ absurd none
    ])
    (λ z w. (
      λ e. not_spare live n z few (seated_in w) (ap (λ (v : Var). v.0) e),
      elim (eqb_tells z.0 x.0) [
        | inl e ↦ inr (inl (same-var z x e.1))
        | inr ne ↦ inl (placed_there x elsewhere.x z (vars_to own live n) ne.1 (seated_in w))
      ],
    ))

-- the variables of the live men ascend
pub own_rise : (live : ℕ → Bool) (n : ℕ) → Rises 0 (vars_to own live n)
own_rise live n = spans_rise 0 (2 * n) (vars_to own live n) (spans_own live n)
