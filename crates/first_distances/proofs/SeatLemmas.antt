-- Which variables are the live men's own.
use Rattle.std.proofs.Common.{◌≡◌, ◌⊎◌, ℕ, zero, suc, Bool, true, false, List, [], ◌∷◌, ◌++◌, inl, inr, refl, arith}
use Rattle.std.specs.Prelude.{if◌then◌else◌}
use Rattle.track_word.specs.declared.tracks.Var.{Var}
use Rattle.lin_formula.specs.Free.{IsOneOf}
use Rattle.rule_formula.specs.Seats.{own, vars_to}
use Rattle.rule_formula.proofs.TracksTheorem.{IsSeated}

one_or_last : (z x y : Var) (xs : List Var) → IsOneOf z (xs ++ x ∷ y ∷ []) → IsOneOf z xs ⊎ ((z ≡ x) ⊎ (z ≡ y))
one_or_last z x y [] (inl e) = inr (inl e)
one_or_last z x y [] (inr (inl e)) = inr (inr e)
one_or_last z x y [] (inr (inr none)) = absurd none
one_or_last z x y (w ∷ ws) (inl e) = inl (inl e)
one_or_last z x y (w ∷ ws) (inr k) = elim (one_or_last z x y ws k) [ inl l ↦ inl (inr l) | inr l ↦ inr l ]

one_if : (b : Bool) (z x y : Var) (xs : List Var) → IsOneOf z (if b then xs ++ x ∷ y ∷ [] else xs) → IsOneOf z xs ⊎ ((b ≡ true) × ((z ≡ x) ⊎ (z ≡ y)))
one_if true z x y xs h = elim (one_or_last z x y xs h) [ inl k ↦ inl k | inr k ↦ inr (refl, k) ]
one_if false z x y xs h = inl h

pub seated_own : (live : ℕ → Bool) (n : ℕ) (z : Var) → IsOneOf z (vars_to own live n) → IsSeated own live n z
seated_own live zero z h = absurd h
seated_own live (suc n) z h =
    elim (one_if (live (suc n)) z (own (suc n)).x (own (suc n)).y (vars_to own live n) h) [
      | inl k ↦
          let before = seated_own live n z k in
          let high = before.high in
          record { number = before.number; low = before.low; high = omega (arith, high); on = before.on; is = before.is }
      | inr k ↦ record { number = suc n; low = omega arith; high = omega arith; on = k.0; is = k.1 }
    ]
