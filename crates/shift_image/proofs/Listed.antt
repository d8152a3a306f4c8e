-- Whether a variable is one of a list.
use Rattle.std.proofs.Common.{◌≡◌, Bool, true, false, nat_eq, ◌||◌, List, [], ◌∷◌, All, refl, sym, ap, subst, inl, inr, arith}
use Rattle.std.specs.List.{list_any}
use Rattle.std.proofs.lemmas.Bool.{or_cases, eqb-true, eq-eqb}
use Rattle.std.proofs.lemmas.List.Elements.{All-tail}
use Rattle.track_word.specs.declared.tracks.Var.{Var}
use Rattle.lin_formula.specs.Free.{IsOneOf}
use Rattle.auto_core.proofs.Orders.{same-var}

pub one_of-any : (x : Var) (ys : List Var) → list_any (λ y. nat_eq y.0 x.0) ys ≡ true → IsOneOf x ys
one_of-any x [] e = cc
one_of-any x (y ∷ ys) e = elim (or_cases (nat_eq y.0 x.0) (list_any (λ y. nat_eq y.0 x.0) ys) e) [
  | inl here ↦ inl (sym (same-var y x (eqb-true y.0 x.0 here)))
  | inr there ↦ inr (one_of-any x ys there)
]

pub any-one_of : (x : Var) (ys : List Var) → IsOneOf x ys → list_any (λ y. nat_eq y.0 x.0) ys ≡ true
any-one_of x [] h = absurd h
any-one_of x (y ∷ ys) (inl is) = rw (eq-eqb y.0 x.0 (ap (λ (v : Var). v.0) (sym is)))
any-one_of x (y ∷ ys) (inr there) = rw (any-one_of x ys there) (or-true (nat_eq y.0 x.0))
  where
    or-true : (b : Bool) → (b || true) ≡ true
    or-true true = refl
    or-true false = refl

pub at_one_of : (P : Var → Type 0) (ys : List Var) (x : Var) → All P ys → IsOneOf x ys → P x
at_one_of P [] x all h = absurd h
at_one_of P (y ∷ ys) x all (inl is) = subst P (sym is) (all 0 y (omega arith))
at_one_of P (y ∷ ys) x all (inr there) = at_one_of P ys x (All-tail P y ys all) there
