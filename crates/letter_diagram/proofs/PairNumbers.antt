-- Facts on lists of pairs of numbers.
use Rattle.std.proofs.Common.{◌≡◌, ◌≢◌, ℕ, Bool, true, false, List, nat_eq, Some, AllPairs, arith, refl, sym, ap, ◌∙◌, subst, [], ◌∷◌, ◌++◌, if◌then◌else◌}
use Rattle.std.specs.Prelude.{◌&&◌}
use Rattle.std.specs.Bool.{Decides}
use Rattle.std.specs.List.{list_any, IsDistinct}
use Rattle.std.proofs.lemmas.Grind.{common_steps}
use Rattle.std.proofs.lemmas.List.{length-append, get_or_append_left}
use Rattle.std.proofs.lemmas.Map.Made.{AllPairs-from_IsDistinct}
use Rattle.std.proofs.lemmas.Option.{slice_get-get_or, slice_get_within, get_or_from_slice_get}
use Rattle.letter_diagram.specs.Numbering.{PairsKept}

-- whether two pairs are equal
abbrev pub pair_eq : ℕ × ℕ → ℕ × ℕ → Bool
pair_eq p q = nat_eq p.0 q.0 && nat_eq p.1 q.1

pub pair_eq-true : (p q : ℕ × ℕ) → pair_eq p q ≡ true → p ≡ q
pair_eq-true (a, b) (c, d) h = grind (arith, common_steps)

pub pair_eq-refl : (p : ℕ × ℕ) → pair_eq p p ≡ true
pair_eq-refl (a, b) = grind (arith, common_steps)

pub pair_eq-Decides : (p q : ℕ × ℕ) → Decides (pair_eq p q) (p ≡ q)
pair_eq-Decides p q = (pair_eq-true p q, λ e. ap (pair_eq p) (sym e) ∙ pair_eq-refl p)

pub AllPairs-from_unique : (pairs : List (ℕ × ℕ)) → IsDistinct pair_eq pairs → AllPairs (λ p q. p ≢ q) pairs
AllPairs-from_unique = AllPairs-from_IsDistinct pair_eq-Decides

PairsKept-append : (xs ys : List (ℕ × ℕ)) → PairsKept xs (xs ++ ys)
PairsKept-append xs ys = record {
  longer = let l = length-append xs ys in omega (arith, l);
  at = λ n p h.
      let within = slice_get_within xs n p h in
      let l = length-append xs ys in
      slice_get-get_or (xs ++ ys) n p (omega (arith, l, within)) ∙ ap Some (get_or_append_left xs ys p n within ∙ get_or_from_slice_get xs n p p h);
}

pub PairsKept-refl : (xs : List (ℕ × ℕ)) → PairsKept xs xs
PairsKept-refl xs = record { longer = omega arith; at = λ n p h. h }

pub PairsKept-trans : {xs ys zs : List (ℕ × ℕ)} → PairsKept xs ys → PairsKept ys zs → PairsKept xs zs
PairsKept-trans f g = record { longer = let a = f.longer in let b = g.longer in omega arith; at = λ n p h. g.at n p (f.at n p h) }

pub PairsKept-insert : (old new : List (ℕ × ℕ)) (p : ℕ × ℕ) → new ≡ (if list_any (pair_eq p) old then old else old ++ p ∷ []) → PairsKept old new
PairsKept-insert old new p h = by (list_any (pair_eq p) old) refl
  where
    by : (b : Bool) → list_any (pair_eq p) old ≡ b → PairsKept old new
    by true there = subst (PairsKept old) (sym (h ∙ ap (λ c. if c then old else old ++ p ∷ []) there)) (PairsKept-refl old)
    by false none = subst (PairsKept old) (sym (h ∙ ap (λ c. if c then old else old ++ p ∷ []) none)) (PairsKept-append old (p ∷ []))
