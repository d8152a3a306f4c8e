-- Lists of variables that ascend and have the same variables are equal.
use Rattle.std.proofs.Common.{◌≡◌, ◌⊎◌, suc, ◌<◌, List, [], ◌∷◌, map, AllPairs, arith, refl, sym, ap, ◌∙◌, inl, inr}
use Rattle.std.proofs.lemmas.List.Kept.{AllPairs-from_increasing}
use Rattle.track_word.specs.declared.tracks.Var.{Var}
use Rattle.track_word.specs.Tracks.{IsAscending}
use Rattle.lin_formula.specs.Free.{IsOneOf}
use Rattle.formula_auto.proofs.Values.{Same, Other, cases_of}
use Rattle.formula_auto.proofs.Projections.{above}

pub one_of-cases : (x : Var) (xs : List Var) → IsOneOf x xs ⊎ (¬ IsOneOf x xs)
one_of-cases x [] = inr (λ h. h)
one_of-cases x (y ∷ ys) = elim (cases_of x y) [
  | Same is ↦ inl (inl is)
  | Other other ↦ elim (one_of-cases x ys) [
    | inl there ↦ inl (inr there)
    | inr none ↦ inr (λ h. elim h [ inl is ↦ other is | inr there ↦ none there ])
  ]
]

-- each variable is below all that come after it
Rises : List Var → Type 0
Rises [] = Unit {0}
Rises (x ∷ xs) = ((y : Var) → IsOneOf y xs → x.0 < y.0) × Rises xs

rises-pairs : (xs : List Var) → AllPairs (λ a b. a < b) (map (λ v. v.0) xs) → Rises xs
unfolding Rises
rises-pairs [] h = tt
rises-pairs (x ∷ xs) h = (
  above x.0 xs (λ j within. h 0 (suc j) 0 (omega arith) (omega arith)),
  rises-pairs xs (λ i j d less within. h (suc i) (suc j) d (omega arith) (omega arith)),
)

apart : (x y : Var) → x ≡ y → x.0 < y.0 → ⊥
apart x y is less = let same : x.0 ≡ y.0 = ap (λ (v : Var). v.0) is in omega (arith, same, less)

same-rising : (xs ys : List Var) → Rises xs → Rises ys → ((x : Var) → IsOneOf x xs → IsOneOf x ys)
    → ((x : Var) → IsOneOf x ys → IsOneOf x xs) → xs ≡ ys
unfolding Rises
same-rising [] [] xs_rise ys_rise forth back = refl
same-rising [] (y ∷ ys) xs_rise ys_rise forth back = absurd (back y (inl refl))
same-rising (x ∷ xs) [] xs_rise ys_rise forth back = absurd (forth x (inl refl))
same-rising (x ∷ xs) (y ∷ ys) xs_rise ys_rise forth back =
    let first : x ≡ y = elim (forth x (inl refl)) [
      | inl is ↦ is
      | inr later ↦ elim (back y (inl refl)) [
        | inl is ↦ sym is
        | inr after ↦ let down = ys_rise.0 x later in let up = xs_rise.0 y after in absurd (omega (arith, down, up))
      ]
    ] in
    let rest = same-rising xs ys xs_rise.1 ys_rise.1
    (λ z h. elim (forth z (inr h)) [ inl is ↦ absurd (apart x z (first ∙ sym is) (xs_rise.0 z h)) | inr k ↦ k ])
    (λ z h. elim (back z (inr h)) [ inl is ↦ absurd (apart y z (sym first ∙ sym is) (ys_rise.0 z h)) | inr k ↦ k ]) in
    λ i. first i ∷ rest i

pub same-ascending : (xs ys : List Var) → IsAscending xs → IsAscending ys → ((x : Var) → IsOneOf x xs → IsOneOf x ys)
    → ((x : Var) → IsOneOf x ys → IsOneOf x xs) → xs ≡ ys
same-ascending xs ys up other forth back =
    same-rising xs ys (rises-pairs xs (AllPairs-from_increasing (map (λ v. v.0) xs) up))
    (rises-pairs ys (AllPairs-from_increasing (map (λ v. v.0) ys) other)) forth back
