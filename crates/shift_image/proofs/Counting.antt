-- Among many words of few colours many have one colour.
use Rattle.std.proofs.Common.{◌≡◌, ◌≢◌, ℕ, zero, suc, ◌+◌, ◌*◌, ◌<◌, ◌≤◌, Bool, true, false, not, nat_eq, if◌then◌else◌}
use Rattle.std.proofs.Common.{List, [], ◌∷◌, length, map, All, AllPairs, get_or, filter, take}
use Rattle.std.proofs.Common.{arith, refl, sym, ap, ◌∙◌, subst, inl, inr}
use Rattle.std.proofs.lemmas.Grind.{common_steps}
use Rattle.std.proofs.lemmas.Bool.{cases_lt}
use Rattle.std.proofs.lemmas.List.{length-map, get_or-map}
use Rattle.std.proofs.lemmas.List.Elements.{All-filter, All-map, All-head, filter_passes}
use Rattle.std.proofs.lemmas.List.Kept.{AllPairs-filter}
use Rattle.std.proofs.lemmas.List.Filters.{length-filter_both}
use Rattle.track_word.specs.Word.{IsWord}
use Rattle.auto_core.specs.Spread.{HasMoreClasses}
use Rattle.shift_image.specs.Colours.{IsColoured, ColoursBound}

length-take : {X : Type 0} (n : ℕ) (xs : List X) → n ≤ length xs → length (take n xs) ≡ n
length-take n xs h = grind (arith, common_steps)

get-take : {X : Type 0} (xs : List X) (n i : ℕ) (d : X) → i < n → n ≤ length xs → get_or (take n xs) i d ≡ get_or xs i d
get-take xs n i d h l = grind (arith, common_steps)

nat_eq-true : (x y : ℕ) → nat_eq x y ≡ true → x ≡ y
nat_eq-true x y e = grind (arith, common_steps, e)

nat_eq-same : (x y : ℕ) → x ≡ y → nat_eq x y ≡ true
nat_eq-same x y e = grind (arith, common_steps, e)

not_true : (b : Bool) → not b ≡ true → b ≡ true → ⊥
not_true true h e = cc
not_true false h e = cc

-- a filter of a filter leaves no more than the filter
filter-filter : (p q : List ℕ → Bool) (xs : List (List ℕ)) → length (filter p (filter q xs)) ≤ length (filter p xs)
filter-filter p q [] = omega arith
filter-filter p q (x ∷ xs) = go (q x) (filter-filter p q xs)
  where
    kept : (b : Bool) → length (filter p (filter q xs)) ≤ length (filter p xs)
        → length (if b then x ∷ filter p (filter q xs) else filter p (filter q xs))
        ≤ length (if b then x ∷ filter p xs else filter p xs)
    kept true less = omega (arith, less)
    kept false less = less

    lost : (b : Bool) → length (filter p (filter q xs)) ≤ length (filter p xs)
        → length (filter p (filter q xs)) ≤ length (if b then x ∷ filter p xs else filter p xs)
    lost true less = omega (arith, less)
    lost false less = less

    go : (c : Bool) → length (filter p (filter q xs)) ≤ length (filter p xs)
        → length (filter p (if c then x ∷ filter q xs else filter q xs)) ≤ length (filter p (x ∷ xs))
    go true less = kept (p x) less
    go false less = lost (p x) less

module _ (colour : List ℕ → ℕ) where
  abbrev has : ℕ → List ℕ → Bool
  has c w = nat_eq (colour w) c

  abbrev lacks : ℕ → List ℕ → Bool
  lacks c w = not (nat_eq (colour w) c)

  -- the words of a colour
  abbrev pub coloured : ℕ → List (List ℕ) → List (List ℕ)
  coloured c xs = filter (has c) xs

  -- one colour has more words than a number, where there are more than this number for each colour
  pub crowded : (colours each : ℕ) (xs : List (List ℕ)) → colours * each < length xs → All (λ w. colour w < colours) xs
      → (c : ℕ) × (each < length (coloured c xs))
  crowded zero each xs more below = absurd (nothing xs more below)
    where
      nothing : (xs : List (List ℕ)) → 0 * each < length xs → All (λ w. colour w < 0) xs → ⊥
      nothing [] more below = omega (arith, more)
      nothing (x ∷ xs) more below = let h = All-head (λ w. colour w < 0) x xs below in omega (arith, h)
  crowded (suc colours) each xs more below =
      elim (cases_lt each (length (coloured colours xs))) [
        | inl found ↦ (colours, found)
        | inr few ↦
            let both = length-filter_both (has colours) (lacks colours) (λ _. refl) xs in
            let product : suc colours * each ≡ colours * each + each = grind arith in
            let left : colours * each < length (filter (lacks colours) xs) = omega (arith, both, product, few, more) in
            let passes = filter_passes (lacks colours) xs in
            let kept = All-filter (lacks colours) (λ w. colour w < suc colours) xs below in
            let fewer : All (λ w. colour w < colours) (filter (lacks colours) xs) = λ i d h.
            let b = kept i d h in
            let p = passes i d h in
            let other : colour (get_or (filter (lacks colours) xs) i d) ≢ colours =
            λ e. not_true _ p (nat_eq-same _ _ e) in
            omega (arith, b, other) in
            let rest = crowded colours each (filter (lacks colours) xs) left fewer in
            let less = filter-filter (has rest.0) (lacks colours) xs in
            let enough = rest.1 in
            (rest.0, omega (arith, less, enough))
      ]

module _ (tracks few : ℕ) (Alike PartsAlike : List ℕ → List ℕ → Type 0) (part : List ℕ → List ℕ) (colours : ℕ)
    (colour : List ℕ → ℕ) (is : IsColoured tracks few Alike PartsAlike part colours colour) where
  -- the parts of so many of some words of one colour
  module _ (each : ℕ) (xs : List (List ℕ)) (c : ℕ) (more : each < length xs)
      (same : All (λ w. has colour c w ≡ true) xs) (words : All (IsWord tracks) xs)
      (apart : AllPairs (λ v w. Alike v w → ⊥) xs) where
    abbrev some : List (List ℕ)
    some = take (each + 1) xs

    enough : each + 1 ≤ length xs
    enough = omega (arith, more)

    count : length some ≡ each + 1
    count = length-take (each + 1) xs enough

    at : (i : ℕ) (d : List ℕ) → i < each + 1 → get_or some i d ≡ get_or xs i d
    at i d h = get-take xs (each + 1) i d h enough

    at-part : (i : ℕ) (d : List ℕ) → i < each + 1 → get_or (map part some) i d ≡ part (get_or xs i [])
    at-part i d h = get_or-map part some i [] d (omega (arith, h, count)) ∙ ap part (at i [] h)

    more-parts : HasMoreClasses few PartsAlike each
    more-parts =
        let size = length-map some part in
        record {
          words = map part some;
          count = size ∙ count;
          are_words = All-map (IsWord few) part some (λ i d h.
              let inside : i < each + 1 = omega (arith, h, count) in
              let word = words i d (omega (arith, inside, enough)) in
              subst (λ w. IsWord few (part w)) (sym (at i d inside)) (is.parts (get_or xs i d) word));
          apart = λ i j d less within alike.
              let inside : j < each + 1 = omega (arith, within, size, count) in
              let first : i < each + 1 = omega (arith, less, inside) in
              let j_in : j < length xs = omega (arith, inside, enough) in
              let i_in : i < length xs = omega (arith, first, enough) in
              let colours_same = nat_eq-true _ _ (same i [] i_in) ∙ sym (nat_eq-true _ _ (same j [] j_in)) in
              let parts : PartsAlike (part (get_or xs i [])) (part (get_or xs j [])) =
              subst (λ w. PartsAlike (part (get_or xs i [])) w) (at-part j d inside)
              (subst (λ w. PartsAlike w (get_or (map part some) j d)) (at-part i d first) alike) in
              apart i j [] less j_in (is.alike _ _ (words i [] i_in) (words j [] j_in) colours_same parts);
        }

  pub coloured-bound : ColoursBound tracks few Alike PartsAlike colours
  coloured-bound budget each enough more =
      let count = more.count in
      let below : All (λ w. colour w < colours) more.words =
      λ i d h. is.below (get_or more.words i d) (more.are_words i d h) in
      let found = crowded colour colours each more.words (omega (arith, count, enough)) below in
      let same = filter_passes (has colour found.0) more.words in
      let words = All-filter (has colour found.0) (IsWord tracks) more.words more.are_words in
      let apart = AllPairs-filter (λ v w. Alike v w → ⊥) (has colour found.0) more.words more.apart in
      more-parts each (coloured colour found.0 more.words) found.0 found.1 same words apart
