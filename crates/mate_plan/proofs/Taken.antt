-- One more of the items that a loop goes over.
use Rattle.std.proofs.Common.{◌≡◌, ℕ, ◌+◌, ◌<◌, Bool, true, false, List, [], ◌∷◌, ◌++◌, append_assoc, append-nil, length, map, take, get_or, refl, sym, ap, ◌∙◌}
use Rattle.std.specs.Prelude.{filter, if◌then◌else◌}
use Rattle.std.specs.List.{flat_map}
use Rattle.std.proofs.lemmas.List.{take_more, map-append}
use Rattle.std.proofs.lemmas.List.Concat.{flat_map-append}
use Rattle.std.proofs.lemmas.List.Elements.{filter-append}

-- what they are mapped to
pub mapped-more : {F X Y : Type 0} (tree : F → Y) (f : X → Y) (xs : List X) (i : ℕ) (d : X) (old new : List F) (made : F) → i < length xs → new ≡ old ++ made ∷ []
    → map tree old ≡ map f (take i xs) → tree made ≡ f (get_or xs i d) → map tree new ≡ map f (take (i + 1) xs)
mapped-more tree f xs i d old new made below grown so_far is =
    ap (map tree) grown ∙ map-append tree old (made ∷ []) ∙ ap (λ l. l ++ tree made ∷ []) so_far ∙ ap (λ y. map f (take i xs) ++ y ∷ []) is
    ∙ sym (ap (map f) (take_more xs i d below) ∙ map-append f (take i xs) (get_or xs i d ∷ []))

module _ {X Y : Type 0} (f : X → Y) (p : X → Bool) where
  chosen_one : (b : Bool) (x : X) → p x ≡ b → map f (filter p (x ∷ [])) ≡ (if p x then f x ∷ [] else [])
  chosen_one true x is = rw is refl
  chosen_one false x is = rw is refl

  -- what is chosen of them is mapped
  pub chosen-more : (xs : List X) (i : ℕ) (d : X) → i < length xs
      → map f (filter p (take (i + 1) xs)) ≡ map f (filter p (take i xs)) ++ (if p (get_or xs i d) then f (get_or xs i d) ∷ [] else [])
  chosen-more xs i d below =
      ap (λ l. map f (filter p l)) (take_more xs i d below) ∙ ap (map f) (filter-append p (take i xs) (get_or xs i d ∷ []))
      ∙ map-append f (filter p (take i xs)) (filter p (get_or xs i d ∷ []))
      ∙ ap (λ l. map f (filter p (take i xs)) ++ l) (chosen_one (p (get_or xs i d)) (get_or xs i d) refl)

-- a list grows as it is to
pub grown-more : {Y : Type 0} (old new first taken more added : List Y) → new ≡ old ++ added → old ≡ first ++ taken → more ≡ taken ++ added → new ≡ first ++ more
grown-more old new first taken more added grown so_far next =
    grown ∙ ap (λ l. l ++ added) so_far ∙ append_assoc first taken added ∙ ap (λ l. first ++ l) (sym next)

-- what they give, one behind another, with what is looked up for each
pub flat-more : {X S Y : Type 0} (give : X → S → List Y) (look : X → S) (xs : List X) (i : ℕ) (d : X) (found : S) (old new : List Y) → i < length xs
    → new ≡ old ++ give (get_or xs i d) found → old ≡ flat_map (λ x. give x (look x)) (take i xs) → found ≡ look (get_or xs i d)
    → new ≡ flat_map (λ x. give x (look x)) (take (i + 1) xs)
flat-more {X = X} give look xs i d found old new below grown so_far is =
    let h = λ (x : X). give x (look x) in
    let x = get_or xs i d in
    grown ∙ ap (λ l. l ++ give x found) so_far ∙ ap (λ f. flat_map h (take i xs) ++ give x f) is ∙ ap (λ l. flat_map h (take i xs) ++ l) (sym (append-nil (h x)))
    ∙ sym (ap (flat_map h) (take_more xs i d below) ∙ flat_map-append h (take i xs) (x ∷ []))
