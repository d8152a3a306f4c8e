-- What a shape that is added keeps.
use Rattle.std.proofs.Common.{◌≡◌, ℕ, ◌<◌, ◌≤◌, List, [], ◌∷◌, ◌++◌, length, slice_get, Some, arith, refl, sym, ◌∙◌, subst, inl, inr, ◌⊎◌, Contains, zero, suc}
use Rattle.std.proofs.lemmas.Grind.{common_steps}
use Rattle.std.proofs.lemmas.Option.{get_or_from_slice_get, slice_get_within}
use Rattle.letter_diagram.specs.declared.diagrams.Shape.{Shape}
use Rattle.letter_diagram.specs.declared.diagrams.Shape.TheVariants.{Leaf, Test}
use Rattle.letter_diagram.specs.Diagram.{IsDiagram, FitsBelow, IsAt, Grows}
use Rattle.letter_diagram.proofs.Maps.{Grows-append, Grows-refl, IsAt-get, top_track-append}
use Rattle.letter_diagram.specs.ShapeTable.{AddsShape}

-- a shape that fits still fits when more nodes are known
pub FitsBelow-append : (xs ys : List Shape) (bound : ℕ) (shape : Shape) → bound ≤ length xs → FitsBelow xs bound shape → FitsBelow (xs ++ ys) bound shape
FitsBelow-append xs ys bound (Leaf value) h fits = tt
FitsBelow-append xs ys bound (Test track low high) h fits =
    let low_top = top_track-append xs ys low (let b = fits.low_before in omega arith) in
    let high_top = top_track-append xs ys high (let b = fits.high_before in omega arith) in
    record {
      track_low = fits.track_low;
      low_before = fits.low_before;
      high_before = fits.high_before;
      low_above = rw low_top fits.low_above;
      high_above = rw high_top fits.high_above;
      differ = fits.differ;
    }

-- a place in a list with one more is an old one or the last
pub get-push : {Item : Type 0} (xs : List Item) (y : Item) (i : ℕ) (item : Item) → slice_get (xs ++ y ∷ []) i ≡ Some item
    → ((i < length xs) × (slice_get xs i ≡ Some item)) ⊎ ((i ≡ length xs) × (y ≡ item))
get-push [] y zero item h = inr (refl, grind (arith, common_steps, h))
get-push [] y (suc i) item h = cc
get-push (x ∷ xs) y zero item h = inl (omega arith, h)
get-push (x ∷ xs) y (suc i) item h =
    elim (get-push xs y i item h) [ inl w ↦ inl (omega arith, w.1) | inr w ↦ inr (let e = w.0 in omega arith, w.1) ]

-- where a shape is new, it stands at one place
distinct-push : {xs : List Shape} (y : Shape) → IsDiagram xs → (Contains xs y → ⊥) → (i j : ℕ) (shape : Shape) → slice_get (xs ++ y ∷ []) i ≡ Some shape
    → slice_get (xs ++ y ∷ []) j ≡ Some shape → i ≡ j
distinct-push {xs} y is new i j shape p q = elim (get-push xs y i shape p) [
  | inl at_i ↦ elim (get-push xs y j shape q) [
    | inl at_j ↦ is.distinct i j shape at_i.1 at_j.1
    | inr last ↦ absurd (new (there i at_i.1 last.1))
  ]
  | inr last ↦ elim (get-push xs y j shape q) [
    | inl at_j ↦ absurd (new (there j at_j.1 last.1))
    | inr last_too ↦ last.0 ∙ sym last_too.0
  ]
]
  where
    there : (k : ℕ) → slice_get xs k ≡ Some shape → y ≡ shape → Contains xs y
    there k at same = (k, slice_get_within xs k shape at, get_or_from_slice_get xs k shape y at ∙ sym same)

pub IsDiagram-push : {xs : List Shape} (y : Shape) → IsDiagram xs → FitsBelow xs (length xs) y → (Contains xs y → ⊥) → IsDiagram (xs ++ y ∷ [])
IsDiagram-push {xs} y is fits new = record {
  fits = λ node shape at. elim (get-push xs y node shape at) [
    | inl w ↦ FitsBelow-append xs (y ∷ []) node shape (let l = w.0 in omega arith) (is.fits node shape w.1)
    | inr w ↦
        FitsBelow-append xs (y ∷ []) node shape (let l = w.0 in omega arith)
        (let P : ℕ → Shape → Type 0 = λ n s. FitsBelow xs n s in subst (λ s. P node s) w.1 (subst (λ n. P n y) (sym w.0) fits))
  ];
  distinct = distinct-push y is new;
}

pub IsDiagram-adds : {old : List Shape} (new : List Shape) (shape : Shape) → IsDiagram old → FitsBelow old (length old) shape
    → AddsShape old new shape → IsDiagram new
IsDiagram-adds {old} new shape is fits adds = elim adds [
  | inl e ↦ subst IsDiagram (sym e) is
  | inr more ↦ subst IsDiagram (sym more.0) (IsDiagram-push shape is fits more.1)
]

pub Grows-adds : (old new : List Shape) (shape : Shape) → AddsShape old new shape → Grows old new
Grows-adds old new shape adds = elim adds [
  | inl e ↦ subst (Grows old) (sym e) (Grows-refl old)
  | inr more ↦ subst (Grows old) (sym more.0) (Grows-append old (shape ∷ []))
]

-- the node at which a shape stands
pub IsAt-stored : {shapes : List Shape} (node : ℕ) (shape : Shape) → IsDiagram shapes → slice_get shapes node ≡ Some shape → IsAt shapes node shape
IsAt-stored {shapes} node shape is at = IsAt-get shapes node shape at (is.fits node shape at)
