-- Which shape a number does not have.
use Rattle.std.proofs.Common.{◌≡◌, ℕ, true, false, true≢false, List, get_or, slice_get, Some, sym, ap, ◌∙◌}
use Rattle.std.proofs.lemmas.Option.{get_or_from_slice_get}
use Rattle.letter_diagram.specs.declared.diagrams.Shape.{Shape}
use Rattle.letter_diagram.proofs.Shapes.{shape_eq, shape_eq-refl}

-- another shape than that of a number
pub differs : (shapes : List Shape) (number : ℕ) (found shape : Shape) → found ≡ get_or shapes number found → shape_eq found shape ≡ false
    → slice_get shapes number ≡ Some shape → ⊥
differs shapes number found shape is other at =
    let same : found ≡ shape = is ∙ get_or_from_slice_get shapes number shape found at in
    let equal : shape_eq found shape ≡ true = ap (λ s. shape_eq s shape) same ∙ shape_eq-refl shape in
    true≢false (sym equal ∙ other)
