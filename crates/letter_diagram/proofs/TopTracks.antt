-- A map looks at its top track.
use Rattle.std.proofs.Common.{ℕ, ◌<◌, List, length, get_or, arith, sym, ◌∙◌, subst}
use Rattle.std.proofs.lemmas.Option.{slice_get-get_or}
use Rattle.letter_diagram.specs.declared.diagrams.Shape.{Shape}
use Rattle.letter_diagram.specs.declared.diagrams.Shape.TheVariants.{Leaf, Test}
use Rattle.letter_diagram.specs.Diagram.{top_track, IsDiagram, FitsBelow, IsAt}
use Rattle.letter_diagram.specs.Merged.{IgnoresTrack}
use Rattle.letter_diagram.proofs.Maps.{IsAt-get}
use Rattle.letter_diagram.proofs.Canonical.{node-from_map}
use Rattle.letter_diagram.proofs.Narrow.{low_at, high_at}

by_shape : {shapes : List Shape} → IsDiagram shapes → {node : ℕ} {shape : Shape} → IsAt shapes node shape → FitsBelow shapes node shape → top_track shapes node < 20
    → IgnoresTrack shapes node (top_track shapes node) → ⊥
by_shape is {shape = Leaf value} at fits low ignores = let top = at.top in absurd (omega arith)
by_shape {shapes} is {node} {shape = Test track lower higher} at fits low ignores =
    let within = at.within in
    let low_before = fits.low_before in
    let high_before = fits.high_before in
    let none = subst (IgnoresTrack shapes node) at.top ignores in
    fits.differ (node-from_map shapes is lower higher (omega arith) (omega arith) (λ letter.
    let p = low_at is at fits letter in
    let q = high_at is at fits letter in
    p.3 ∙ none.same p.0 q.0 (λ k ne. p.2 k ne ∙ sym (q.2 k ne)) ∙ sym q.3))

pub looks_at_top : {shapes : List Shape} → IsDiagram shapes → {node : ℕ} → node < length shapes → top_track shapes node < 20 → IgnoresTrack shapes node (top_track shapes node) → ⊥
looks_at_top {shapes} is {node} known =
    let here = slice_get-get_or shapes node (Leaf 0) known in
    let fits = is.fits node (get_or shapes node (Leaf 0)) here in
    by_shape is (IsAt-get shapes node (get_or shapes node (Leaf 0)) here fits) fits
