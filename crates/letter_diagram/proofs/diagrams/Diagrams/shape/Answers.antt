use Rattle.std.proofs.Common.{◌≡◌, ◌<◌, ℕ, List, length, slice_get, Some, subst, refl}
use Rattle.letter_diagram.specs.declared.diagrams.Shape.{Shape}
use Rattle.std.proofs.lemmas.Option.{slice_get_read}
use Rattle.letter_diagram.proofs.Maps.{IsAt-get}
use Rattle.letter_diagram.proofs.Canonical.{HasChildren-at}
use Rattle.letter_diagram.proofs.diagrams.Diagrams.shape.Goals as goal

at_node : (c : goal.After-index-as_slice-number) → slice_get c.self.inside.shapes c.args.node ≡ Some c.index-as_slice-number.result
at_node c =
    let P : List Shape → ℕ → Type 0 = λ l n. slice_get l n ≡ Some c.index-as_slice-number.result in
    let within : c.number.result < length c.as_slice.result.now = rw (c.number.ensures, c.as_slice.ensures, c.self.view_is) c.requires in
    let there = slice_get_read c.as_slice.result.now _ c.number.result c.index-as_slice-number.result refl within c.index-as_slice-number.is in
    subst (λ l. P l c.args.node) c.as_slice.ensures (subst (P c.as_slice.result.now) c.number.ensures there)

pub returns-clause-at : goal.returns-clause-at
returns-clause-at c = rw (← c.self.view_is) (IsAt-get _ _ _ (at_node c) (c.self.invariant.fits _ _ (at_node c)))

pub returns-clause-fits : goal.returns-clause-fits
returns-clause-fits c = rw (← c.self.view_is) (c.self.invariant.fits _ _ (at_node c))

pub returns-clause-children : goal.returns-clause-children
returns-clause-children c =
    let fits = c.self.invariant.fits _ _ (at_node c) in
    rw (← c.self.view_is) (HasChildren-at _ c.self.invariant _ _ (IsAt-get _ _ _ (at_node c) fits) fits)
