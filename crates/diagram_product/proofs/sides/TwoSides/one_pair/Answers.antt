use Rattle.std.proofs.Common.{◌≡◌, ◌∙◌, sym, subst}
use Rattle.diagram_product.specs.Sided.{Sides, read_at, pair_at}
use Rattle.diagram_product.proofs.Absorptions.{one_pair-left, one_pair-right}
use Rattle.diagram_product.proofs.sides.TwoSides.one_pair.Goals as goal

pub returns-in-Some-None-clause-one : goal.returns-in-Some-None-clause-one
returns-in-Some-None-clause-one g c letter =
    let left = read_at (g.S.NodeReader.reading c.self.inside.left) c.args.to.now c.args.a in
    let right = read_at (g.S.NodeReader.reading c.self.inside.right) c.args.to.now c.args.b in
    subst (λ (s : Sides). pair_at s c.args.to.now c.args.a c.args.b letter ≡ c.stand_in.result) c.self.view_is (
    one_pair-left c.self.inside.absorbing left right c.in-Some-None.value c.constant-left.result
    c.constant-left.ensures.constant c.in-Some-None.is-0 (sym c.if-absorbs.ensures) letter
    ∙ sym c.stand_in.ensures)

pub returns-in-None-Some-clause-one : goal.returns-in-None-Some-clause-one
returns-in-None-Some-clause-one g c letter =
    let left = read_at (g.S.NodeReader.reading c.self.inside.left) c.args.to.now c.args.a in
    let right = read_at (g.S.NodeReader.reading c.self.inside.right) c.args.to.now c.args.b in
    subst (λ (s : Sides). pair_at s c.args.to.now c.args.a c.args.b letter ≡ c.stand_in-in-None-Some.result) c.self.view_is (
    one_pair-right c.self.inside.absorbing left right c.in-None-Some.value c.constant-right.result
    c.constant-right.ensures.constant c.in-None-Some.is-1 (sym c.if-absorbs-2.ensures) letter
    ∙ sym c.stand_in-in-None-Some.ensures)
