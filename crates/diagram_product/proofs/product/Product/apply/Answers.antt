use Rattle.std.proofs.Common.{length, ap, arith, subst}
use Rattle.letter_diagram.specs.Diagram.{map_at}
use Rattle.diagram_product.specs.Product.{ProductTables}
use Rattle.diagram_product.specs.Absorbed.{ArePairs}
use Rattle.diagram_product.specs.Sided.{pair_top}
use Rattle.letter_diagram.proofs.Splittings.{room_from-le}
use Rattle.diagram_product.proofs.SidedPairs.{RemembersPaired-nothing}
use Rattle.diagram_product.proofs.product.Product.apply.Goals as goal

pub invariant_of-self-in-Err : goal.invariant_of-self-in-Err
invariant_of-self-in-Err c = RemembersPaired-nothing c.clear.ensures

pub paired-requires-clause-room : goal.paired-requires-clause-room
paired-requires-clause-room c =
    let room = room_from-le (pair_top c.together-sides.result c.self.inside.diagrams c.args.a c.args.b) in
    let same = ap (λ (t : ProductTables). length t.pairs) c.self.view_is in
    let before = c.requires.room in
    omega (arith, room, same, before)

pub returns-in-Ok-clause-answers : goal.returns-in-Ok-clause-answers
returns-in-Ok-clause-answers c =
    subst (λ (t : ProductTables). ArePairs t.absorbing (length t.pairs) c.paired.new.pairs (map_at t.shapes c.args.a) (map_at t.shapes c.args.b))
    c.self.view_is (rw c.together-sides.ensures at c.in-Ok.ensures.answers)

pub returns-in-Ok-clause-few : goal.returns-in-Ok-clause-few
returns-in-Ok-clause-few c =
    let room = room_from-le (pair_top c.together-sides.result c.self.inside.diagrams c.args.a c.args.b) in
    let same = ap (λ (t : ProductTables). length t.pairs) c.self.view_is in
    let used = c.in-Ok.ensures.room in
    omega (arith, room, same, used)
