use Rattle.std.proofs.Common.{arith, ap, ◌∙◌, Some}
use Rattle.diagram_product.specs.Sided.{pair_top}
use Rattle.diagram_product.proofs.Absorptions.{absorbed-nothing}
use Rattle.letter_diagram.proofs.Splittings.{room_from-le}
use Rattle.diagram_product.proofs.SidedPairs.{RemembersPaired-nothing}
use Rattle.diagram_product.proofs.apply.apply2.Goals as goal

pub paired-requires-clause-remembered : goal.paired-requires-clause-remembered
paired-requires-clause-remembered c = RemembersPaired-nothing c.new-memo.ensures

pub paired-requires-clause-room : goal.paired-requires-clause-room
paired-requires-clause-room c = let room = room_from-le (pair_top c.together-sides.result c.args.diagrams.now c.args.a c.args.b) in omega (arith, room)

pub returns-clause-map : goal.returns-clause-map
returns-clause-map c =
    let grows = c.in_ok-node.ensures.grows in
    let paired = rw c.together-sides.ensures at c.in_ok-node.ensures.paired in
    λ letter.
    paired.map letter ∙ ap Some (absorbed-nothing c.nothing.result _ _ c.nothing.ensures.left c.nothing.ensures.right)
    ∙ (λ i. Some (grows.map c.args.a letter c.requires.a_known i, grows.map c.args.b letter c.requires.b_known i))

pub returns-clause-answers : goal.returns-clause-answers
returns-clause-answers c =
    let answers = rw c.together-sides.ensures at c.in_ok-node.ensures.answers in
    record {
      answer = λ number from below.
          let found = answers.answer number from below in
          (found.0, found.1 ∙ ap Some (absorbed-nothing c.nothing.result _ _ c.nothing.ensures.left c.nothing.ensures.right));
    }

pub returns-clause-few : goal.returns-clause-few
returns-clause-few c =
    let room = room_from-le (pair_top c.together-sides.result c.args.diagrams.now c.args.a c.args.b) in
    let used = c.in_ok-node.ensures.room in
    omega (arith, room, used)
