use Rattle.std.proofs.Common.{arith, rules, ◌≡◌, ◌≢◌, ◌<◌, ◌≤◌, ◌+◌, length, get_or, refl, ap, ◌∙◌}
use Rattle.std.proofs.lemmas.List.{get_or_read}
use Rattle.std.proofs.lemmas.List.Elements.{All-get_or}
use Rattle.std.proofs.lemmas.Option.{slice_get_within}
use Rattle.auto_refine.specs.Moves.{chosen_node}
use Rattle.auto_refine.proofs.Rounds.{count_le-size}
use Rattle.auto_refine.proofs.Splits.{signatures_few, AreMoves-again, AreMoves-first}
use Rattle.auto_refine.proofs.moves.sort_state.Goals as goal
use Rattle.auto_refine.proofs.moves.sort_state.Goals.{then-len+in_ok-push, else-len}

pub add-requires : goal.add-requires
add-requires c =
    let few = signatures_few c.requires.moves in
    let size = c.requires.partition.states in
    omega (arith, few, size, c.requires.few)

pub overflow_cast-partition : goal.overflow_cast-partition
overflow_cast-partition c =
    let most = count_le-size _ _ _ c.requires.partition in
    omega (arith, most, c.requires.few)

pub overflow_add-partition : goal.overflow_add-partition
overflow_add-partition c =
    let most = count_le-size _ _ _ c.requires.partition in
    let few = signatures_few c.requires.moves in
    let size = c.requires.partition.states in
    let inside = c.in_ok-place.ensures.room in
    let place = slice_get_within c.add.new.self c.in_ok-place.place (c.index-class.result.now, c.index-nodes-state.result) c.in_ok-place.ensures.number in
    omega (arith, most, few, size, inside, place, c.requires.few)

pub returns-clause-moves : goal.returns-clause-moves
returns-clause-moves c =
    let classes = c.args.partition.now.classes.items in
    let count = c.args.partition.now.count in
    let representatives = c.args.listing.now.representatives.items in
    let nodes = c.args.nodes.now in
    let state = c.args.state in
    let moves = c.args.moves.now in
    let new = c.add.new.self in
    let class = c.index-class.result.now in
    let node = c.index-nodes-state.result in
    let stands = c.index.result.now in
    let own = c.index-nodes-index.result in
    let place = c.in_ok-place.place in
    let number = count + place in
    let within : state < length nodes = c.requires.within in
    let states = c.requires.partition.states in
    let inside : state < length classes = omega (arith, within, states) in
    let class_is = get_or_read classes state class inside c.index-class.ensures 0 in
    let class_below = All-get_or (λ n. n < count) classes state 0 inside c.requires.partition.within in
    let members_size = c.requires.listing.members.size in
    let class_inside : class < length representatives = omega (arith, class_is, class_below, members_size) in
    let stands_is = get_or_read representatives class stands class_inside c.index.ensures 0 in
    let stands_below = All-get_or (λ s. s < length classes) representatives class 0 class_inside c.requires.listing.members.within in
    let own_is : own ≡ chosen_node classes representatives nodes state = get_or_read nodes stands own (omega (arith, stands_is, stands_below, states))
    c.index-nodes-index.is 0 ∙ ap (λ s. get_or nodes s 0) stands_is ∙ ap (λ n. get_or nodes (get_or representatives n 0) 0) class_is in
    let node_is = get_or_read nodes state node within c.index-nodes-state.is 0 in
    let other : node ≢ own = search rules in
    rw (c.in_ok-push-2.ensures.items, c.in_ok-push-3.ensures.items) (elim c.if-len.branch [
      | then-len+in_ok-push w ↦
          let fresh : length moves.firsts.items < length new = search rules in
          rw (w.moves-is, w.in_ok-push.ensures.items) (AreMoves-first classes representatives nodes count moves.signatures new moves.states.items
          moves.numbers.items moves.firsts.items c.requires.moves c.add.ensures.kept c.len-2.ensures.unrepeated
          state place class node own inside class_is node_is own_is other c.in_ok-place.ensures.number number refl c.in_ok-place.ensures.signatures fresh)
      | else-len w ↦
          let full : length new ≤ length moves.firsts.items = search rules in
          rw w.moves-is (AreMoves-again classes representatives nodes count moves.signatures new moves.states.items moves.numbers.items
          moves.firsts.items c.requires.moves c.add.ensures.kept c.len-2.ensures.unrepeated
          state place class node own inside class_is node_is own_is other c.in_ok-place.ensures.number number refl full)
    ])
