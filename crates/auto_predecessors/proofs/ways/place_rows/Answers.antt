use Rattle.std.proofs.Common.{rules, arith, ◌≡◌, ◌<◌, ℕ, length, drop, sym, ◌∙◌, subst}
use Rattle.std.proofs.Math.Seq.{take-append_seam}
use Rattle.std.proofs.lemmas.Grind.{common_steps}
use Rattle.std.proofs.lemmas.List.{get_or_read}
use Rattle.std.proofs.lemmas.List.Elements.{All-get_or}
use Rattle.letter_diagram.specs.Diagram.{map_at}
use Rattle.auto_predecessors.specs.Ways.{IsPlaced}
use Rattle.auto_predecessors.proofs.Placed.{ArePlacedRows-from, placed_push}
use Rattle.auto_predecessors.proofs.ways.place_rows.Goals as goal

pub place_of-requires-clause-leaves : goal.place_of-requires-clause-leaves
place_of-requires-clause-leaves c =
    let rows = c.args.rows.now in
    let index = c.loop-node.node-index in
    let node = get_or_read rows index c.node-item.result c.loop-node-test.true c.node-item.is 0 in
    rw (c.diagrams-in-loop-node.ensures.shapes, c.states.ensures.states, node) (All-get_or
    (λ n. (letter : ℕ) → map_at c.args.a.now.shapes n letter < length c.args.a.now.accept) rows index 0 c.loop-node-test.true c.requires.rows.within)

pub loop-node-preserved : goal.loop-node-preserved
loop-node-preserved c =
    let shapes = c.args.a.now.shapes in
    let rows = c.args.rows.now in
    let index = c.loop-node.node-index in
    let before = c.loop-node.invariant in
    let size : length c.loop-node.found.items ≡ index = search rules in
    let node = get_or_read rows index c.node-item.result c.loop-node-test.true c.node-item.is 0 in
    let placed = rw c.diagrams-in-loop-node.ensures.shapes at c.in_ok-place.ensures.placed in
    let remembered = rw (c.diagrams-in-loop-node.ensures.shapes, c.states.ensures.states) at c.in_ok-place.ensures.remembered in
    let room : length c.loop-node.places.items ≡ c.loop-node.places.len = search rules in
    let same : length c.place_of.new.places ≡ c.loop-node.places.len = remembered.size ∙ sym before.remembered.size ∙ room in
    record {
      size = grind (arith, common_steps);
      remembered = rw (← same, take-append_seam c.place_of.new.places (drop (length c.place_of.new.places) c.loop-node.places.items)) remembered;
      placed = rw c.in_ok-push.ensures.items (placed_push rows c.loop-node.found.items index c.in_ok-place.ensures.kept size before.placed
          (subst (λ n. IsPlaced shapes c.place_of.new.ways.items n c.in_ok-place.place) node placed));
    }

pub returns : goal.returns
returns c =
    let size : length c.loop-node.found.items ≡ c.loop-node.node-index = search rules in
    let end : c.loop-node.node-index ≡ length c.args.rows.now = (let to = c.loop-node.auto.node-index-end in omega (arith, to, c.loop-node-test.false)) in
    ArePlacedRows-from c.loop-node.ways.items c.loop-node.found.items c.requires.rows
    c.loop-node.invariant.remembered.fits (omega (arith, size, end)) (λ k less. c.loop-node.invariant.placed k (omega (arith, less, end)))
