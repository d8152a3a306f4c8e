use Rattle.std.proofs.Common.{◌≡◌, Some, false, length, get_or, slice_get, below_more, ap, sym, ◌∙◌}
use Rattle.letter_diagram.specs.OpenTable.{free, number_at}
use Rattle.letter_diagram.specs.Probing.{place_of}
use Rattle.letter_diagram.specs.ShapeTable.{start_of}
use Rattle.letter_diagram.proofs.OpenTables.{number_at-read, not_known}
use Rattle.letter_diagram.proofs.Shapes.{shape_eq}
use Rattle.letter_diagram.proofs.ShapeTables.{differs}
use Rattle.letter_diagram.proofs.shape_table.find.Goals as goal

pub returns-then-number : goal.returns-then-number
returns-then-number c =
    let read : number_at c.args.slots.now (start_of c.args.shape.now) c.loop-step.step ≡ get_or c.args.slots.now c.place-place.result 0 =
    number_at-read c.args.slots.now (start_of c.args.shape.now) c.start-start.result c.place-place.result c.loop-step.step c.start-start.ensures c.place-place.ensures.at in (
      record {
        step = c.loop-step.step;
        early = c.loop-step-test.true;
        at = c.place-place.ensures.at ∙ ap (λ n. place_of (length c.args.slots.now) n c.loop-step.step) c.start-start.ensures;
        within = c.place-place.ensures.within;
        is_free = c.if-number.true;
        before = λ k earlier. (c.loop-step.invariant k earlier).0;
      },
      not_known c.args.shape.now c.loop-step.step c.requires (read ∙ c.if-number.true) (λ k earlier. (c.loop-step.invariant k earlier).1),
    )

pub loop-step-preserved : goal.loop-step-preserved
loop-step-preserved c =
    let read : number_at c.args.slots.now (start_of c.args.shape.now) c.loop-step.step ≡ get_or c.args.slots.now c.place-place.result 0 =
    number_at-read c.args.slots.now (start_of c.args.shape.now) c.start-start.result c.place-place.result c.loop-step.step c.start-start.ensures c.place-place.ensures.at in
    let other : shape_eq c.index-shapes-number.result c.args.shape.now ≡ false = sym c.eq.ensures ∙ c.if-eq.false in
    below_more
    (λ k. (number_at c.args.slots.now (start_of c.args.shape.now) k ≡ free → ⊥) × (slice_get c.args.shapes.now (number_at c.args.slots.now (start_of c.args.shape.now) k) ≡ Some c.args.shape.now → ⊥))
    c.loop-step.step c.loop-step.invariant (
      λ e. c.if-number.false (sym read ∙ e),
      λ at. differs c.args.shapes.now (get_or c.args.slots.now c.place-place.result 0) c.index-shapes-number.result c.args.shape.now c.index-shapes-number.is other
          (ap (λ n. slice_get c.args.shapes.now n) (sym read) ∙ at),
    )
