use Rattle.std.proofs.Common.{◌≡◌, get_or, below_more, refl, sym, ◌∙◌}
use Rattle.letter_diagram.specs.OpenTable.{free, number_at}
use Rattle.letter_diagram.proofs.OpenTables.{number_at-read}
use Rattle.letter_diagram.proofs.open_table.first_free.Goals as goal

pub returns-then-slots-place : goal.returns-then-slots-place
returns-then-slots-place c = record {
  step = c.loop-step.step;
  early = c.loop-step-test.true;
  at = c.place-place.ensures.at;
  within = c.place-place.ensures.within;
  is_free = c.if-slots-place.true;
  before = c.loop-step.invariant;
}

pub loop-step-preserved : goal.loop-step-preserved
loop-step-preserved c =
    let read : number_at c.args.slots.now c.args.start c.loop-step.step ≡ get_or c.args.slots.now c.place-place.result 0 =
    number_at-read c.args.slots.now c.args.start c.args.start c.place-place.result c.loop-step.step refl c.place-place.ensures.at in
    below_more (λ k. number_at c.args.slots.now c.args.start k ≡ free → ⊥) c.loop-step.step c.loop-step.invariant
    (λ e. c.if-slots-place.false (sym read ∙ e))
