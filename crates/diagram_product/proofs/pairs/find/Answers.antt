use Rattle.std.proofs.Common.{◌≡◌, ℕ, Some, get_or, slice_get, below_more, ap, sym, ◌∙◌, arith, inl, inr}
use Rattle.std.proofs.lemmas.Option.{get_or_from_slice_get}
use Rattle.letter_diagram.specs.OpenTable.{free, number_at}
use Rattle.letter_diagram.proofs.OpenTables.{number_at-read, not_known, not_met}
use Rattle.diagram_product.specs.Pairs.{start_of}
use Rattle.diagram_product.proofs.pairs.find.Goals as goal

pub returns-then-number-clause-none : goal.returns-then-number-clause-none
returns-then-number-clause-none c = λ e.
    let read : number_at c.args.slots.now (start_of (c.args.a, c.args.b)) c.loop-step.step ≡ get_or c.args.slots.now c.place-place.result 0 =
    number_at-read c.args.slots.now (start_of (c.args.a, c.args.b)) c.scatter-start.result c.place-place.result c.loop-step.step c.scatter-start.ensures c.place-place.ensures.at in
    not_known (c.args.a, c.args.b) c.loop-step.step c.requires (read ∙ c.if-number.true) c.loop-step.invariant

pub loop-step-preserved : goal.loop-step-preserved
loop-step-preserved c =
    let read : number_at c.args.slots.now (start_of (c.args.a, c.args.b)) c.loop-step.step ≡ get_or c.args.slots.now c.place-place.result 0 =
    number_at-read c.args.slots.now (start_of (c.args.a, c.args.b)) c.scatter-start.result c.place-place.result c.loop-step.step c.scatter-start.ensures c.place-place.ensures.at in
    below_more (λ k. slice_get c.args.pairs.now (number_at c.args.slots.now (start_of (c.args.a, c.args.b)) k) ≡ Some (c.args.a, c.args.b) → ⊥)
    c.loop-step.step c.loop-step.invariant (λ at.
    let same : get_or c.args.pairs.now (get_or c.args.slots.now c.place-place.result 0) (0, 0) ≡ (c.args.a, c.args.b) =
    get_or_from_slice_get c.args.pairs.now (get_or c.args.slots.now c.place-place.result 0) (c.args.a, c.args.b) (0, 0) (sym (ap (slice_get c.args.pairs.now) read) ∙ at) in
    elim c.else-left-a.either [ inl h ↦ h.1 (ap (λ (p : ℕ × ℕ). p.1) same) | inr other ↦ other (ap (λ (p : ℕ × ℕ). p.0) same) ])

pub returns-clause-none : goal.returns-clause-none
returns-clause-none c = λ e. not_met (c.args.a, c.args.b) c.loop-step.step c.requires (omega arith) c.loop-step.invariant
