use Rattle.std.proofs.Common.{◌≡◌, Some, true, false, get_or, slice_get, map, below_more, ap, sym, ◌∙◌, arith}
use Rattle.std.proofs.lemmas.List.{length-map}
use Rattle.letter_diagram.specs.OpenTable.{number_at}
use Rattle.letter_diagram.specs.Sets.{start_of}
use Rattle.letter_diagram.proofs.OpenTables.{number_at-read, not_known, not_met}
use Rattle.letter_diagram.proofs.SetNumbers.{set_eq, set_there, set_differs}
use Rattle.letter_diagram.proofs.sets.find.Goals as goal

pub returns-then-number-clause-none : goal.returns-then-number-clause-none
returns-then-number-clause-none c = λ e.
    let read : number_at c.args.slots.now (start_of c.args.set.now) c.loop-step.step ≡ get_or c.args.slots.now c.place-place.result 0 =
    number_at-read c.args.slots.now (start_of c.args.set.now) c.start-start.result c.place-place.result c.loop-step.step c.start-start.ensures c.place-place.ensures.at in
    not_known c.args.set.now c.loop-step.step c.requires (read ∙ c.if-number.true) c.loop-step.invariant

pub returns-then-eq-clause-some : goal.returns-then-eq-clause-some
returns-then-eq-clause-some c =
    let count = length-map c.args.sets.now (λ s. s.items) in
    let known = c.requires.known c.place-place.result c.place-place.ensures.within c.if-number.false in
    let same : set_eq c.index-sets-number.result.items c.args.set.now ≡ true = ap (λ l. set_eq l c.args.set.now) (sym c.as_slice.ensures.value) ∙ sym c.eq.ensures ∙ c.if-eq.true in
    set_there (λ s. s.items) c.args.sets.now (get_or c.args.slots.now c.place-place.result 0) c.index-sets-number.result c.args.set.now
    (omega (arith, count, known)) c.index-sets-number.is same

pub loop-step-preserved : goal.loop-step-preserved
loop-step-preserved c =
    let read : number_at c.args.slots.now (start_of c.args.set.now) c.loop-step.step ≡ get_or c.args.slots.now c.place-place.result 0 =
    number_at-read c.args.slots.now (start_of c.args.set.now) c.start-start.result c.place-place.result c.loop-step.step c.start-start.ensures c.place-place.ensures.at in
    let count = length-map c.args.sets.now (λ s. s.items) in
    let known = c.requires.known c.place-place.result c.place-place.ensures.within c.if-number.false in
    let other : set_eq c.index-sets-number.result.items c.args.set.now ≡ false = ap (λ l. set_eq l c.args.set.now) (sym c.as_slice.ensures.value) ∙ sym c.eq.ensures ∙ c.if-eq.false in
    below_more (λ k. slice_get (map (λ s. s.items) c.args.sets.now) (number_at c.args.slots.now (start_of c.args.set.now) k) ≡ Some c.args.set.now → ⊥)
    c.loop-step.step c.loop-step.invariant (λ at.
    set_differs (λ s. s.items) c.args.sets.now (get_or c.args.slots.now c.place-place.result 0) c.index-sets-number.result c.args.set.now
    (omega (arith, count, known)) c.index-sets-number.is other (sym (ap (slice_get (map (λ s. s.items) c.args.sets.now)) read) ∙ at))

pub returns-clause-none : goal.returns-clause-none
returns-clause-none c = λ e. not_met c.args.set.now c.loop-step.step c.requires (omega arith) c.loop-step.invariant
