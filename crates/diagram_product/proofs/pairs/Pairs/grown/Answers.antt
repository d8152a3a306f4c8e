use Rattle.std.proofs.Common.{◌≡◌, ◌<◌, ◌^◌, length, take, get_or, sym, ap, ◌∙◌, subst, arith, rules}
use Rattle.std.proofs.Math.ListN.{replicate}
use Rattle.std.proofs.Math.Seq.{take-length}
use Rattle.std.proofs.lemmas.Option.{slice_get-get_or, get_or_from_slice_get}
use Rattle.letter_diagram.specs.OpenTable.{free, IsHashed, IsFirstFree}
use Rattle.letter_diagram.proofs.OpenTables.{IsHashed-new, IsHashed-more}
use Rattle.diagram_product.specs.Pairs.{start_of}
use Rattle.diagram_product.proofs.pairs.Pairs.grown.Goals as goal

pub loop-number-init : goal.loop-number-init
loop-number-init c =
    let same : c.in_ok-slots.slots.items ≡ replicate c.in_ok-slots_for.field-0 free = search rules in
    IsHashed-new start_of c.in_ok-slots.slots.items c.in_ok-slots_for.field-0 same

pub loop-number-preserved : goal.loop-number-preserved
loop-number-preserved c =
    let pair = get_or c.deref-pair-items.result.now c.loop-number.number (0, 0) in
    let is = sym (get_or_from_slice_get c.deref-pair-items.result.now c.loop-number.number pair pair (slice_get-get_or c.deref-pair-items.result.now c.loop-number.number (0, 0) c.loop-number-test.true)) in
    let first : IsFirstFree c.loop-number.slots.items (start_of pair) c.in-Some.place = rw (c.deref.ensures.value, c.scatter-from.ensures) at c.in-Some.ensures in
    let size = ap length c.deref-pair-items.ensures.value in
    let few : length c.deref-pair-items.result.now < 2 ^ 32 = omega (arith, c.self.invariant.1.few) in
    IsHashed-more c.deref-pair-items.result.now c.loop-number.number pair c.in-Some.place c.loop-number.invariant c.loop-number-test.true few
    is first

pub returns : goal.returns
returns c =
    let all : c.loop-number.number ≡ length c.deref-pair-items.result.now = omega arith in
    let whole : take c.loop-number.number c.deref-pair-items.result.now ≡ c.args.self.now =
    ap (λ n. take n c.deref-pair-items.result.now) all ∙ take-length c.deref-pair-items.result.now ∙ c.deref-pair-items.ensures.value ∙ c.self.view_is in
    subst (IsHashed start_of c.loop-number.slots.items) whole c.loop-number.invariant
