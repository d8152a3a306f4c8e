use Rattle.std.proofs.Common.{◌≡◌, ◌<◌, ◌^◌, length, take, ap, ◌∙◌, subst, arith, rules}
use Rattle.std.proofs.Math.ListN.{replicate}
use Rattle.std.proofs.Math.Seq.{take-length}
use Rattle.letter_diagram.specs.OpenTable.{free, IsHashed, IsFirstFree}
use Rattle.letter_diagram.specs.ShapeTable.{start_of}
use Rattle.letter_diagram.proofs.OpenTables.{IsHashed-new, IsHashed-more}
use Rattle.letter_diagram.proofs.shape_table.ShapeTable.grown.Goals as goal

pub loop-number-init : goal.loop-number-init
loop-number-init c =
    let same : c.in_ok-slots.slots.items ≡ replicate c.in_ok-slots_for.field-0 free = search rules in
    IsHashed-new start_of c.in_ok-slots.slots.items c.in_ok-slots_for.field-0 same

pub loop-number-preserved : goal.loop-number-preserved
loop-number-preserved c =
    let first : IsFirstFree c.loop-number.slots.items (start_of c.shape-item.result) c.in-Some.place = rw (c.deref.ensures.value, c.start-from.ensures) at c.in-Some.ensures in
    let size = ap length c.deref-shape-items.ensures.value in
    let few : length c.deref-shape-items.result.now < 2 ^ 32 = omega (arith, c.self.invariant.few) in
    IsHashed-more c.deref-shape-items.result.now c.loop-number.number c.shape-item.result c.in-Some.place c.loop-number.invariant c.loop-number-test.true few
    c.shape-item.is first

pub returns : goal.returns
returns c =
    let all : c.loop-number.number ≡ length c.deref-shape-items.result.now = omega arith in
    let whole : take c.loop-number.number c.deref-shape-items.result.now ≡ c.args.self.now =
    ap (λ n. take n c.deref-shape-items.result.now) all ∙ take-length c.deref-shape-items.result.now ∙ c.deref-shape-items.ensures.value ∙ c.self.view_is in
    subst (IsHashed start_of c.loop-number.slots.items) whole c.loop-number.invariant
