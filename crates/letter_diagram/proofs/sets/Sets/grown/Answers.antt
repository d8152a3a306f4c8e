use Rattle.std.proofs.Common.{◌<◌, ◌^◌, length, map, ap, arith}
use Rattle.std.proofs.lemmas.List.{length-map}
use Rattle.letter_diagram.specs.OpenTable.{IsFirstFree}
use Rattle.letter_diagram.specs.Sets.{start_of}
use Rattle.letter_diagram.proofs.OpenTables.{IsHashed-more}
use Rattle.letter_diagram.proofs.SetNumbers.{set_read_at}
use Rattle.letter_diagram.proofs.sets.Sets.grown.Goals as goal

pub loop-number-preserved : goal.loop-number-preserved
loop-number-preserved c =
    let sets = map (λ s. s.items) c.deref-set-items.result.now in
    let size = length-map c.deref-set-items.result.now (λ s. s.items) in
    let same = ap (λ l. length (map (λ s. s.items) l)) c.deref-set-items.ensures.value in
    let first : IsFirstFree c.loop-number.slots.items (start_of c.set-item.result.items) c.in-Some.place =
    rw (c.deref-in-loop-number.ensures.value, c.start-from.ensures, c.deref.ensures.value) at c.in-Some.ensures in
    let few : length sets < 2 ^ 32 = omega (arith, c.self.invariant.2.few, same) in
    let within : c.loop-number.number < length sets = omega (arith, size) in
    IsHashed-more sets c.loop-number.number c.set-item.result.items c.in-Some.place c.loop-number.invariant within few
    (set_read_at (λ s. s.items) c.deref-set-items.result.now c.loop-number.number c.set-item.result c.loop-number-test.true c.set-item.is) first
