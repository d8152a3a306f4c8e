use Rattle.std.proofs.Common.{◌≡◌, ◌<◌, ◌≤◌, ◌+◌, ◌/◌, ◌%◌, ◌∙◌, length, IfSome}
use Rattle.std.proofs.lemmas.List.{length-set}
use Rattle.auto_search.specs.Search.{stepped}
use Rattle.auto_search.specs.Met.{IsSlot}
use Rattle.auto_search.proofs.Fronts.{table-more, table-some}
use Rattle.auto_search.proofs.front.step.Goals as goal

pub loop-slot-preserved : goal.loop-slot-preserved
loop-slot-preserved c =
    let a = c.args.course.now.auto.now in
    let ray = c.args.course.now.ray.now in
    let slot = c.loop-slot.slot in
    let is : slot / 3 ≤ ray.x.zero + ray.x.one → slot % 3 ≤ ray.y.zero + ray.y.one
    → c.next.result ≡ stepped a ray c.args.place c.args.bit c.args.front.now (slot / 3) (slot % 3) =
    rw (← c.of_slot.ensures.x, ← c.of_slot.ensures.y) c.next.ensures.next in
    let only : IfSome c.next.result (λ state. IsSlot ray slot) = rw (← c.of_slot.ensures.x, ← c.of_slot.ensures.y) c.next.ensures.only in
    record {
      size = length-set c.loop-slot.after slot c.next.result ∙ c.loop-slot.invariant.size;
      at =
          table-more
          (λ slot state. slot / 3 ≤ ray.x.zero + ray.x.one → slot % 3 ≤ ray.y.zero + ray.y.one
          → state ≡ stepped a ray c.args.place c.args.bit c.args.front.now (slot / 3) (slot % 3))
          c.loop-slot.after slot 9 c.next.result c.loop-slot.invariant.size c.loop-slot-test.true is c.loop-slot.invariant.at;
      only = table-some (λ slot state. IsSlot ray slot) c.loop-slot.after slot 9 c.next.result c.loop-slot.invariant.size c.loop-slot-test.true only c.loop-slot.invariant.only;
      states =
          table-some (λ slot state. state < length a.accept) c.loop-slot.after slot 9 c.next.result c.loop-slot.invariant.size c.loop-slot-test.true
          c.next.ensures.within c.loop-slot.invariant.states;
    }
