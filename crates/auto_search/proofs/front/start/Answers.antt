use Rattle.std.proofs.Common.{◌≡◌, ◌<◌, ◌/◌, ◌%◌, ◌∙◌, length}
use Rattle.std.proofs.lemmas.List.{length-set}
use Rattle.auto_search.specs.Search.{started}
use Rattle.auto_search.proofs.Fronts.{table-more, table-some}
use Rattle.auto_search.proofs.front.start.Goals as goal

pub loop-slot-preserved : goal.loop-slot-preserved
loop-slot-preserved c =
    let a = c.args.course.now.auto.now in
    let ray = c.args.course.now.ray.now in
    let is : c.first.result ≡ started a ray (c.loop-slot.slot / 3) (c.loop-slot.slot % 3) = rw (← c.of_slot.ensures.x, ← c.of_slot.ensures.y) c.first.ensures.started in
    record {
      size = length-set c.loop-slot.front c.loop-slot.slot c.first.result ∙ c.loop-slot.invariant.size;
      at =
          table-more (λ slot state. state ≡ started a ray (slot / 3) (slot % 3)) c.loop-slot.front c.loop-slot.slot 9 c.first.result
          c.loop-slot.invariant.size c.loop-slot-test.true is c.loop-slot.invariant.at;
      states =
          table-some (λ slot state. state < length a.accept) c.loop-slot.front c.loop-slot.slot 9 c.first.result c.loop-slot.invariant.size
          c.loop-slot-test.true c.first.ensures.within c.loop-slot.invariant.states;
    }
