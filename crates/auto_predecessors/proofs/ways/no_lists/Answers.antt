use Rattle.std.proofs.Common.{arith, ◌≡◌, []}
use Rattle.std.proofs.lemmas.Grind.{common_steps}
use Rattle.std.proofs.lemmas.List.Elements.{All-push}
use Rattle.auto_predecessors.proofs.ways.no_lists.Goals as goal

pub loop-preserved : goal.loop-preserved
loop-preserved g c = record {
  size = grind (arith, common_steps);
  none = rw c.in_ok-push.ensures.items (All-push (λ list. list.items ≡ []) c.loop.lists.items c.new.result c.loop.invariant.none c.new.ensures.items);
}
