use Rattle.std.proofs.Common.{◌-◌, ◌+◌, ◌<◌, length, min}
use Rattle.std.specs.List.{All}
use Rattle.auto_refine.specs.Refining.{LeadsInto, IsRefined}
use Rattle.auto_refine.proofs.partition.wide_rounds.Given as goal

abbrev pub invariant-loop-alloc : goal.invariant-loop-alloc
invariant-loop-alloc l = record {
  refined : IsRefined l.a l.refining (LeadsInto l.a l.moved.items);
  within : All (λ state. state < length l.a.accept) l.moved.items;
}

abbrev pub decreases-loop-alloc : goal.decreases-loop-alloc
decreases-loop-alloc l = length l.a.accept - l.refining.partition.count + min 1 (length l.moved.items)
