use Rattle.std.proofs.Common.{◌≡◌, [], vec_len, All}
use Rattle.auto_predecessors.proofs.ways.no_lists.Given as goal

abbrev pub invariant-loop : goal.invariant-loop
invariant-loop g l = record {
  size : vec_len l.lists ≡ l.counter;
  none : All (λ list. list.items ≡ []) l.lists.items;
}
