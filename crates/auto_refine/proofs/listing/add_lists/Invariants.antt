use Rattle.std.proofs.Common.{◌≡◌, ◌++◌, [], map, replicate}
use Rattle.auto_refine.proofs.listing.add_lists.Given as goal

abbrev pub invariant-loop : goal.invariant-loop
invariant-loop l = record {
  lists : map (λ list. list.items) l.lists.items ≡ map (λ list. list.items) l.initial.lists.items ++ replicate l.counter [];
}
