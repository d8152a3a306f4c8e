use Rattle.std.proofs.Common.{map, take}
use Rattle.strategy_writer.specs.KeptClaims.{as_set}
use Rattle.strategy_writer.specs.SharedWritten.{AddsSharedSets}
use Rattle.strategy_writer.proofs.writing_shared.push_shared_sets.Given as goal

abbrev pub invariant-loop-kept : goal.invariant-loop-kept
invariant-loop-kept l = AddsSharedSets (map as_set (take l.kept-index l.sets)) l.fn.out.items l.out.items
