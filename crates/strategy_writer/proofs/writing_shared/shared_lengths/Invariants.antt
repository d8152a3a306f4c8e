use Rattle.std.proofs.Common.{◌*◌, ◌^◌, ◌≤◌, map, take}
use Rattle.strategy_writer.specs.KeptClaims.{as_set}
use Rattle.strategy_writer.specs.SharedWritten.{HasSharedLengths}
use Rattle.strategy_writer.proofs.writing_shared.shared_lengths.Given as goal

abbrev pub invariant-loop-kept : goal.invariant-loop-kept
invariant-loop-kept l = record {
  total : HasSharedLengths (map as_set (take l.kept-index l.sets)) l.total;
  bound : l.total ≤ l.kept-index * 2 ^ 80;
}
