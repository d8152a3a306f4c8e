use Rattle.std.proofs.Common.{◌≡◌, ◌*◌, ◌^◌, ◌≤◌, map, take, length}
use Rattle.std.specs.List.{flat_map}
use Rattle.strategy_writer.specs.KeptClaims.{as_set}
use Rattle.strategy_writer.specs.Written.{set_bytes}
use Rattle.strategy_writer.proofs.writing.sets_length.Given as goal

abbrev pub invariant-loop-kept : goal.invariant-loop-kept
invariant-loop-kept l = record {
  total : l.total ≡ length (flat_map set_bytes (map as_set (take l.kept-index l.sets)));
  bound : l.total ≤ l.kept-index * 2 ^ 60;
}
