use Rattle.std.proofs.Common.{◌≡◌, ◌*◌, length}
use Rattle.auto_core.specs.Prefix.{ArePrefixRows}
use Rattle.auto_core.proofs.value.prefix_rows.Given as goal

abbrev pub invariant-loop-left : goal.invariant-loop-left
invariant-loop-left l = record {
  size : length l.rows.items ≡ l.left * 2;
  rows : ArePrefixRows l.value l.left l.rows.items;
}
