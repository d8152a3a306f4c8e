use Rattle.std.proofs.Common.{◌≡◌, ◌++◌, take, drop}
use Rattle.track_word.specs.Tracks.{with_var}
use Rattle.lin_formula.proofs.free.put.Given as goal

abbrev pub invariant-loop-at : goal.invariant-loop-at
invariant-loop-at l = record {
  kept : l.into.items ≡ l.fn.into.items;
  passed : with_var l.var l.into.items ≡ take l.at l.into.items ++ with_var l.var (drop l.at l.into.items);
}
