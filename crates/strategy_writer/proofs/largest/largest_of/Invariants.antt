use Rattle.std.proofs.Common.{ℕ, ◌≤◌, All, take}
use Rattle.strategy_writer.proofs.LargestSets.{KeepsAtMost}
use Rattle.strategy_writer.proofs.largest.largest_of.Given as goal

abbrev pub invariant-loop-kept : goal.invariant-loop-kept
invariant-loop-kept l = record {
  within : All (KeepsAtMost l.most) (take l.kept-index l.sets);
  least : (n : ℕ) → All (KeepsAtMost n) l.sets → l.most ≤ n;
}
