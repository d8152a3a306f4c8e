use Rattle.std.proofs.Common.{◌≡◌, ◌≤◌, ◌*◌, pos, take}
use Rattle.std.specs.List.{sum_by}
use Rattle.auto_core.specs.Sums.{gain, loss}
use Rattle.auto_core.proofs.lin.reach.Given as goal

abbrev pub invariant-loop-weight : goal.invariant-loop-weight
invariant-loop-weight l = record {
  most : l.most ≡ pos (sum_by gain (take l.weight-index l.weights));
  least : l.least ≡ pos (sum_by loss (take l.weight-index l.weights));
  most_small : sum_by gain (take l.weight-index l.weights) ≤ 64 * l.weight-index;
  least_small : sum_by loss (take l.weight-index l.weights) ≤ 64 * l.weight-index;
}
