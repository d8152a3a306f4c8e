use Rattle.std.proofs.Common.{◌≡◌, ◌≢◌, ◌<◌, ℕ, true, false, get_or}
use Rattle.auto_reduce.proofs.unmet.Done.remove_all.Given as goal

abbrev pub invariant-loop-node : goal.invariant-loop-node
invariant-loop-node l = (node : ℕ) → get_or l.self node false ≡ true → (get_or l.initial.self node false ≡ true) × ((k : ℕ) → k < l.node-index → get_or l.nodes k 0 ≢ node)
