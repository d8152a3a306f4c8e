use Rattle.std.proofs.Common.{◌≡◌, ◌<◌, ℕ, length}
use Rattle.auto_refine.proofs.Stales.{IsPutTo}
use Rattle.auto_refine.proofs.put.put.Given as goal

abbrev pub invariant-loop-i : goal.invariant-loop-i
invariant-loop-i g l = record {
  size : length l.list ≡ length l.initial.list;
  each : (place : ℕ) → place < length l.initial.list → IsPutTo l.initial.list l.places l.values l.list l.i place;
}
