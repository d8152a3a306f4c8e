use Rattle.std.proofs.Common.{◌<◌, ◌≤◌, ℕ}
use Rattle.game_trials.specs.Kings.{IsFineAt}
use Rattle.game_trials.proofs.kings.is_sound.Given as goal

abbrev pub invariant-loop-number : goal.invariant-loop-number
invariant-loop-number l = (k : ℕ) → 1 ≤ k → k < l.number → IsFineAt l.p k
