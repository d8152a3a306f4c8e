use Rattle.std.proofs.Common.{◌<◌, ℕ}
use Rattle.game_trials.specs.Kings.{AreCompatibleAt}
use Rattle.game_trials.proofs.kings.suits_later_men.Given as goal

abbrev pub invariant-loop-later : goal.invariant-loop-later
invariant-loop-later l = (k : ℕ) → l.number < k → k < l.later → AreCompatibleAt l.p l.number k
