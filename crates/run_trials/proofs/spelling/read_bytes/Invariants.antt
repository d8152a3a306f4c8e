use Rattle.std.proofs.Common.{ℕ, List, ◌++◌, length}
use Rattle.run_trials.specs.Spelling.{Spells}
use Rattle.run_trials.proofs.spelling.read_bytes.Given as goal

abbrev pub invariant-loop-rest : goal.invariant-loop-rest
invariant-loop-rest l =
    record {
      spelled : (more : List ℕ) → Spells l.rest more → Spells l.text (l.bytes.items ++ more);
    }

abbrev pub decreases-loop-rest : goal.decreases-loop-rest
decreases-loop-rest l = length l.rest
