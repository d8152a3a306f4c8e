use Rattle.std.proofs.Common.{◌≤◌}
use Rattle.winning_sets.specs.Solve.{end_of}
use Rattle.loser_session.specs.Unwon.{AreUnwonTo}
use Rattle.loser_session.proofs.unwon_sets.unwon_plies.Given as goal

abbrev pub invariant-loop-ply : goal.invariant-loop-ply
invariant-loop-ply l = AreUnwonTo l.solved l.ply l.plies.items × (l.ply ≤ end_of l.solved)
