use Rattle.std.proofs.Common.{◌≡◌}
use Rattle.mask_sets.specs.Sets.{IsIn}
use Rattle.loser_session.proofs.AnyMoves.{NoMan}
use Rattle.loser_session.proofs.any_move.has_move_into.Given as goal

abbrev pub invariant-loop-man : goal.invariant-loop-man
invariant-loop-man l = (l.search ≡ l.initial.search) × NoMan (IsIn l.fn.sets) l.fn.p l.man
