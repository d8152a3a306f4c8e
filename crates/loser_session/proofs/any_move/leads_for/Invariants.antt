use Rattle.std.proofs.Common.{◌≡◌}
use Rattle.mask_sets.specs.Sets.{IsIn}
use Rattle.loser_session.proofs.AnyMoves.{NoneBelow}
use Rattle.loser_session.proofs.any_move.leads_for.Given as goal

abbrev pub invariant-loop-number : goal.invariant-loop-number
invariant-loop-number l = (l.search ≡ l.initial.search) × NoneBelow (IsIn l.aim.sets.now) l.aim.position.now l.man l.number
