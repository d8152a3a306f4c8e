use Rattle.std.proofs.Common.{sym, ◌∙◌}
use Rattle.winning_sets.proofs.Tuples.{turn_even, turn_odd}
use Rattle.loser_session.proofs.plies.side_at.Goals as goal

pub returns-then-ply-eq0 : goal.returns-then-ply-eq0
returns-then-ply-eq0 c = sym (turn_even c.args.first c.args.ply c.if-ply-eq0.true)

pub returns-else-ply-eq0 : goal.returns-else-ply-eq0
returns-else-ply-eq0 c = c.other.ensures ∙ sym (turn_odd c.args.first c.args.ply c.if-ply-eq0.false)
