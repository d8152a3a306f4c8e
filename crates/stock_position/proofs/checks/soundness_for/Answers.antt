use Rattle.stock_position.proofs.Reasons.{ok_exactly}
use Rattle.stock_position.proofs.checks.soundness_for.Goals as goal

pub returns-clause-ok : goal.returns-clause-ok
returns-clause-ok c = ok_exactly c.check_for.result c.args.winner c.args.p.now c.check_for.ensures.ok c.check_for.ensures.reason
