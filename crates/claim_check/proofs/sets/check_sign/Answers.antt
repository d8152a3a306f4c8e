use Rattle.claim_check.proofs.SetParts.{kept_tells, sign_ends}
use Rattle.claim_check.proofs.sets.check_sign.Goals as goal

pub returns-clause-finds : goal.returns-clause-finds
returns-clause-finds c = rw (c.failed_rule.ensures, c.rule_at.ensures) (λ budget. sign_ends budget c.args.ply c.args.mask c.args.set.now c.in_ok-stable.stable c.in_ok-stable.ensures)

pub returns-clause-signed : goal.returns-clause-signed
returns-clause-signed c = rw c.failed_rule.ensures (kept_tells c.rule_at.result c.in_ok-stable.stable _ c.in_ok-stable.ensures.0)
