use Rattle.claim_plan.proofs.CheckAnswers.{holds_by-ends, holds_by-error}
use Rattle.claim_check.proofs.rules.failed_rule_by.Goals as goal

pub returns-in-Ok : goal.returns-in-Ok
returns-in-Ok c = λ program budget h. rw c.failed_rule.ensures (holds_by-ends budget c.args.rule program c.in-Ok.kept (rw c.in-Ok.is at h))

pub returns-in-Err : goal.returns-in-Err
returns-in-Err c = λ program budget h. holds_by-error budget c.args.rule program c.in-Err.error (rw c.in-Err.is at h)
