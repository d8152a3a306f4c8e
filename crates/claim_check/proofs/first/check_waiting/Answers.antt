use Rattle.std.proofs.Common.{true, false}
use Rattle.lin_formula.specs.SetOf.{Member}
use Rattle.mask_sets.specs.Stock.{mask_of}
use Rattle.mask_sets.specs.Tuple.{tuple_of}
use Rattle.set_plan.specs.Program.{Ask, Give, Has}
use Rattle.mate_plan.specs.Claim.{claimed_level}
use Rattle.claim_plan.specs.CheckPlan.{rule_at}
use Rattle.claim_plan.specs.declared.names.Rule.TheVariants as rule
use Rattle.claim_plan.proofs.CheckAnswers.{holds_by-ends}
use Rattle.claim_check.specs.Ready.{claim_in}
use Rattle.claim_check.proofs.FindLemmas.{asked_ends}
use Rattle.claim_check.proofs.first.check_waiting.Goals as goal

pub returns : goal.returns
returns c =
    let p = c.args.claim.now.position in
    let s = claimed_level (claim_in c.args.claim.now) 0 (mask_of p) in
    rw (c.failed_rule.ensures, c.first_rule.ensures)
    (λ budget. holds_by-ends budget (rule_at 0 (mask_of p) rule.First) (Ask (Has s (tuple_of p)) (Give true) (Give false)) c.is_claimed.result
    (asked_ends budget (Has s (tuple_of p)) (Member s (tuple_of p)) c.is_claimed.result c.is_claimed.ensures (λ h. h) (λ h. h)))
