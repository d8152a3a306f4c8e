use Rattle.std.proofs.Common.{ap, ◌∙◌}
use Rattle.mask_sets.specs.Stock.{mask_of}
use Rattle.mask_sets.proofs.Masks.{mask_one}
use Rattle.claim_plan.specs.CheckPlan.{rule_at}
use Rattle.claim_plan.specs.declared.names.Rule.TheVariants as rule
use Rattle.claim_check.proofs.first.first_rule.Goals as goal

pub returns : goal.returns
returns c = c.rule_at.ensures ∙ ap (λ m. rule_at 0 m rule.First) (mask_one c.mask.ensures ∙ ap mask_of c.bench-bench.ensures.position)
