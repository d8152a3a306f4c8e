use Rattle.rule_formula.proofs.MeanTheorem.{rules_mean}
use Rattle.rule_formula.proofs.laws.formulas_mean_the_rules.Goals as goal

pub returns : goal.returns
returns c = rules_mean
