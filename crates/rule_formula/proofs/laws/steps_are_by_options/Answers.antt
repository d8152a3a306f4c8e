use Rattle.rule_formula.proofs.LawTheorem.{steps_by_options}
use Rattle.rule_formula.proofs.laws.steps_are_by_options.Goals as goal

pub returns : goal.returns
returns c = steps_by_options
