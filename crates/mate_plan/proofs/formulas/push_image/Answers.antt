use Rattle.rule_formula.proofs.MeanTheorem.{game_means}
use Rattle.mate_plan.proofs.UnionAnswers.{game_on}
use Rattle.mate_plan.proofs.formulas.push_image.Goals as goal

pub target-requires : goal.target-requires
target-requires c low =
    (game_means (game_on c.args.bench.now)).taken c.args.from.mask
    c.args.option c.requires.option low
