use Rattle.std.proofs.Common.{◌∙◌}
use Rattle.mate_plan.proofs.PartItems.{bearings_all}
use Rattle.mate_plan.proofs.UnionAnswers.{game_on}
use Rattle.mate_plan.proofs.formulas.bear_formulas.Goals as goal

pub bears-requires : goal.bears-requires
bears-requires c =
    bearings_all c.args.bench.now.position.now c.args.mask c.args.side c.as_slice.result.now
    (game_on c.args.bench.now) c.requires.mask (c.as_slice.ensures.value ∙ c.in_ok-all.ensures.list)
