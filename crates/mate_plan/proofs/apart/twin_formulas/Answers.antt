use Rattle.std.proofs.Common.{◌∙◌}
use Rattle.mate_plan.proofs.TwinItems.{pairs_all}
use Rattle.mate_plan.proofs.apart.twin_formulas.Goals as goal

pub twins-requires : goal.twins-requires
twins-requires c = record { pairs = pairs_all c.args.bench.now.position.now c.args.mask c.as_slice.result.now (c.as_slice.ensures.value ∙ c.in_ok-all.ensures.list) }
