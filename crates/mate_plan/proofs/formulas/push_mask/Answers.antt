use Rattle.std.proofs.Common.{◌∙◌}
use Rattle.mate_plan.proofs.PartItems.{options_all}
use Rattle.mate_plan.proofs.formulas.push_mask.Goals as goal

pub push_images-requires : goal.push_images-requires
push_images-requires c =
    record { options = options_all c.args.bench.now.position.now.men c.args.mask c.args.stage.side c.as_slice.result.now (c.as_slice.ensures.value ∙ c.in_ok-all.ensures.list) }
