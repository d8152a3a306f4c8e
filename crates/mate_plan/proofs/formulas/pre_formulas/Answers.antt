use Rattle.std.proofs.Common.{◌∙◌}
use Rattle.mate_plan.proofs.PartItems.{options_all}
use Rattle.mate_plan.proofs.formulas.pre_formulas.Goals as goal

pub pre_options-requires : goal.pre_options-requires
pre_options-requires c =
    record {
      options = options_all c.args.bench.now.position.now.men c.args.source.stage.mask c.args.source.stage.side c.as_slice.result.now
          (c.as_slice.ensures.value ∙ c.in_ok-all.ensures.list);
    }
