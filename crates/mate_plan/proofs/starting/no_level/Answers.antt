use Rattle.std.proofs.lemmas.Result.{IfOk-weaker}
use Rattle.mate_plan.proofs.StartAnswers.{none_level, none_names}
use Rattle.mate_plan.proofs.starting.no_level.Goals as goal

pub returns-clause-level : goal.returns-clause-level
returns-clause-level c = IfOk-weaker c.level_at.result _ _ (λ names are sets. none_level c.args.bench.now.position.now c.mask.result names are sets) c.level_at.ensures

pub returns-clause-names : goal.returns-clause-names
returns-clause-names c = IfOk-weaker c.level_at.result _ _ (λ names are sets. none_names c.args.bench.now.position.now c.mask.result names are sets) c.level_at.ensures
