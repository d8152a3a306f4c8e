use Rattle.std.proofs.lemmas.Result.{IfOk-weaker}
use Rattle.rule_formula.proofs.MasksTheorem.{masks_are}
use Rattle.mate_plan.proofs.StartAnswers.{one_names, one_level_of}
use Rattle.mate_plan.proofs.starting.one_level.Goals as goal

pub returns-clause-level : goal.returns-clause-level
returns-clause-level c =
    let there = (masks_are c.args.bench.now.position.now c.args.mask).1 c.requires.mask in
    IfOk-weaker c.level_at.result _ _ (λ names are sets. one_level_of c.args.bench.now.position.now c.args.mask c.args.name names are there sets) c.level_at.ensures

pub returns-clause-names : goal.returns-clause-names
returns-clause-names c = IfOk-weaker c.level_at.result _ _ (λ names are sets on. one_names c.args.bench.now.position.now c.args.mask c.args.name names are sets on) c.level_at.ensures
