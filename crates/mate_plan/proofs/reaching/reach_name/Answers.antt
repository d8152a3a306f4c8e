use Rattle.rule_formula.specs.Mean.{mask_tracks}
use Rattle.mate_plan.proofs.LevelLemmas.{on_from_kept}
use Rattle.mate_plan.proofs.reaching.reach_name.Goals as goal

pub returns-clause-answers : goal.returns-clause-answers
returns-clause-answers c = rw c.in_ok-keep.ensures.ok c.in_ok-set.ensures.answers

pub returns-clause-name : goal.returns-clause-name
returns-clause-name c =
    on_from_kept (mask_tracks c.args.bench.now.position.now c.args.mask) c.keep.new.self c.in_ok-set.set c.in_ok-keep.field-0 c.in_ok-set.ensures.set
    c.in_ok-keep.ensures.ok c.in_ok-keep.ensures.within
