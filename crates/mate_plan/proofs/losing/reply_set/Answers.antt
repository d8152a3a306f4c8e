use Rattle.std.proofs.Common.{Ok, Err, refl, sym, subst}
use Rattle.std.proofs.lemmas.Result.{err_from_is_err_and}
use Rattle.lin_formula.specs.SetOf.{SetOf, as_set}
use Rattle.rule_formula.specs.Fits.{masks_of}
use Rattle.rule_formula.specs.Mean.{mask_tracks}
use Rattle.set_plan.specs.Outcome.{Answers, Ends}
use Rattle.set_plan.specs.Sets.{left_of, lent, set_at}
use Rattle.set_plan.proofs.Composition.{Answers-later, Error-bind}
use Rattle.mate_plan.specs.Levels.{level_of}
use Rattle.mate_plan.specs.Plan.{Level, Program, difference, pre_items, union}
use Rattle.mate_plan.specs.PlanOf.{rules_of}
use Rattle.mate_plan.specs.declared.names.Part.TheVariants as kind
use Rattle.mate_plan.proofs.LevelLemmas.{level-grows, names-grow}
use Rattle.mate_plan.proofs.Remainders.{left_answers}
use Rattle.mate_plan.proofs.losing.reply_set.Goals as goal

pub left_without-requires-clause-one : goal.left_without-requires-clause-one
left_without-requires-clause-one c = rw c.part.ensures c.requires.calm

pub left_without-requires-clause-other : goal.left_without-requires-clause-other
left_without-requires-clause-other c = rw c.part.ensures c.requires.check

pub pre_set-requires-clause-source : goal.pre_set-requires-clause-source
pre_set-requires-clause-source c = c.in_ok-quiet.ensures.name (mask_tracks c.args.bench.now.position.now c.args.calm.stage.mask) c.requires.calm (rw c.part.ensures at c.in_ok-left.ensures.set)

pub pre_set-requires-clause-targets : goal.pre_set-requires-clause-targets
pre_set-requires-clause-targets c =
    names-grow c.args.bench.now.position.now.men c.args.work.now.sets c.keep_left.new.sets (masks_of c.args.bench.now.position.now)
    c.args.next_reach.now c.in_ok-quiet.ensures.grows c.requires.next_reach

pub returns-in_err-left-clause-answers : goal.returns-in_err-left-clause-answers
returns-in_err-left-clause-answers c =
    let p = err_from_is_err_and c.from_residual.result c.from_residual.ensures.1 in
    let calm = set_at c.args.work.now.sets c.args.calm.name in
    let reply : SetOf → Program SetOf =
    λ quiet. union (rules_of c.args.bench.now.position.now) c.args.calm.stage.ply c.args.calm.stage.mask kind.Reply
    (pre_items (rules_of c.args.bench.now.position.now) c.args.calm.stage.side c.args.calm.stage.mask quiet
    (level_of c.args.work.now.sets (masks_of c.args.bench.now.position.now) c.args.next_reach.now)) in
    rw (p.1, p.2)
    (Error-bind (difference (rules_of c.args.bench.now.position.now) c.args.calm.stage.ply c.args.calm.stage.mask kind.Quiet calm (lent c.args.check))
    reply c.args.work.now.memo.budget c.in_err-left.field-0.0
    (left_answers c.args.bench.now.position.now c.args.calm.stage.ply c.args.calm.stage.mask kind.Quiet c.part.result c.part.ensures calm
    (lent c.args.check) calm (lent c.args.check) c.budget-budget.result c.args.work.now.memo.budget refl refl c.budget-budget.ensures.is
    (left_of calm) (Err c.in_err-left.field-0.0) c.in_err-left.ensures.answers))

pub returns-clause-answers : goal.returns-clause-answers
returns-clause-answers c =
    let calm = set_at c.args.work.now.sets c.args.calm.name in
    let quiet = set_at c.keep_left.new.sets c.in_ok-quiet.quiet in
    let part : Program SetOf = difference (rules_of c.args.bench.now.position.now) c.args.calm.stage.ply c.args.calm.stage.mask kind.Quiet calm (lent c.args.check) in
    let reply : Level → SetOf → Program SetOf =
    λ level s. union (rules_of c.args.bench.now.position.now) c.args.calm.stage.ply c.args.calm.stage.mask kind.Reply
    (pre_items (rules_of c.args.bench.now.position.now) c.args.calm.stage.side c.args.calm.stage.mask s level) in
    let To : SetOf → Type 0 = λ s. Ends part c.args.work.now.memo.budget s in
    let Over : Level → Type 0 = λ level. Answers (reply level quiet) c.args.work.now.memo.budget as_set c.pre_set.result in
    Answers-later part (reply (level_of c.args.work.now.sets (masks_of c.args.bench.now.position.now) c.args.next_reach.now)) c.args.work.now.memo.budget as_set quiet
    (subst To (sym c.in_ok-quiet.ensures.set)
    (left_answers c.args.bench.now.position.now c.args.calm.stage.ply c.args.calm.stage.mask kind.Quiet c.part.result c.part.ensures calm
    (lent c.args.check) calm (lent c.args.check) c.budget-budget.result c.args.work.now.memo.budget refl refl c.budget-budget.ensures.is
    (left_of calm) (Ok c.in_ok-left.left) c.in_ok-left.ensures.answers))
    c.pre_set.result
    (subst Over
    (level-grows c.args.bench.now.position.now.men c.args.work.now.sets c.keep_left.new.sets (masks_of c.args.bench.now.position.now)
    c.args.next_reach.now c.in_ok-quiet.ensures.grows c.requires.next_reach)
    c.pre_set.ensures.answers)
