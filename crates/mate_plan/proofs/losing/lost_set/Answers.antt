use Rattle.std.proofs.Common.{◌≡◌, Ok, Err, ◌∙◌}
use Rattle.std.proofs.lemmas.Result.{err_from_is_err_and}
use Rattle.lin_formula.specs.SetOf.{as_set}
use Rattle.rule_formula.specs.Fits.{masks_of}
use Rattle.rule_formula.specs.Mean.{mask_tracks}
use Rattle.set_plan.specs.Sets.{lent, set_at}
use Rattle.mate_plan.specs.Levels.{level_of}
use Rattle.mate_plan.specs.PlanOf.{rules_of}
use Rattle.mate_plan.proofs.LevelLemmas.{grows-grows, names-grow}
use Rattle.mate_plan.proofs.LostParts.{calm_error, check_error, last_answers, last_here, lent-copied, on-copied, reply_error, reply_here}
use Rattle.mate_plan.proofs.losing.lost_set.Goals as goal

pub reply_set-requires-clause-check : goal.reply_set-requires-clause-check
reply_set-requires-clause-check c = on-copied (mask_tracks c.args.bench.now.position.now c.args.reach.stage.mask) c.as_ref.result c.in_ok-check.check c.as_ref.ensures.value c.in_ok-check.ensures.set

pub reply_set-requires-clause-next_reach : goal.reply_set-requires-clause-next_reach
reply_set-requires-clause-next_reach c =
    names-grow c.args.bench.now.position.now.men c.args.work.now.sets c.calm_name.new.work.sets (masks_of c.args.bench.now.position.now)
    c.args.next_reach.now c.in_ok-name.ensures.later.grows c.requires.next_reach

pub joined-requires-clause-first : goal.joined-requires-clause-first
joined-requires-clause-first c = rw c.part-part.ensures c.in_ok-check.ensures.set

pub joined-requires-clause-second : goal.joined-requires-clause-second
joined-requires-clause-second c = rw c.part-part.ensures c.in_ok-reply.ensures.set

pub returns-in_err-name-clause-answers : goal.returns-in_err-name-clause-answers
returns-in_err-name-clause-answers c =
    let p = err_from_is_err_and c.from_residual.result c.from_residual.ensures.1 in
    let masks = masks_of c.args.bench.now.position.now in
    rw (p.1, p.2)
    (calm_error (rules_of c.args.bench.now.position.now) c.args.reach.stage.side c.args.reach.stage.ply c.args.reach.stage.mask
    (set_at c.args.work.now.sets c.args.reach.name) (level_of c.args.work.now.sets masks c.args.next_reach.now)
    (level_of c.args.work.now.sets masks c.args.rests.now) c.args.work.now.memo.budget c.in_err-name.field-0.0 c.in_err-name.ensures.answers)

pub returns-in_err-check-clause-answers : goal.returns-in_err-check-clause-answers
returns-in_err-check-clause-answers c =
    let p = err_from_is_err_and c.from_residual-in_err-check.result c.from_residual-in_err-check.ensures.1 in
    let masks = masks_of c.args.bench.now.position.now in
    let error = rw c.in_ok-name.ensures.later.budget at c.in_err-check.ensures.answers in
    rw (p.1, p.2)
    (check_error (rules_of c.args.bench.now.position.now) c.args.reach.stage.side c.args.reach.stage.ply c.args.reach.stage.mask
    (set_at c.args.work.now.sets c.args.reach.name) (level_of c.args.work.now.sets masks c.args.next_reach.now)
    (level_of c.args.work.now.sets masks c.args.rests.now) c.args.work.now.memo.budget (set_at c.calm_name.new.work.sets c.in_ok-name.name)
    c.in_err-check.field-0.0 c.in_ok-name.ensures.answers error)

pub returns-in_err-reply-clause-answers : goal.returns-in_err-reply-clause-answers
returns-in_err-reply-clause-answers c =
    let p = err_from_is_err_and c.from_residual-in_err-reply.result c.from_residual-in_err-reply.ensures.1 in
    let masks = masks_of c.args.bench.now.position.now in
    let calm = set_at c.calm_name.new.work.sets c.in_ok-name.name in
    let second = rw c.in_ok-name.ensures.later.budget at c.in_ok-check.ensures.answers in
    rw (p.1, p.2)
    (reply_error (rules_of c.args.bench.now.position.now) c.args.reach.stage.side c.args.reach.stage.ply c.args.reach.stage.mask
    (set_at c.args.work.now.sets c.args.reach.name) (level_of c.args.work.now.sets masks c.args.next_reach.now)
    (level_of c.args.work.now.sets masks c.args.rests.now) c.args.work.now.memo.budget calm (as_set c.in_ok-check.check) c.in_err-reply.field-0.0
    c.in_ok-name.ensures.answers second
    (reply_here c.args.bench.now.position.now c.args.reach.stage.side c.args.reach.stage.ply c.args.reach.stage.mask c.check_set.new.memo.budget
    c.args.work.now.memo.budget (c.in_ok-check.ensures.budget ∙ c.in_ok-name.ensures.later.budget) c.args.work.now.sets c.calm_name.new.work.sets
    c.args.next_reach.now calm (as_set c.in_ok-check.check) (lent c.as_ref.result) c.in_ok-name.ensures.later.grows c.requires.next_reach
    (lent-copied c.as_ref.result c.in_ok-check.check c.as_ref.ensures.value) as_set (Err c.in_err-reply.field-0.0) c.in_err-reply.ensures.answers))

pub returns-clause-answers : goal.returns-clause-answers
returns-clause-answers c =
    let masks = masks_of c.args.bench.now.position.now in
    let calm = set_at c.calm_name.new.work.sets c.in_ok-name.name in
    let check = as_set c.in_ok-check.check in
    let second = rw c.in_ok-name.ensures.later.budget at c.in_ok-check.ensures.answers in
    let kept : c.check_set.new.memo.budget ≡ c.args.work.now.memo.budget = c.in_ok-check.ensures.budget ∙ c.in_ok-name.ensures.later.budget in
    last_answers (rules_of c.args.bench.now.position.now) c.args.reach.stage.side c.args.reach.stage.ply c.args.reach.stage.mask
    (set_at c.args.work.now.sets c.args.reach.name) (level_of c.args.work.now.sets masks c.args.next_reach.now)
    (level_of c.args.work.now.sets masks c.args.rests.now) c.args.work.now.memo.budget as_set calm check (as_set c.in_ok-reply.reply)
    c.joined.result c.in_ok-name.ensures.answers second
    (reply_here c.args.bench.now.position.now c.args.reach.stage.side c.args.reach.stage.ply c.args.reach.stage.mask c.check_set.new.memo.budget
    c.args.work.now.memo.budget kept c.args.work.now.sets c.calm_name.new.work.sets c.args.next_reach.now calm check (lent c.as_ref.result)
    c.in_ok-name.ensures.later.grows c.requires.next_reach
    (lent-copied c.as_ref.result c.in_ok-check.check c.as_ref.ensures.value) as_set (Ok c.in_ok-reply.reply) c.in_ok-reply.ensures.answers)
    (last_here c.args.bench.now.position.now c.args.reach.stage.side c.args.reach.stage.ply c.args.reach.stage.mask c.budget.result
    c.args.work.now.memo.budget (c.budget.ensures.is ∙ c.in_ok-reply.ensures.later.budget ∙ kept) c.part-part.result check
    (as_set c.in_ok-reply.reply) c.part-part.ensures as_set c.joined.result c.joined.ensures.answers)

pub returns-clause-set : goal.returns-clause-set
returns-clause-set c = rw c.part-part.ensures at c.joined.ensures.set

pub returns-in_err-reply-clause-later : goal.returns-in_err-reply-clause-later
returns-in_err-reply-clause-later c =
    record {
      grows = grows-grows c.args.work.now.sets c.calm_name.new.work.sets c.reply_set.new.work.sets c.in_ok-name.ensures.later.grows c.in_err-reply.ensures.later.grows;
      budget = c.in_err-reply.ensures.later.budget ∙ c.in_ok-check.ensures.budget ∙ c.in_ok-name.ensures.later.budget;
    }
