use Rattle.std.proofs.lemmas.Result.{err_from_is_err_and}
use Rattle.rule_formula.specs.Fits.{masks_of}
use Rattle.mate_plan.specs.Levels.{level_in}
use Rattle.mate_plan.proofs.LevelLemmas.{names-grow}
use Rattle.mate_plan.proofs.LostLevels.{lost_answers, rests_error}
use Rattle.mate_plan.proofs.losing.lost_level.Goals as goal

pub level_by-requires-2 : goal.level_by-requires-2
level_by-requires-2 c =
    let p = c.args.bench.now.position.now in
    let from = c.args.from.now in
    let new = c.level_by.new.work.sets in
    let grows = c.in_ok-rests.ensures.later.grows in
    record {
      fits = (
        names-grow p.men c.args.work.now.sets new (masks_of p) from.reach.now grows c.requires.reach,
        names-grow p.men c.args.work.now.sets new (masks_of p) from.next_reach.now grows c.requires.next_reach,
        c.in_ok-rests.ensures.names,
      );
    }

pub returns-in_err-rests-clause-answers : goal.returns-in_err-rests-clause-answers
returns-in_err-rests-clause-answers c =
    let e = err_from_is_err_and c.from_residual.result c.from_residual.ensures.1 in
    let from = c.args.from.now in
    rw (e.1, e.2)
    (rests_error c.args.bench.now.position.now from.side from.ply c.args.work.now.memo.budget c.args.work.now.sets from.reach.now from.next_reach.now
    from.next_kept.now c.in_err-rests.field-0.0 c.in_err-rests.ensures.answers)

pub returns-clause-answers : goal.returns-clause-answers
returns-clause-answers c =
    let p = c.args.bench.now.position.now in
    let from = c.args.from.now in
    let ended = rw c.in_ok-rests.ensures.later.budget at c.level_by-2.ensures.answers in
    lost_answers p from.side from.ply c.args.work.now.memo.budget c.args.work.now.sets from.reach.now from.next_reach.now from.next_kept.now
    (level_in p c.level_by-2.new.work.sets) c.level_by-2.result c.level_by.new.work.sets c.in_ok-rests.rests c.in_ok-rests.ensures.later.grows
    c.requires.reach c.requires.next_reach c.in_ok-rests.ensures.answers ended
