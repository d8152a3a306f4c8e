use Rattle.std.proofs.Common.{ap, ◌∙◌}
use Rattle.rule_formula.specs.Fits.{masks_of}
use Rattle.mate_plan.specs.Levels.{level_of}
use Rattle.mate_plan.specs.Plan.{turn_at}
use Rattle.mate_plan.specs.PlanOf.{rules_of}
use Rattle.winning_sets.proofs.Backwards.{lost_answers, won_answers}
use Rattle.winning_sets.proofs.kept.kept_at.Goals as goal

pub returns-then-from-eq0-clause-answers : goal.returns-then-from-eq0-clause-answers
returns-then-from-eq0-clause-answers c =
    let p = c.args.bench.now.position.now in
    let old = level_of c.args.work.now.sets (masks_of p) in
    let turn = c.side_at-side.ensures ∙ ap (λ s. turn_at s c.args.from.now.ply) c.turn.ensures in
    won_answers (rules_of p) p.turn c.side_at-side.result c.args.from.now.ply c.args.from.now.left (old c.args.from.now.reach.now)
    (old c.args.from.now.next_reach.now) (old c.args.from.now.next_kept.now) c.args.work.now.memo.budget
    (level_of c.win_level.new.work.sets (masks_of p)) c.win_level.result turn c.if-from-eq0.true c.win_level.ensures.answers

pub returns-else-from-eq0-clause-answers : goal.returns-else-from-eq0-clause-answers
returns-else-from-eq0-clause-answers c =
    let p = c.args.bench.now.position.now in
    let old = level_of c.args.work.now.sets (masks_of p) in
    let turn = c.side_at-side.ensures ∙ ap (λ s. turn_at s c.args.from.now.ply) c.turn.ensures in
    lost_answers (rules_of p) p.turn c.side_at-side.result c.args.from.now.ply c.args.from.now.left (old c.args.from.now.reach.now)
    (old c.args.from.now.next_reach.now) (old c.args.from.now.next_kept.now) c.args.work.now.memo.budget
    (level_of c.lost_level.new.work.sets (masks_of p)) c.lost_level.result turn c.if-from-eq0.false c.lost_level.ensures.answers
