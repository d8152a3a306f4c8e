use Rattle.std.proofs.Common.{ℕ, Bool, sym, subst}
use Rattle.std.proofs.lemmas.Result.{err_from_is_err_and}
use Rattle.game_rules.specs.Game.{Position}
use Rattle.mask_sets.specs.Stock.{mask_of}
use Rattle.mask_sets.specs.Tuple.{tuple_of}
use Rattle.mate_plan.specs.Levels.{AreNamesIn, level_in}
use Rattle.mate_plan.specs.Plan.{Program}
use Rattle.mate_plan.specs.PlanOf.{rules_of}
use Rattle.mate_plan.specs.Questions.{has_first_move}
use Rattle.claim_plan.specs.CheckPlan.{check_moving, holds_by}
use Rattle.claim_plan.specs.declared.names.RuleAt.{RuleAt}
use Rattle.claim_check.specs.Ready.{claim_in}
use Rattle.claim_check.specs.Finds.{Finds}
use Rattle.claim_check.proofs.FirstParts.{moving_finds}
use Rattle.claim_check.proofs.first.check_moving.Goals as goal

pub returns-in_err-level-clause-finds : goal.returns-in_err-level-clause-finds
returns-in_err-level-clause-finds c =
    let e = err_from_is_err_and c.from_residual.result c.from_residual.ensures.1 in
    rw (e.1, e.2) tt

pub has_first_move-requires : goal.has_first_move-requires
has_first_move-requires c =
    let At : Position → Type 0 = λ p. AreNamesIn p c.claimed_level.new.work.sets c.in_ok-level.level in
    record { into = subst At (sym c.bench-bench.ensures.position) c.in_ok-level.ensures.names }

pub returns-clause-finds : goal.returns-clause-finds
returns-clause-finds c =
    let d = claim_in c.args.claim.now in
    let r = c.failed_rule_by.result in
    let level = level_in d.position c.claimed_level.new.work.sets c.in_ok-level.level in
    let asked : Position → Program Bool = λ p. has_first_move (rules_of p) p.turn (mask_of p) (tuple_of p) (level_in p c.claimed_level.new.work.sets c.in_ok-level.level) in
    let At : Position → Type 0 = λ p. Finds (holds_by c.first_rule-rule.result (asked p)) c.claimed_level.new.work.memo.budget r in
    let By : RuleAt → Type 0 = λ f. Finds (holds_by f (asked d.position)) c.args.work.now.memo.budget r in
    let Within : ℕ → Type 0 = λ b. Finds (holds_by c.first_rule-rule.result (asked d.position)) b r in
    let Moves : ℕ → Type 0 = λ n. Finds (check_moving d n) c.args.work.now.memo.budget r in
    subst Moves c.moves.ensures.moves
    (moving_finds d c.args.work.now.memo.budget c.moves.result r c.if-moves-eq0.false c.requires.turn level c.in_ok-level.ensures.level
    (subst By c.first_rule-rule.ensures (subst Within c.in_ok-level.ensures.later.budget
    (subst At c.bench-bench.ensures.position (c.failed_rule_by.ensures (asked c.bench-bench.result.position.now) c.claimed_level.new.work.memo.budget c.has_first_move.ensures.answers)))))
