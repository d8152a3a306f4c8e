use Rattle.std.proofs.Common.{Bool, sym, subst}
use Rattle.game_rules.specs.Game.{Position}
use Rattle.rule_formula.specs.Fits.{IsGameMask}
use Rattle.mate_plan.specs.Levels.{AreNamesIn, level_in}
use Rattle.mate_plan.specs.Plan.{Program}
use Rattle.mate_plan.specs.PlanOf.{rules_of}
use Rattle.mate_plan.specs.Questions.{are_safe}
use Rattle.claim_plan.specs.CheckPlan.{holds_by}
use Rattle.claim_plan.specs.declared.names.RuleAt.{RuleAt}
use Rattle.claim_check.specs.Finds.{Finds}
use Rattle.claim_check.proofs.sets.check_guard.Goals as goal

pub are_safe-requires-clause-mask : goal.are_safe-requires-clause-mask
are_safe-requires-clause-mask c =
    let At : Position → Type 0 = λ p. IsGameMask p c.args.at.now.stage.mask in
    subst At (sym c.bench-bench.ensures.position) c.requires.mask

pub are_safe-requires-clause-level : goal.are_safe-requires-clause-level
are_safe-requires-clause-level c =
    let At : Position → Type 0 = λ p. AreNamesIn p c.args.work.now.sets c.args.at.now.level.now in
    subst At (sym c.bench-bench.ensures.position) c.requires.level

pub returns-clause-finds : goal.returns-clause-finds
returns-clause-finds c =
    let stage = c.args.at.now.stage in
    let budget = c.args.work.now.memo.budget in
    let asked : Position → Program Bool = λ p. are_safe (rules_of p) stage.side stage.ply stage.mask (level_in p c.args.work.now.sets c.args.at.now.level.now stage.mask) in
    let By : RuleAt → Type 0 = λ f. Finds (holds_by f (asked c.args.claim.now.position)) budget c.failed_rule_by.result in
    let At : Position → Type 0 = λ p. Finds (holds_by c.rule_at-rule.result (asked p)) budget c.failed_rule_by.result in
    subst By c.rule_at-rule.ensures (subst At c.bench-bench.ensures.position (c.failed_rule_by.ensures (asked c.bench-bench.result.position.now) budget c.are_safe.ensures.answers))
