use Rattle.std.proofs.Common.{◌≡◌, ℕ, Bool, suc, ◌+◌, List, sym, subst, arith}
use Rattle.auto_core.specs.Automaton.{Automaton}
use Rattle.game_rules.specs.Game.{Position}
use Rattle.game_rules.specs.declared.men.Side.{Side}
use Rattle.set_plan.specs.Sets.{Grows}
use Rattle.mate_plan.specs.Claim.{claimed_level}
use Rattle.mate_plan.specs.Levels.{AreNamesIn, level_in}
use Rattle.mate_plan.specs.Plan.{Level, Program}
use Rattle.mate_plan.specs.PlanOf.{rules_of}
use Rattle.mate_plan.specs.Questions.{are_answered}
use Rattle.claim_plan.specs.CheckPlan.{check_left, holds_by}
use Rattle.claim_plan.specs.declared.names.RuleAt.{RuleAt}
use Rattle.claim_check.specs.Finds.{Finds}
use Rattle.claim_check.specs.Ready.{claim_in}
use Rattle.claim_check.proofs.replies.check_left.Goals as goal

pub are_answered-requires-clause-from : goal.are_answered-requires-clause-from
are_answered-requires-clause-from c =
    let At : Position → Type 0 = λ p. AreNamesIn p c.args.work.now.sets c.args.replies.now.reached in
    subst At (sym c.bench-bench.ensures.position) c.requires.reached

pub are_answered-requires-clause-into : goal.are_answered-requires-clause-into
are_answered-requires-clause-into c =
    let At : Position → Type 0 = λ p. AreNamesIn p c.args.work.now.sets c.args.replies.now.later in
    subst At (sym c.bench-bench.ensures.position) c.requires.later

pub returns-clause-finds : goal.returns-clause-finds
returns-clause-finds c =
    let p = c.args.claim.now.position in
    let w = c.args.claim.now.winner in
    let r = c.args.replies.now in
    let budget = c.args.work.now.memo.budget in
    let sets = c.args.work.now.sets in
    let result = c.failed_rule_by.result in
    let asked : Side → Position → Program Bool = λ s q. are_answered (rules_of q) s (r.ply + 1) (level_in q sets r.reached) (level_in q sets r.later) c.args.mask in
    let Of : Side → Type 0 = λ s. Finds (holds_by c.rule_at.result (asked s c.bench-bench.result.position.now)) budget result in
    let At : Position → Type 0 = λ q. Finds (holds_by c.rule_at.result (asked w q)) budget result in
    let By : RuleAt → Type 0 = λ f. Finds (holds_by f (asked w p)) budget result in
    let reached = level_in p sets r.reached in
    let Into : Level → Type 0 = λ l. Finds (check_left (rules_of p) w (r.ply + 1) reached l c.args.mask) budget result in
    let later = claimed_level (claim_in c.args.claim.now) (r.ply + 2) in
    let Next : ℕ → Type 0 = λ k. Finds (check_left (rules_of p) w k reached later c.args.mask) budget result in
    let next : r.ply + 1 ≡ suc r.ply = omega arith in
    let told = c.failed_rule_by.ensures (asked c.winner.result c.bench-bench.result.position.now) budget c.are_answered.ensures.answers in
    subst Next next
    (subst Into c.requires.later_is
    (subst By c.rule_at.ensures
    (subst At c.bench-bench.ensures.position (subst Of c.winner.ensures told))))

pub returns-clause-later : goal.returns-clause-later
returns-clause-later c =
    let From : List Automaton → Type 0 = λ t. Grows c.args.work.now.sets t in
    record { grows = subst From (sym c.are_answered.ensures.sets) (λ k a is. is); budget = c.are_answered.ensures.budget }
