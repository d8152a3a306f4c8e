use Rattle.std.proofs.Common.{Bool, sym, ap, ◌∙◌, subst}
use Rattle.game_rules.specs.Game.{Position, other}
use Rattle.game_rules.specs.declared.men.Side.{Side}
use Rattle.rule_formula.specs.Fits.{IsGameMask}
use Rattle.mate_plan.specs.Levels.{AreNamesIn, level_in}
use Rattle.mate_plan.specs.Plan.{Level, Program}
use Rattle.mate_plan.specs.PlanOf.{rules_of}
use Rattle.mate_plan.specs.Questions.{have_replies}
use Rattle.claim_plan.specs.CheckPlan.{holds_by, rule_at}
use Rattle.claim_plan.specs.declared.names.Rule.TheVariants as rule
use Rattle.claim_plan.specs.declared.names.RuleAt.{RuleAt}
use Rattle.claim_check.specs.Finds.{Finds}
use Rattle.claim_check.proofs.replies.check_stale.Goals as goal

pub have_replies-requires-clause-mask : goal.have_replies-requires-clause-mask
have_replies-requires-clause-mask c =
    let At : Position → Type 0 = λ p. IsGameMask p c.args.mask in
    subst At (sym c.bench-bench.ensures.position) c.requires.mask

pub have_replies-requires-clause-from : goal.have_replies-requires-clause-from
have_replies-requires-clause-from c =
    let At : Position → Type 0 = λ p. AreNamesIn p c.args.work.now.sets c.args.replies.now.claimed in
    subst At (sym c.bench-bench.ensures.position) c.requires.replies.claimed

pub have_replies-requires-clause-into : goal.have_replies-requires-clause-into
have_replies-requires-clause-into c =
    let At : Position → Type 0 = λ p. AreNamesIn p c.args.work.now.sets c.args.replies.now.reached in
    subst At (sym c.bench-bench.ensures.position) c.requires.replies.reached

pub returns-clause-finds : goal.returns-clause-finds
returns-clause-finds c =
    let p = c.args.claim.now.position in
    let w = other c.args.claim.now.winner in
    let r = c.args.replies.now in
    let budget = c.args.work.now.memo.budget in
    let sets = c.args.work.now.sets in
    let result = c.failed_rule_by.result in
    let asked : Side → Position → Program Bool = λ s q. have_replies (rules_of q) s r.ply (level_in q sets r.claimed) (level_in q sets r.reached) c.args.mask in
    let Of : Side → Type 0 = λ s. Finds (holds_by c.rule_at.result (asked s c.bench-bench.result.position.now)) budget result in
    let At : Position → Type 0 = λ q. Finds (holds_by c.rule_at.result (asked w q)) budget result in
    let By : RuleAt → Type 0 = λ f. Finds (holds_by f (asked w p)) budget result in
    let From : Level → Type 0 = λ l. Finds (holds_by (rule_at r.ply c.args.mask rule.Stale) (have_replies (rules_of p) w r.ply l (level_in p sets r.reached) c.args.mask)) budget result in
    let told = c.failed_rule_by.ensures (asked c.other.result c.bench-bench.result.position.now) budget c.have_replies.ensures.answers in
    subst From c.requires.replies.claimed_is (subst By c.rule_at.ensures (subst At c.bench-bench.ensures.position (subst Of (c.other.ensures ∙ ap other c.winner.ensures) told)))
