use Rattle.std.proofs.Common.{ℕ, ap}
use Rattle.game_rules.specs.Game.{other}
use Rattle.rule_formula.specs.Fits.{masks_of}
use Rattle.mate_plan.specs.Claim.{claimed_level}
use Rattle.mate_plan.specs.Plan.{Level, Program}
use Rattle.mate_plan.specs.PlanOf.{rules_of}
use Rattle.mate_plan.proofs.LevelLemmas.{level-grows}
use Rattle.claim_plan.specs.CheckPlan.{Finding, check_stale}
use Rattle.claim_check.specs.Ready.{claim_in}
use Rattle.claim_check.proofs.ReplyParts.{replies_grow}
use Rattle.claim_check.proofs.replies.StalematesByMaskChecks.check.Goals as goal

pub returns-clause-fits : goal.returns-clause-fits
returns-clause-fits c = replies_grow c.check_stale.new.work.sets c.check_stale.ensures.later.grows c.requires.fits

pub returns-clause-same : goal.returns-clause-same
returns-clause-same c =
    let s = c.args.self.now.claim.now in
    let r = c.args.self.now.replies.now in
    let Of : Level → ℕ → Program Finding = λ l mask. check_stale (rules_of s.position) (other s.winner) r.ply (claimed_level (claim_in s) r.ply) l mask in
    ap Of (level-grows s.position.men c.args.work.now.sets c.check_stale.new.work.sets (masks_of s.position) r.reached c.check_stale.ensures.later.grows c.requires.fits.reached)
