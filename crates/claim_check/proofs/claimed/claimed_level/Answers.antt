use Rattle.std.proofs.Common.{subst}
use Rattle.game_rules.specs.Game.{Position}
use Rattle.rule_formula.specs.Fits.{masks_of}
use Rattle.set_plan.specs.Outcome.{Ends}
use Rattle.mate_plan.specs.Levels.{AreNamesIn, level_in}
use Rattle.mate_plan.specs.Plan.{for_masks, no_sets}
use Rattle.claim_check.specs.Ready.{claim_in}
use Rattle.claim_check.proofs.ClaimedLevels.{given, given_goes_on, given_level}
use Rattle.claim_check.proofs.claimed.claimed_level.Goals as goal

pub level_by-requires : goal.level_by-requires
level_by-requires c = record { fits = (c.requires, c.bench-bench.ensures.position) }

pub returns-in-Ok-clause-level : goal.returns-in-Ok-clause-level
returns-in-Ok-clause-level c =
    let d = claim_in c.args.claim.now in
    let budget = c.args.work.now.memo.budget in
    let new = c.level_by.new.work.sets in
    let At : Position → Type 0 = λ p. Ends (for_masks (masks_of p) (given d c.args.ply) no_sets) budget (level_in p new c.in-Ok.level) in
    given_level d c.args.ply c.bench-bench.ensures.ready.claim (subst At c.bench-bench.ensures.position (rw c.in-Ok.is at c.level_by.ensures.answers))

pub returns-in-Ok-clause-names : goal.returns-in-Ok-clause-names
returns-in-Ok-clause-names c =
    let At : Position → Type 0 = λ p. AreNamesIn p c.level_by.new.work.sets c.in-Ok.level in
    subst At c.bench-bench.ensures.position (rw c.in-Ok.is at c.level_by.ensures.names)

pub unreachable-requires : goal.unreachable-requires
unreachable-requires c =
    let d = claim_in c.args.claim.now in
    given_goes_on d c.args.ply (masks_of c.bench-bench.result.position.now) no_sets c.args.work.now.memo.budget _
    (rw (c.in-Err-Over.is, c.in-Err-Over.field-0-is) at c.level_by.ensures.answers)
