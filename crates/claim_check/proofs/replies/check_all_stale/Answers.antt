use Rattle.std.proofs.Common.{ℕ, List, ap, ◌∙◌, subst}
use Rattle.rule_formula.specs.Fits.{IsGameMask, masks_of}
use Rattle.claim_plan.specs.CheckPlan.{for_each}
use Rattle.claim_check.specs.Finds.{FindsBy}
use Rattle.claim_check.proofs.LosersPlies.{each_mask}
use Rattle.claim_check.proofs.replies.check_all_stale.Goals as goal
use Rattle.claim_check.specs.Programs.{check_stale_in}

pub first_failing-requires-clause-fits : goal.first_failing-requires-clause-fits
first_failing-requires-clause-fits c = c.requires

pub first_failing-requires-clause-items : goal.first_failing-requires-clause-items
first_failing-requires-clause-items c =
    let p = c.args.claim.now.position in
    each_mask p (IsGameMask p) c.bench-bench.result.masks.now (c.bench-bench.result.masks_are ∙ ap masks_of c.bench-bench.ensures.position) (λ mask game. game)

pub returns-clause-finds : goal.returns-clause-finds
returns-clause-finds c =
    let s = c.args.claim.now in
    let r = c.args.replies.now in
    let Over : List ℕ → Type 0 = λ l. FindsBy c.args.work.now (for_each l (check_stale_in s c.args.work.now.sets r)) c.first_failing.result in
    subst Over (c.bench-bench.result.masks_are ∙ ap masks_of c.bench-bench.ensures.position) c.first_failing.ensures.finds
