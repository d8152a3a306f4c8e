use Rattle.std.proofs.Common.{ℕ, List, ap, ◌∙◌, subst}
use Rattle.std.specs.Prelude.{IsSome}
use Rattle.rule_formula.specs.Fits.{masks_of}
use Rattle.mate_plan.specs.Claim.{claimed_at}
use Rattle.claim_plan.specs.CheckPlan.{check_set, for_each}
use Rattle.claim_check.specs.Finds.{Finds}
use Rattle.claim_check.specs.Ready.{claim_in}
use Rattle.claim_check.proofs.LosersPlies.{each_mask}
use Rattle.claim_check.proofs.sets.check_sets_at.Goals as goal

pub first_failing-requires-clause-fits : goal.first_failing-requires-clause-fits
first_failing-requires-clause-fits c = tt

pub first_failing-requires-clause-items : goal.first_failing-requires-clause-items
first_failing-requires-clause-items c =
    let d = claim_in c.args.claim.now in
    each_mask d.position (λ mask. IsSome (claimed_at d c.args.ply mask)) c.bench-bench.result.masks.now (c.bench-bench.result.masks_are ∙ ap masks_of c.bench-bench.ensures.position) c.requires

pub returns-clause-finds : goal.returns-clause-finds
returns-clause-finds c =
    let d = claim_in c.args.claim.now in
    let Over : List ℕ → Type 0 = λ l. Finds (for_each l (check_set d c.args.ply)) c.args.work.now.memo.budget c.first_failing.result in
    subst Over (c.bench-bench.result.masks_are ∙ ap masks_of c.bench-bench.ensures.position) c.first_failing.ensures.finds
