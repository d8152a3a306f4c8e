use Rattle.std.proofs.Common.{◌≡◌, sym, ap, ◌∙◌, subst, option_copied}
use Rattle.rule_formula.specs.Fits.{masks_of}
use Rattle.mate_plan.specs.Claim.{claimed_at}
use Rattle.winning_sets.specs.Claimed.{solution_of}
use Rattle.winning_sets.specs.Solve.{sets_at}
use Rattle.winning_sets.specs.declared.claimed.ClaimedSets.{ClaimedSets}
use Rattle.winning_sets.proofs.ClaimPlaces.{claimed_kept}
use Rattle.claim_check.specs.Ready.{claim_in}
use Rattle.claim_check.proofs.reduced.ReducedClaim.set.Goals as goal

pub returns : goal.returns
returns c =
    let s = solution_of c.self.inside.claimed in
    subst (λ (d : ClaimedSets). option_copied c.set_at.result ≡ claimed_at (claim_in d) c.args.ply c.args.mask) c.self.view_is
    (c.set_at.ensures
    ∙ (ap (λ masks. sets_at masks c.as_slice-2.result.now c.args.ply c.args.mask) (c.as_slice.ensures.value ∙ c.self.invariant.masks)
    ∙ (ap (λ plies. sets_at (masks_of s.position) plies c.args.ply c.args.mask) c.as_slice-2.ensures.value ∙ sym (claimed_kept s c.args.ply c.args.mask))))
