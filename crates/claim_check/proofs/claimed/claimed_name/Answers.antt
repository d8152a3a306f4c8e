use Rattle.std.proofs.Common.{◌≡◌, Some, ap, sym, ◌∙◌, subst, option_copied}
use Rattle.lin_formula.specs.SetOf.{as_set}
use Rattle.rule_formula.specs.Mean.{mask_tracks}
use Rattle.set_plan.specs.Sets.{IsSetOn}
use Rattle.mate_plan.specs.Claim.{claimed_at}
use Rattle.claim_check.specs.Ready.{claim_in}
use Rattle.claim_check.proofs.ReadySets.{claimed_on}
use Rattle.claim_check.proofs.claimed.claimed_name.Goals as goal

pub returns-in-None-clause-set : goal.returns-in-None-clause-set
returns-in-None-clause-set c = ap as_set (sym (ap option_copied c.in-None.is) ∙ c.set.ensures)

pub returns-in_ok-put-in-Some-clause-set : goal.returns-in_ok-put-in-Some-clause-set
returns-in_ok-put-in-Some-clause-set c =
    let there = sym (ap option_copied c.in-Some.is) ∙ c.set.ensures in
    ap as_set (c.in_ok-put-in-Some.ensures.ok ∙ ap Some c.in_ok-copy-in-Some.ensures ∙ there)

pub returns-in_ok-put-in-Some-clause-name : goal.returns-in_ok-put-in-Some-clause-name
returns-in_ok-put-in-Some-clause-name c =
    let d = claim_in c.args.claim.now in
    let there : claimed_at d c.args.ply c.args.mask ≡ Some c.in-Some.set.now = sym c.set.ensures ∙ ap option_copied c.in-Some.is in
    let on = claimed_on c.bench-bench.ensures.ready c.requires c.args.ply c.args.mask c.in-Some.set.now there in
    (c.in_ok-copy-in-Some.field-0, c.in_ok-put-in-Some.ensures.ok, subst (IsSetOn (mask_tracks c.args.claim.now.position c.args.mask)) (sym c.in_ok-copy-in-Some.ensures) on)
