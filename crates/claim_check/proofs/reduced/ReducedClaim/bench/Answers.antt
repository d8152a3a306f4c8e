use Rattle.std.proofs.Common.{◌∙◌, subst}
use Rattle.claim_check.specs.Ready.{IsReady}
use Rattle.claim_check.proofs.reduced.ReducedClaim.bench.Goals as goal

pub invariant_of-result : goal.invariant_of-result
invariant_of-result c =
    let ready = c.self.invariant in
    record { few = ready.claim.few; sound = ready.claim.sound; masks_are = c.as_slice.ensures.value ∙ ready.masks }

pub returns-clause-ready : goal.returns-clause-ready
returns-clause-ready c = subst IsReady c.self.view_is c.self.invariant
