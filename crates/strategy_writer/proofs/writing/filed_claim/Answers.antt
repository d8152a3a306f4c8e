use Rattle.std.proofs.Common.{arith}
use Rattle.strategy_writer.specs.KeptClaims.{as_claim}
use Rattle.strategy_writer.proofs.LargestSets.{few_of}
use Rattle.strategy_writer.proofs.writing.filed_claim.Goals as goal

pub returns-clause-few : goal.returns-clause-few
returns-clause-few c = let small = c.if-states-gt-MOST_FILED_STATES.false in few_of c.largest_set-states.result c.largest_set-states.ensures (omega (arith, small))

pub returns-then-states-gt-MOST_FILED_STATES-clause-refused : goal.returns-then-states-gt-MOST_FILED_STATES-clause-refused
returns-then-states-gt-MOST_FILED_STATES-clause-refused c = λ version.
    let large = c.if-states-gt-MOST_FILED_STATES.true in
    record { claim = as_claim c.in_ok-claim.claim; of = c.in_ok-claim.ensures.claim; most = c.largest_set-states.ensures; large = omega (arith, large) }
