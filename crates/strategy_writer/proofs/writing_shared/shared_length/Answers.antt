use Rattle.strategy_writer.specs.KeptClaims.{as_set}
use Rattle.strategy_writer.proofs.SharedWriting.{counts_set}
use Rattle.strategy_writer.proofs.writing_shared.shared_length.Goals as goal

pub returns-clause-length : goal.returns-clause-length
returns-clause-length c =
    let counts = c.in_ok-nodes.ensures in
    counts_set (as_set c.args.kept.now) counts.table c.in_ok-nodes.nodes c.states-states.result counts.of counts.size c.states-states.ensures.states
