use Rattle.strategy_writer.specs.KeptClaims.{as_set}
use Rattle.strategy_writer.proofs.SharedWriting.{not_too_many}
use Rattle.strategy_writer.proofs.writing_shared.push_shared_set.Goals as goal

pub unreachable-requires : goal.unreachable-requires
unreachable-requires c = not_too_many (as_set c.args.kept.now) c.requires (rw c.in-Err-Nodes.field-0-is at c.in-Err-Nodes.ensures.refused)
