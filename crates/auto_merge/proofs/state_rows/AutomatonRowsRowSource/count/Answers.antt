use Rattle.std.proofs.Common.{sym, ◌∙◌}
use Rattle.auto_merge.proofs.States.{length-places_of_states}
use Rattle.auto_merge.proofs.state_rows.AutomatonRowsRowSource.count.Goals as goal

pub returns : goal.returns
returns c = c.states.ensures.states ∙ sym (length-places_of_states _)
