use Rattle.std.proofs.Common.{◌∙◌, ap, Err}
use Rattle.auto_merge.proofs.States.{not_MoreThan-states, HasSameWords-merged, AllReached-merged}
use Rattle.auto_minimize.proofs.merge_states.merge.Goals as goal

pub unreachable-requires : goal.unreachable-requires
unreachable-requires c = not_MoreThan-states c.states.ensures.valid (c.merge_rows.ensures.over (c.in-Err-Over.is ∙ ap Err c.in-Err-Over.field-0-is))

pub returns-in-Ok-clause-words : goal.returns-in-Ok-clause-words
returns-in-Ok-clause-words c = HasSameWords-merged c.in-Ok.ensures.ok

pub returns-in-Ok-clause-reached : goal.returns-in-Ok-clause-reached
returns-in-Ok-clause-reached c = AllReached-merged c.in-Ok.ensures.ok
