use Rattle.std.proofs.Common.{Err, ap, ◌∙◌}
use Rattle.formula_auto.proofs.Chains.{pending-fits, pending-within, pending-made}
use Rattle.formula_auto.proofs.memo.Memo.put_to_base.Goals as goal

pub combine-requires-clause-room : goal.combine-requires-clause-room
combine-requires-clause-room c = pending-fits c.requires.2

pub unreachable-requires : goal.unreachable-requires
unreachable-requires c = pending-within c.requires.2 (c.combine.ensures.over (c.in-Err-Over.is ∙ ap Err c.in-Err-Over.field-0-is))

pub returns-in-Ok : goal.returns-in-Ok
returns-in-Ok c = λ f e is. rw c.of.ensures (pending-made is c.in-Ok.joint c.in-Ok.ensures.ok)
