use Rattle.std.proofs.Common.{Err, refl, ap}
use Rattle.formula_auto.proofs.Chains.{next-fits, taken-now, stopped-now}
use Rattle.formula_auto.proofs.memo.Memo.put_at_once.Goals as goal

pub combine-requires-clause-room : goal.combine-requires-clause-room
combine-requires-clause-room c = next-fits c.requires.left.is c.requires.short c.requires.left.fits

pub returns-in-Ok-clause-ok : goal.returns-in-Ok-clause-ok
returns-in-Ok-clause-ok c = record {
  done = refl;
  puts = λ f e fits is. rw c.of.ensures (taken-now is c.requires.short c.in-Ok.joint c.args.next.step c.in-Ok.ensures.ok);
}

pub returns-in-Err-clause-err : goal.returns-in-Err-clause-err
returns-in-Err-clause-err c = λ f e is.
    rw c.at.ensures (stopped-now is c.requires.short c.args.next.step c.in-Err.why (λ over. c.in-Err.ensures.over (ap Err over)))
