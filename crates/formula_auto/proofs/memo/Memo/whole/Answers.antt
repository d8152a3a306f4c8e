use Rattle.std.proofs.Common.{arith}
use Rattle.std.proofs.lemmas.Result.{err_from_is_err_and}
use Rattle.formula_auto.proofs.Rooms.{ready}
use Rattle.formula_auto.proofs.memo.Memo.whole.Goals as goal

pub compiled-requires-clause-ready : goal.compiled-requires-clause-ready
compiled-requires-clause-ready c = ready c.requires.compilable

pub compiled-requires-clause-room : goal.compiled-requires-clause-room
compiled-requires-clause-room c = omega (arith, c.requires.few_steps)

pub returns-in_err-made-clause-err : goal.returns-in_err-made-clause-err
returns-in_err-made-clause-err c =
    let p = err_from_is_err_and c.from_residual.result c.from_residual.ensures.1 in
    rw (p.1, p.2) c.in_err-made.ensures.err

pub taken-requires : goal.taken-requires
taken-requires c = (c.in_ok-made.ensures.ok.auto, c.in_ok-made.ensures.ok.has)
