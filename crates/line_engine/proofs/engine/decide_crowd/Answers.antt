use Rattle.std.proofs.Common.{arith}
use Rattle.std.proofs.lemmas.Result.{err_from_is_err_and}
use Rattle.line_engine.specs.Nodes.{position_of}
use Rattle.line_engine.proofs.RoomLemmas.{few_plies, start_room}
use Rattle.line_engine.proofs.StartLemmas.{plan_error, plan_verdict, verdict_right}
use Rattle.line_engine.proofs.engine.decide_crowd.Goals as goal

pub kept-requires-clause-few : goal.kept-requires-clause-few
kept-requires-clause-few c =
    let few = few_plies c.args.crowd.now.turn c.args.crowd.now.winner c.args.moves c.requires.moves in
    let is = c.plies.ensures in
    omega (arith, few, is)

pub kept-requires-clause-room : goal.kept-requires-clause-room
kept-requires-clause-room c =
    let few = few_plies c.args.crowd.now.turn c.args.crowd.now.winner c.args.moves c.requires.moves in
    let is = c.plies.ensures in
    rw c.new-work.ensures.at (start_room c.plies.result (omega (arith, few, is)))

pub returns-in_err-start-clause-over : goal.returns-in_err-start-clause-over
returns-in_err-start-clause-over c =
    let p = err_from_is_err_and c.from_residual.result c.from_residual.ensures.1 in rw (p.1, p.2) tt

pub returns-in_err-kept-clause-over : goal.returns-in_err-kept-clause-over
returns-in_err-kept-clause-over c =
    let p = err_from_is_err_and c.from_residual-in_err-kept.result c.from_residual-in_err-kept.ensures.1 in
    let error = rw (c.plies.ensures, c.new-work.ensures.at, c.new-work.ensures.budget) at c.in_err-kept.ensures.answers in
    rw (p.1, p.2) (plan_error (position_of c.args.crowd.now) c.args.crowd.now.winner c.args.moves c.args.budget c.in_ok-start.start c.in_ok-start.ensures c.in_err-kept.field-0.0 error)

pub returns-clause-within : goal.returns-clause-within
returns-clause-within c =
    let ends = rw (c.plies.ensures, c.new-work.ensures.at, c.new-work.ensures.budget) at c.in_ok-kept.ensures.answers in
    plan_verdict (position_of c.args.crowd.now) c.args.crowd.now.winner c.args.moves c.args.budget c.in_ok-start.start c.in_ok-start.ensures c.kept.new.work.at c.in_ok-kept.kept c.is_some.result
    c.is_some.ensures c.in_ok-kept.ensures.set ends

pub returns-clause-verdict : goal.returns-clause-verdict
returns-clause-verdict c =
    verdict_right (position_of c.args.crowd.now) c.args.crowd.now.winner c.args.moves c.args.budget c.is_some.result c.requires.sound c.requires.moves (returns-clause-within c)
