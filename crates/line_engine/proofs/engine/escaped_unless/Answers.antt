use Rattle.std.proofs.Common.{◌∙◌}
use Rattle.std.proofs.lemmas.Result.{err_from_is_err_and}
use Rattle.lin_formula.specs.SetOf.{Table}
use Rattle.line_plan.specs.Plan.{shortened_rest}
use Rattle.line_engine.specs.Answers.{losing_at, made_at}
use Rattle.line_engine.proofs.CycleLemmas.{escape_ends, flees_rest, flight_error, flight_unjoined, moves_error, moves_unjoined}
use Rattle.line_engine.proofs.engine.escaped_unless.Goals as goal

pub shortened_rest-requires-clause-set : goal.shortened_rest-requires-clause-set
shortened_rest-requires-clause-set c = rw c.in_ok-again.ensures c.requires.reached

pub returns-in_err-rest-clause-answers : goal.returns-in_err-rest-clause-answers
returns-in_err-rest-clause-answers c =
    let n = c.args.count in
    let budget = c.args.work.now.memo.budget in
    let reached = Table c.args.reached in
    let kept = Table c.args.kept in
    let so_far = losing_at c.args.work.now.at c.args.lost in
    let e = err_from_is_err_and c.from_residual-in_err-rest.result c.from_residual-in_err-rest.ensures.1 in
    let error = rw c.in_ok-again.ensures at c.in_err-rest.ensures.answers in
    rw (e.1, e.2)
    (flight_error n budget reached kept so_far (shortened_rest n reached kept) (flees_rest n budget reached kept so_far c.requires.kept.some) c.in_err-rest.field-0.0 error)

pub returns-in_err-escape-clause-answers : goal.returns-in_err-escape-clause-answers
returns-in_err-escape-clause-answers c =
    let n = c.args.count in
    let budget = c.args.work.now.memo.budget in
    let reached = Table c.args.reached in
    let kept = Table c.args.kept in
    let so_far = losing_at c.args.work.now.at c.args.lost in
    let e = err_from_is_err_and c.from_residual-in_err-escape.result c.from_residual-in_err-escape.ensures.1 in
    let rest = rw c.in_ok-again.ensures at c.in_ok-rest.ensures.answers in
    let error = rw c.in_ok-rest.ensures.budget at c.in_err-escape.ensures.answers in
    rw (e.1, e.2)
    (flight_unjoined n budget reached kept so_far (shortened_rest n reached kept) (flees_rest n budget reached kept so_far c.requires.kept.some)
    (made_at c.shortened_rest.new.work.at c.in_ok-rest.rest) rest c.in_err-escape.field-0.0 error)

pub returns-in_err-item-clause-answers : goal.returns-in_err-item-clause-answers
returns-in_err-item-clause-answers c =
    let n = c.args.count in
    let budget = c.args.work.now.memo.budget in
    let reached = Table c.args.reached in
    let kept = Table c.args.kept in
    let so_far = losing_at c.args.work.now.at c.args.lost in
    let e = err_from_is_err_and c.from_residual-in_err-item.result c.from_residual-in_err-item.ensures.1 in
    let rest = rw c.in_ok-again.ensures at c.in_ok-rest.ensures.answers in
    let escape = rw c.in_ok-rest.ensures.budget at c.in_ok-escape.ensures.answers in
    let error = rw (c.in_ok-escape.ensures.budget ∙ c.in_ok-rest.ensures.budget) at c.in_err-item.ensures.answers in
    rw (e.1, e.2)
    (moves_error n budget reached kept so_far (shortened_rest n reached kept) (flees_rest n budget reached kept so_far c.requires.kept.some)
    (made_at c.shortened_rest.new.work.at c.in_ok-rest.rest) rest (made_at c.join.new.work.at c.in_ok-escape.escape) escape c.in_err-item.field-0.0 error)

pub returns-in_err-moves-clause-answers : goal.returns-in_err-moves-clause-answers
returns-in_err-moves-clause-answers c =
    let n = c.args.count in
    let budget = c.args.work.now.memo.budget in
    let reached = Table c.args.reached in
    let kept = Table c.args.kept in
    let so_far = losing_at c.args.work.now.at c.args.lost in
    let e = err_from_is_err_and c.from_residual-in_err-moves.result c.from_residual-in_err-moves.ensures.1 in
    let rest = rw c.in_ok-again.ensures at c.in_ok-rest.ensures.answers in
    let escape = rw c.in_ok-rest.ensures.budget at c.in_ok-escape.ensures.answers in
    let item = rw (c.in_ok-escape.ensures.budget ∙ c.in_ok-rest.ensures.budget) at c.in_ok-item.ensures.answers in
    let error = rw (c.in_ok-item.ensures.budget ∙ c.in_ok-escape.ensures.budget ∙ c.in_ok-rest.ensures.budget) at c.in_err-moves.ensures.answers in
    rw (e.1, e.2)
    (moves_unjoined n budget reached kept so_far (shortened_rest n reached kept) (flees_rest n budget reached kept so_far c.requires.kept.some)
    (made_at c.shortened_rest.new.work.at c.in_ok-rest.rest) rest (made_at c.join.new.work.at c.in_ok-escape.escape) escape
    (made_at c.shortened.new.work.at c.in_ok-item.item) item c.in_err-moves.field-0.0 error)

pub returns-clause-answers : goal.returns-clause-answers
returns-clause-answers c =
    let n = c.args.count in
    let budget = c.args.work.now.memo.budget in
    let reached = Table c.args.reached in
    let kept = Table c.args.kept in
    let so_far = losing_at c.args.work.now.at c.args.lost in
    let rest = rw c.in_ok-again.ensures at c.in_ok-rest.ensures.answers in
    let escape = rw c.in_ok-rest.ensures.budget at c.in_ok-escape.ensures.answers in
    let item = rw (c.in_ok-escape.ensures.budget ∙ c.in_ok-rest.ensures.budget) at c.in_ok-item.ensures.answers in
    let moves = rw (c.in_ok-item.ensures.budget ∙ c.in_ok-escape.ensures.budget ∙ c.in_ok-rest.ensures.budget) at c.in_ok-moves.ensures.answers in
    escape_ends n budget reached kept so_far (shortened_rest n reached kept) (flees_rest n budget reached kept so_far c.requires.kept.some)
    (made_at c.shortened_rest.new.work.at c.in_ok-rest.rest) rest (made_at c.join.new.work.at c.in_ok-escape.escape) escape
    (made_at c.shortened.new.work.at c.in_ok-item.item) item (made_at c.join-2.new.work.at c.in_ok-moves.moves) moves
