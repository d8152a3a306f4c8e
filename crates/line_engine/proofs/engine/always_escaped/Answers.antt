use Rattle.std.proofs.Common.{◌+◌, ◌∙◌}
use Rattle.std.proofs.lemmas.Result.{err_from_is_err_and}
use Rattle.lin_formula.specs.SetOf.{Nothing, Table, as_set}
use Rattle.line_plan.specs.Plan.{shortened}
use Rattle.line_engine.specs.Answers.{losing_at, made_at}
use Rattle.line_engine.proofs.CycleLemmas.{escape_ends, flees_all, flight_error, flight_unjoined, moves_unjoined}
use Rattle.line_engine.proofs.LeadLemmas.{made_again}
use Rattle.line_engine.proofs.engine.always_escaped.Goals as goal

pub join-requires-2-clause-next : goal.join-requires-2-clause-next
join-requires-2-clause-next c = rw c.in_ok-second.ensures c.in_ok-first.ensures.set

pub returns-in_err-first-clause-answers : goal.returns-in_err-first-clause-answers
returns-in_err-first-clause-answers c =
    let n = c.args.count in
    let budget = c.args.work.now.memo.budget in
    let reached = Table c.args.reached in
    let so_far = losing_at c.args.work.now.at c.args.lost in
    let e = err_from_is_err_and c.from_residual.result c.from_residual.ensures.1 in
    rw (e.1, e.2)
    (flight_error n budget reached Nothing so_far (shortened n reached) (flees_all n budget reached Nothing so_far (λ tuple h. h)) c.in_err-first.field-0.0 c.in_err-first.ensures.answers)

pub returns-in_err-escape-clause-answers : goal.returns-in_err-escape-clause-answers
returns-in_err-escape-clause-answers c =
    let n = c.args.count in
    let budget = c.args.work.now.memo.budget in
    let reached = Table c.args.reached in
    let so_far = losing_at c.args.work.now.at c.args.lost in
    let e = err_from_is_err_and c.from_residual-in_err-escape.result c.from_residual-in_err-escape.ensures.1 in
    let error = rw c.in_ok-first.ensures.budget at c.in_err-escape.ensures.answers in
    rw (e.1, e.2)
    (flight_unjoined n budget reached Nothing so_far (shortened n reached) (flees_all n budget reached Nothing so_far (λ tuple h. h))
    (made_at c.shortened.new.work.at c.in_ok-first.first) c.in_ok-first.ensures.answers c.in_err-escape.field-0.0 error)

pub returns-in_err-moves-clause-answers : goal.returns-in_err-moves-clause-answers
returns-in_err-moves-clause-answers c =
    let n = c.args.count in
    let budget = c.args.work.now.memo.budget in
    let reached = Table c.args.reached in
    let so_far = losing_at c.args.work.now.at c.args.lost in
    let e = err_from_is_err_and c.from_residual-in_err-moves.result c.from_residual-in_err-moves.ensures.1 in
    let escape = rw c.in_ok-first.ensures.budget at c.in_ok-escape.ensures.answers in
    let error = rw (c.in_ok-second.ensures, c.in_ok-escape.ensures.budget ∙ c.in_ok-first.ensures.budget) at c.in_err-moves.ensures.answers in
    let last = made_again n c.args.work.now.at c.join.new.work.at budget reached (as_set c.in_ok-first.first) c.shortened.new.work.at c.requires.reached.some c.in_ok-first.ensures.answers in
    rw (e.1, e.2)
    (moves_unjoined n budget reached Nothing so_far (shortened n reached) (flees_all n budget reached Nothing so_far (λ tuple h. h))
    (made_at c.shortened.new.work.at c.in_ok-first.first) c.in_ok-first.ensures.answers (made_at c.join.new.work.at c.in_ok-escape.escape) escape
    (made_at (c.join.new.work.at + 1) c.in_ok-first.first) last c.in_err-moves.field-0.0 error)

pub returns-clause-answers : goal.returns-clause-answers
returns-clause-answers c =
    let n = c.args.count in
    let budget = c.args.work.now.memo.budget in
    let reached = Table c.args.reached in
    let so_far = losing_at c.args.work.now.at c.args.lost in
    let escape = rw c.in_ok-first.ensures.budget at c.in_ok-escape.ensures.answers in
    let moves = rw (c.in_ok-second.ensures, c.in_ok-escape.ensures.budget ∙ c.in_ok-first.ensures.budget) at c.in_ok-moves.ensures.answers in
    let last = made_again n c.args.work.now.at c.join.new.work.at budget reached (as_set c.in_ok-first.first) c.shortened.new.work.at c.requires.reached.some c.in_ok-first.ensures.answers in
    escape_ends n budget reached Nothing so_far (shortened n reached) (flees_all n budget reached Nothing so_far (λ tuple h. h))
    (made_at c.shortened.new.work.at c.in_ok-first.first) c.in_ok-first.ensures.answers (made_at c.join.new.work.at c.in_ok-escape.escape) escape
    (made_at (c.join.new.work.at + 1) c.in_ok-first.first) last (made_at c.join-2.new.work.at c.in_ok-moves.moves) moves
