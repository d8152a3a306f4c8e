use Rattle.std.proofs.Common.{◌+◌, ◌^◌, length, sym, ap, ◌∙◌, subst, arith}
use Rattle.std.proofs.lemmas.Result.{err_from_is_err_and}
use Rattle.game_rules.specs.Game.{Sound}
use Rattle.lin_formula.specs.SetOf.{Table}
use Rattle.line_engine.specs.Answers.{IsFilled, as_plan_error, made_at}
use Rattle.line_engine.proofs.EachLemmas.{room_more}
use Rattle.line_engine.proofs.ReachLemmas.{answers_left, captures_error, clears_error, clears_left, first_error}
use Rattle.line_engine.proofs.StepLemmas.{step_place}
use Rattle.line_engine.proofs.parts.reach.Goals as goal

pub captured-requires-clause-set : goal.captured-requires-clause-set
captured-requires-clause-set c =
    subst (λ n. IsFilled n c.in_ok-first.first) (sym (ap (λ xs. length xs) c.args.step.now.path)) c.in_ok-first.ensures.set

pub safe-requires-clause-sound : goal.safe-requires-clause-sound
safe-requires-clause-sound c = subst Sound (sym (step_place c.args.step.now)) c.requires.sound

pub returns-in_err-first-clause-answers : goal.returns-in_err-first-clause-answers
returns-in_err-first-clause-answers c a is =
    let e = err_from_is_err_and c.from_residual.result c.from_residual.ensures.1 in
    rw (e.1, e.2)
    (first_error c.args.step.now c.args.work.now.memo.budget (Table a, c.args.work.now.at) (as_plan_error c.in_err-first.field-0.0) (c.in_err-first.ensures.answers a is))

pub returns-in_err-second-clause-answers : goal.returns-in_err-second-clause-answers
returns-in_err-second-clause-answers c a is =
    let e = err_from_is_err_and c.from_residual-in_err-second.result c.from_residual-in_err-second.ensures.1 in
    let error = rw c.in_ok-first.ensures.budget at c.in_err-second.ensures.answers in
    rw (e.1, e.2)
    (captures_error c.args.step.now c.args.work.now.memo.budget (Table a, c.args.work.now.at) (made_at c.begun.new.work.at c.in_ok-first.first)
    (c.in_ok-first.ensures.answers a is) (as_plan_error c.in_err-second.field-0.0) error)

pub returns-in_err-third-clause-answers : goal.returns-in_err-third-clause-answers
returns-in_err-third-clause-answers c a is =
    let e = err_from_is_err_and c.from_residual-in_err-third.result c.from_residual-in_err-third.ensures.1 in
    let second = rw c.in_ok-first.ensures.budget at c.in_ok-second.ensures.answers in
    let error = rw (c.in_ok-second.ensures.budget ∙ c.in_ok-first.ensures.budget) at c.in_err-third.ensures.answers in
    rw (e.1, e.2)
    (clears_error c.args.step.now c.args.work.now.memo.budget (Table a, c.args.work.now.at) (made_at c.begun.new.work.at c.in_ok-first.first)
    (c.in_ok-first.ensures.answers a is) (made_at c.captured.new.work.at c.in_ok-second.second) second (as_plan_error c.in_err-third.field-0.0) error)

pub returns-clause-answers : goal.returns-clause-answers
returns-clause-answers c a is =
    let second = rw c.in_ok-first.ensures.budget at c.in_ok-second.ensures.answers in
    let third = rw (c.in_ok-second.ensures.budget ∙ c.in_ok-first.ensures.budget) at c.in_ok-third.ensures.answers in
    let last = rw (c.in_ok-third.ensures.budget ∙ c.in_ok-second.ensures.budget ∙ c.in_ok-first.ensures.budget) at c.safe.ensures.answers in
    answers_left (made_at c.safe.new.work.at)
    (clears_left c.args.step.now c.args.work.now.memo.budget (Table a, c.args.work.now.at) (made_at c.begun.new.work.at c.in_ok-first.first)
    (c.in_ok-first.ensures.answers a is) (made_at c.captured.new.work.at c.in_ok-second.second) second
    (made_at c.cleared.new.work.at c.in_ok-third.third) third) c.safe.result last

pub returns-clause-set : goal.returns-clause-set
returns-clause-set c = rw (ap (λ xs. length xs) c.args.step.now.path) at c.safe.ensures.set

pub returns-clause-room : goal.returns-clause-room
returns-clause-room c =
    let first = c.in_ok-first.ensures.room in
    let second = c.in_ok-second.ensures.room in
    let third = c.in_ok-third.ensures.room in
    room_more c.safe.result c.safe.new.work.at (c.cleared.new.work.at + 512000) (c.args.work.now.at + 2 ^ 20) c.safe.ensures.room (omega (arith, first, second, third))
