use Rattle.std.proofs.Common.{◌≡◌, ℕ, ◌<◌, ap, subst, ◌∙◌, arith}
use Rattle.std.proofs.lemmas.Result.{err_from_is_err_and}
use Rattle.set_plan.specs.Outcome.{IsPlanError}
use Rattle.mate_plan.specs.PlanOf.{last_ply, plan_to}
use Rattle.winning_sets.proofs.Forwards.{plan_error}
use Rattle.winning_sets.proofs.solver.Solver.answer.Goals as goal

pub returns-in_err-reach_to-clause-error : goal.returns-in_err-reach_to-clause-error
returns-in_err-reach_to-clause-error c =
    let why = err_from_is_err_and c.from_residual-in_err-reach_to.result c.from_residual-in_err-reach_to.ensures.1 in
    let s = c.args.self.now in
    let last = c.last_ply-last.result in
    let error = c.in_err-reach_to.field-0.0 in
    let some : 0 < last = omega (arith, c.if-last-eq0.false) in
    let last_is : last ≡ last_ply s.winner s.position.turn c.args.moves =
    c.last_ply-last.ensures.last ∙ ap (λ t. last_ply c.self.inside.winner t c.args.moves) c.turn.ensures ∙ ap (λ t. last_ply t.winner t.position.turn c.args.moves) c.self.view_is in
    let here = plan_error s.position s.budget last some error c.in_err-reach_to.ensures.error in
    rw (why.1, why.2) (subst (λ (n : ℕ). IsPlanError (plan_to s.position n) s.budget error) last_is here)
