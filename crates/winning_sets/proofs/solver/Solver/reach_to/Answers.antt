use Rattle.std.proofs.Common.{◌≡◌, ℕ, ◌+◌, ◌-◌, length, subst, arith}
use Rattle.std.proofs.lemmas.Result.{err_from_is_err_and}
use Rattle.game_rules.specs.Game.{Position}
use Rattle.mask_sets.specs.Stock.{mask_of}
use Rattle.set_plan.specs.Outcome.{IsPlanError}
use Rattle.mate_plan.specs.Plan.{forward}
use Rattle.mate_plan.specs.PlanOf.{rules_of}
use Rattle.winning_sets.proofs.Forwards.{forward_later_error}
use Rattle.winning_sets.proofs.solver.Solver.reach_to.Goals as goal

pub returns-in_err-start-clause-error : goal.returns-in_err-start-clause-error
returns-in_err-start-clause-error c =
    let why = err_from_is_err_and c.from_residual.result c.from_residual.ensures.1 in
    let s = c.args.self.now in
    let p = s.position in
    rw (why.1, why.2) (forward_later_error (rules_of p) p.turn (mask_of p) s.budget c.args.last 0 c.args.last c.in_err-start.field-0.0 (omega arith) c.in_err-start.ensures.error)

pub returns-in_err-reach_next-clause-error : goal.returns-in_err-reach_next-clause-error
returns-in_err-reach_next-clause-error c =
    let why = err_from_is_err_and c.from_residual-in_err-reach_next.result c.from_residual-in_err-reach_next.ensures.1 in
    let s = c.args.self.now in
    let p = s.position in
    let t = c.plies.self in
    let after = c.plies.invariant.0 in
    let error = c.in_err-reach_next.field-0.0 in
    let same = subst (λ (b : ℕ). IsPlanError (forward (rules_of t.position) t.position.turn (mask_of t.position) (length t.reach)) b error) after.budget c.in_err-reach_next.ensures.error in
    let here = subst (λ (q : Position). IsPlanError (forward (rules_of q) q.turn (mask_of q) (length t.reach)) s.budget error) after.position same in
    let sum : c.args.last - length t.reach + length t.reach ≡ c.args.last = omega (arith, c.finished-in-plies.ensures, c.plies-test.true) in
    rw (why.1, why.2) (forward_later_error (rules_of p) p.turn (mask_of p) s.budget (c.args.last - length t.reach) (length t.reach) c.args.last error sum here)
