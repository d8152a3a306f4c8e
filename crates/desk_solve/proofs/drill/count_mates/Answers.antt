use Rattle.std.proofs.Common.{◌≡◌, ◌↔◌, ◌+◌, ℕ, suc, Bool, true, false, cond, IsTrue, ◌∙◌, ap, sym, subst, arith}
use Rattle.std.specs.Int.{from_bool}
use Rattle.std.proofs.lemmas.Result.{err_from_is_err_and}
use Rattle.desk_args.specs.declared.order.TheConstants.{DEFAULT_STATES}
use Rattle.game_rules.specs.Game.{Value}
use Rattle.desk_solve.specs.Drill.{DrillFinds, drilled, next_state, problem_of, state_after}
use Rattle.desk_verdict.specs.Verdict.{ExceedsAt, FitsBudget}
use Rattle.desk_text.specs.declared.problem.Problem.{Problem}
use Rattle.desk_solve.proofs.Drilled.{finds_more}
use Rattle.desk_solve.proofs.Rooks.{drill_sound}
use Rattle.desk_solve.proofs.drill.count_mates.Goals as goal

-- the problem of the state after so many steps and one more
at_number : (seed number state next : ℕ) (problem : Problem) → state ≡ state_after seed number → next ≡ next_state state → problem ≡ problem_of next → problem ≡ drilled seed number
at_number seed number state next problem is steps made = made ∙ ap problem_of (steps ∙ ap next_state is)

as_number : (won : Bool) (n : ℕ) → n ≡ from_bool won → cond won 1 0 ≡ n
as_number true n is = sym is
as_number false n is = sym is

pub is_mate_in_one-requires : goal.is_mate_in_one-requires
is_mate_in_one-requires c = rw c.problem_of-problem.ensures (drill_sound c.next.result)

pub returns-in_err-won-clause-step : goal.returns-in_err-won-clause-step
returns-in_err-won-clause-step c =
    let inv = c.loop-number.invariant in
    let number = c.loop-number._number in
    let p = err_from_is_err_and c.from_residual.result c.from_residual.ensures.1 in
    let is : c.problem_of-problem.result ≡ drilled c.args.seed number =
    at_number c.args.seed number c.loop-number.generator.state c.next.result c.problem_of-problem.result inv.state c.next.ensures.next c.problem_of-problem.ensures in
    rw (p.1, p.2) (λ step over. (number, omega arith, inv.found.fits, subst (λ q. ExceedsAt q DEFAULT_STATES 1 step) is (c.in_err-won.ensures.step step over)))

pub loop-number-preserved : goal.loop-number-preserved
loop-number-preserved c =
    let inv = c.loop-number.invariant in
    let number = c.loop-number._number in
    let won = c.in_ok-won.won in
    let is : c.problem_of-problem.result ≡ drilled c.args.seed number =
    at_number c.args.seed number c.loop-number.generator.state c.next.result c.problem_of-problem.result inv.state c.next.ensures.next c.problem_of-problem.ensures in
    let next : suc number ≡ number + 1 = omega arith in
    let fits : FitsBudget (drilled c.args.seed number) DEFAULT_STATES 1 = subst (λ q. FitsBudget q DEFAULT_STATES 1) is c.in_ok-won.ensures.fits in
    let mates : IsTrue won ↔ Value (drilled c.args.seed number).winner 1 (drilled c.args.seed number).position =
    subst (λ q. IsTrue won ↔ Value q.winner 1 q.position) is c.in_ok-won.ensures.won in
    record {
      state = c.next.ensures.state ∙ c.next.ensures.next ∙ ap next_state inv.state ∙ ap (state_after c.args.seed) next;
      found =
          subst (λ m. DrillFinds c.args.seed (number + 1) (c.loop-number.mates + m)) (as_number won c.from-mates.result c.from-mates.ensures)
          (finds_more c.args.seed number c.loop-number.mates won inv.found fits mates);
    }
