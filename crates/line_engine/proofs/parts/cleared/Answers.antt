use Rattle.std.proofs.Common.{◌≡◌, ◌+◌, length, ◌∙◌, subst, arith}
use Rattle.std.proofs.lemmas.Result.{err_from_is_err_and}
use Rattle.lin_formula.specs.SetOf.{as_set}
use Rattle.rule_formula.specs.Placed.{is_live}
use Rattle.line_formula.specs.Places.{home}
use Rattle.line_formula.specs.Rules.{clear_parts}
use Rattle.set_plan.specs.Outcome.{Ends}
use Rattle.set_plan.specs.Program.{each}
use Rattle.line_plan.specs.Plan.{narrow}
use Rattle.line_engine.specs.Answers.{as_plan_error, made_at}
use Rattle.line_engine.proofs.ReachLemmas.{clear_ends, clear_error}
use Rattle.line_engine.proofs.StepLemmas.{step_man}
use Rattle.line_engine.proofs.parts.cleared.Goals as goal

pub overflow_cast-n-end : goal.overflow_cast-n-end
overflow_cast-n-end c = let most = c.args.step.now.before.crowd.is.most in omega (arith, most)

pub off_way_if_other-requires-clause-two : goal.off_way_if_other-requires-clause-two
off_way_if_other-requires-clause-two c =
    step_man c.args.step.now (c.loop-n.n + 1) c.requires.listed (omega arith) (omega arith)

pub returns-in_err-left-clause-answers : goal.returns-in_err-left-clause-answers
returns-in_err-left-clause-answers c =
    let step = c.args.step.now in
    let so_far = c.loop-n.invariant in
    let e = err_from_is_err_and c.from_residual.result c.from_residual.ensures.1 in
    let error = rw so_far.budget at c.in_err-left.ensures.answers in
    rw (e.1, e.2)
    (clear_error (home step.before.crowd.men.now) step.before.legs.now step.leg (is_live step.before.force.mask) step.option.taken (length step.after.path.now)
    c.args.work.now.memo.budget (as_set c.args.so_far, c.args.work.now.at) (made_at c.loop-n.work.at c.loop-n.left) c.loop-n.n so_far.ends
    (length step.before.crowd.men.now) (omega arith) (as_plan_error c.in_err-left.field-0.0) error)

pub loop-n-preserved : goal.loop-n-preserved
loop-n-preserved c =
    let step = c.args.step.now in
    let so_far = c.loop-n.invariant in
    let made = rw so_far.budget at c.in_ok-left.ensures.answers in
    record {
      room = omega (arith, so_far.room, c.in_ok-left.ensures.room);
      set = c.in_ok-left.ensures.set;
      budget = c.in_ok-left.ensures.budget ∙ so_far.budget;
      ends =
          clear_ends (home step.before.crowd.men.now) step.before.legs.now step.leg (is_live step.before.force.mask) step.option.taken (length step.after.path.now)
          c.args.work.now.memo.budget (as_set c.args.so_far, c.args.work.now.at) (made_at c.loop-n.work.at c.loop-n.left) c.loop-n.n so_far.ends
          (made_at c.off_way_if_other.new.work.at c.in_ok-left.left) made;
    }

pub returns-clause-answers : goal.returns-clause-answers
returns-clause-answers c =
    let step = c.args.step.now in
    let all : c.loop-n.n ≡ length step.before.crowd.men.now = omega arith in
    subst (λ k. Ends (each (clear_parts (home step.before.crowd.men.now) step.before.legs.now step.leg (is_live step.before.force.mask) step.option.taken k)
    (narrow (length step.after.path.now)) (as_set c.args.so_far, c.args.work.now.at)) c.args.work.now.memo.budget (made_at c.loop-n.work.at c.loop-n.left)) all
    c.loop-n.invariant.ends
