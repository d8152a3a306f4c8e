use Rattle.std.proofs.Common.{◌<◌, ◌≤◌, length, ◌∙◌, arith}
use Rattle.std.proofs.lemmas.Result.{err_from_is_err_and}
use Rattle.lin_formula.specs.SetOf.{as_set}
use Rattle.lin_formula.specs.Tree.{Not}
use Rattle.rule_formula.specs.declared.opt.Bearing.{Bearing}
use Rattle.set_plan.specs.Unite.{Made}
use Rattle.set_plan.proofs.Folds.{each_ends}
use Rattle.line_plan.specs.Plan.{Program, narrow}
use Rattle.line_engine.specs.Answers.{as_plan_error, made_at}
use Rattle.line_engine.proofs.EachLemmas.{each_error_at, each_more_at}
use Rattle.line_engine.proofs.StepLemmas.{bears_at}
use Rattle.line_engine.proofs.parts.without_bearings.Goals as goal

pub without_bearing-requires-clause-two : goal.without_bearing-requires-clause-two
without_bearing-requires-clause-two c = c.requires.men c.loop-bearing.bearing-index _ c.loop-bearing-test.true

pub returns-in_err-left-clause-answers : goal.returns-in_err-left-clause-answers
returns-in_err-left-clause-answers c =
    let node = c.args.node.now in
    let by : Bearing → Made → Program Made = λ b. narrow (length node.path.now) (Not (bears_at node b)) in
    let so_far = c.loop-bearing.invariant in
    let less : c.loop-bearing.bearing-index < length c.args.bearings.now = c.loop-bearing-test.true in
    let e = err_from_is_err_and c.from_residual.result c.from_residual.ensures.1 in
    let error = rw so_far.budget at c.in_err-left.ensures.answers in
    rw (e.1, e.2)
    (each_error_at c.args.bearings.now by (as_set c.args.so_far, c.args.work.now.at) c.args.work.now.memo.budget c.loop-bearing.bearing-index _
    (made_at c.loop-bearing.work.at c.loop-bearing.left) so_far.left less (as_plan_error c.in_err-left.field-0.0) error)

pub loop-bearing-preserved : goal.loop-bearing-preserved
loop-bearing-preserved c =
    let node = c.args.node.now in
    let by : Bearing → Made → Program Made = λ b. narrow (length node.path.now) (Not (bears_at node b)) in
    let so_far = c.loop-bearing.invariant in
    let less : c.loop-bearing.bearing-index < length c.args.bearings.now = c.loop-bearing-test.true in
    let made = rw so_far.budget at c.in_ok-left.ensures.answers in
    record {
      room = omega (arith, so_far.room, c.in_ok-left.ensures.room);
      set = c.in_ok-left.ensures.set;
      budget = c.in_ok-left.ensures.budget ∙ so_far.budget;
      left =
          each_more_at c.args.bearings.now by (as_set c.args.so_far, c.args.work.now.at) c.args.work.now.memo.budget c.loop-bearing.bearing-index _
          (made_at c.loop-bearing.work.at c.loop-bearing.left) so_far.left less
          (made_at c.without_bearing.new.work.at c.in_ok-left.left) made;
    }

pub returns-clause-answers : goal.returns-clause-answers
returns-clause-answers c =
    let node = c.args.node.now in
    let by : Bearing → Made → Program Made = λ b. narrow (length node.path.now) (Not (bears_at node b)) in
    let all : length c.args.bearings.now ≤ c.loop-bearing.bearing-index = c.loop-bearing-test.false in
    each_ends c.args.bearings.now by (as_set c.args.so_far, c.args.work.now.at) c.args.work.now.memo.budget c.loop-bearing.bearing-index
    (made_at c.loop-bearing.work.at c.loop-bearing.left) c.loop-bearing.invariant.left all
