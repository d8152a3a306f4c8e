use Rattle.std.proofs.Common.{◌<◌, ◌≤◌, length, ◌∙◌, arith}
use Rattle.std.proofs.lemmas.Result.{err_from_is_err_and}
use Rattle.lin_formula.specs.SetOf.{Nothing, Table}
use Rattle.rule_formula.specs.declared.opt.Bearing.{Bearing}
use Rattle.set_plan.specs.Unite.{Made, with_item}
use Rattle.set_plan.proofs.Folds.{each_ends}
use Rattle.line_plan.specs.Plan.{Program, distances, narrowed}
use Rattle.line_engine.specs.Answers.{as_plan_error, made_at}
use Rattle.line_engine.proofs.EachLemmas.{each_error_at, each_more_at}
use Rattle.line_engine.proofs.StepLemmas.{bears_at}
use Rattle.line_engine.proofs.parts.with_bearings.Goals as goal

pub with_bearing-requires-clause-two : goal.with_bearing-requires-clause-two
with_bearing-requires-clause-two c = c.requires.men c.loop-bearing.bearing-index _ c.loop-bearing-test.true

pub returns-in_err-so_far-clause-answers : goal.returns-in_err-so_far-clause-answers
returns-in_err-so_far-clause-answers c a is =
    let node = c.args.node.now in
    let by : Bearing → Made → Program Made = λ b. with_item {P = Unit {0}} (distances (length node.path.now)) tt (narrowed (length node.path.now) (bears_at node b) (Table a)) in
    let so_far = c.loop-bearing.invariant in
    let less : c.loop-bearing.bearing-index < length c.args.bearings.now = c.loop-bearing-test.true in
    let e = err_from_is_err_and c.from_residual.result c.from_residual.ensures.1 in
    let error = rw so_far.budget at (c.in_err-so_far.ensures.answers a is) in
    rw (e.1, e.2)
    (each_error_at c.args.bearings.now by (Nothing, c.args.work.now.at) c.args.work.now.memo.budget c.loop-bearing.bearing-index _
    (made_at c.loop-bearing.work.at c.loop-bearing.so_far) (so_far.left a is) less (as_plan_error c.in_err-so_far.field-0.0) error)

pub loop-bearing-preserved : goal.loop-bearing-preserved
loop-bearing-preserved c =
    let node = c.args.node.now in
    let so_far = c.loop-bearing.invariant in
    let less : c.loop-bearing.bearing-index < length c.args.bearings.now = c.loop-bearing-test.true in
    record {
      room = omega (arith, so_far.room, c.in_ok-so_far.ensures.room);
      set = c.in_ok-so_far.ensures.set;
      budget = c.in_ok-so_far.ensures.budget ∙ so_far.budget;
      left = λ a is.
          let by : Bearing → Made → Program Made = λ b. with_item {P = Unit {0}} (distances (length node.path.now)) tt (narrowed (length node.path.now) (bears_at node b) (Table a)) in
          let made = rw so_far.budget at (c.in_ok-so_far.ensures.answers a is) in
          each_more_at c.args.bearings.now by (Nothing, c.args.work.now.at) c.args.work.now.memo.budget c.loop-bearing.bearing-index _
          (made_at c.loop-bearing.work.at c.loop-bearing.so_far) (so_far.left a is) less
          (made_at c.with_bearing.new.work.at c.in_ok-so_far.so_far) made;
    }

pub returns-clause-answers : goal.returns-clause-answers
returns-clause-answers c a is =
    let node = c.args.node.now in
    let by : Bearing → Made → Program Made = λ b. with_item {P = Unit {0}} (distances (length node.path.now)) tt (narrowed (length node.path.now) (bears_at node b) (Table a)) in
    let all : length c.args.bearings.now ≤ c.loop-bearing.bearing-index = c.loop-bearing-test.false in
    each_ends c.args.bearings.now by (Nothing, c.args.work.now.at) c.args.work.now.memo.budget c.loop-bearing.bearing-index
    (made_at c.loop-bearing.work.at c.loop-bearing.so_far) (c.loop-bearing.invariant.left a is) all
