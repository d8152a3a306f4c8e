use Rattle.std.proofs.Common.{arith}
use Rattle.std.proofs.lemmas.Result.{IfOk-weaker}
use Rattle.lin_formula.specs.TreeOf.{tree_of}
use Rattle.mask_sets.specs.Stock.{mask_of}
use Rattle.rule_formula.specs.Mean.{mask_tracks}
use Rattle.rule_formula.proofs.MeanTheorem.{point_mean}
use Rattle.set_plan.specs.Sets.{made_of}
use Rattle.set_plan.proofs.Items.{made_on}
use Rattle.mate_plan.proofs.ItemSteps.{point_step}
use Rattle.mate_plan.proofs.StartAnswers.{plain_compilable, point_answers, some_live}
use Rattle.mate_plan.proofs.starting.point_set.Goals as goal

pub point_formula-requires : goal.point_formula-requires
point_formula-requires c = some_live c.args.bench.now.sound

pub make-requires-clause-compilable : goal.make-requires-clause-compilable
make-requires-clause-compilable c = plain_compilable c.table.result.now c.in_ok-formula.ensures.modest c.in_ok-formula.ensures.names

pub make-requires-clause-few : goal.make-requires-clause-few
make-requires-clause-few c =
    let few = c.in_ok-formula.ensures.modest.steps_are_few in
    omega (arith, few)

pub returns-clause-answers : goal.returns-clause-answers
returns-clause-answers c =
    point_answers c.args.bench.now.position.now c.args.mask c.table.result.now (tree_of c.in_ok-formula.formula) c.args.memo.now.budget
    c.in_ok-formula.ensures.tree made_of c.make.result c.make.ensures.answers

pub returns-clause-set : goal.returns-clause-set
returns-clause-set c =
    let f = tree_of c.in_ok-formula.formula in
    let means = point_mean c.args.bench.now.position.now in
    IfOk-weaker c.make.result _ _
    (λ made is. made_on (mask_tracks c.args.bench.now.position.now (mask_of c.args.bench.now.position.now)) f
    (point_step c.args.bench.now.position.now.men f c.in_ok-formula.ensures.tree) (means.tracks f c.in_ok-formula.ensures.tree) made.set is)
    c.make.ensures.set
