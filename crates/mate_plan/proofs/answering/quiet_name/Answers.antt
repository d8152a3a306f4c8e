use Rattle.std.proofs.Common.{Option, refl}
use Rattle.std.proofs.lemmas.Result.{err_from_is_err_and}
use Rattle.lin_formula.specs.SetOf.{SetOf, as_set}
use Rattle.lin_formula.specs.declared.formula.SetId.{SetId}
use Rattle.game_rules.specs.Game.{other}
use Rattle.set_plan.specs.Sets.{set_at}
use Rattle.set_plan.proofs.Composition.{Answers-later, Error-bind}
use Rattle.mate_plan.specs.Plan.{Program, bear_items, difference, union}
use Rattle.mate_plan.specs.PlanOf.{rules_of}
use Rattle.mate_plan.specs.declared.names.Part.TheVariants as kind
use Rattle.mate_plan.proofs.Remainders.{left_answers}
use Rattle.mate_plan.proofs.answering.quiet_name.Goals as goal

pub keep_without-requires-clause-one : goal.keep_without-requires-clause-one
keep_without-requires-clause-one c = rw c.part.ensures c.requires.source

pub keep_without-requires-clause-other : goal.keep_without-requires-clause-other
keep_without-requires-clause-other c = rw c.part.ensures c.in_ok-check.ensures.set

pub returns-in_err-check-clause-answers : goal.returns-in_err-check-clause-answers
returns-in_err-check-clause-answers c =
    let p = err_from_is_err_and c.from_residual.result c.from_residual.ensures.1 in
    let source = set_at c.args.work.now.sets c.args.set.name in
    let check : Program SetOf =
    union (rules_of c.args.bench.now.position.now) c.args.set.stage.ply c.args.set.stage.mask kind.Check
    (bear_items (rules_of c.args.bench.now.position.now) (other c.args.set.stage.side) c.args.set.stage.mask source) in
    rw (p.1, p.2)
    (Error-bind check (difference (rules_of c.args.bench.now.position.now) c.args.set.stage.ply c.args.set.stage.mask kind.Quiet source)
    c.args.work.now.memo.budget c.in_err-check.field-0.0 c.in_err-check.ensures.answers)

pub returns-clause-answers : goal.returns-clause-answers
returns-clause-answers c =
    let source = set_at c.args.work.now.sets c.args.set.name in
    let check : Program SetOf =
    union (rules_of c.args.bench.now.position.now) c.args.set.stage.ply c.args.set.stage.mask kind.Check
    (bear_items (rules_of c.args.bench.now.position.now) (other c.args.set.stage.side) c.args.set.stage.mask source) in
    let left = c.in_ok-check.check in
    let view : Option SetId → SetOf = λ name. set_at c.keep_without.new.work.sets name in
    Answers-later check (difference (rules_of c.args.bench.now.position.now) c.args.set.stage.ply c.args.set.stage.mask kind.Quiet source)
    c.args.work.now.memo.budget view (as_set left) c.in_ok-check.ensures.answers c.keep_without.result
    (left_answers c.args.bench.now.position.now c.args.set.stage.ply c.args.set.stage.mask kind.Quiet c.part.result c.part.ensures source (as_set left) source (as_set left)
    _ c.args.work.now.memo.budget refl refl c.in_ok-check.ensures.budget view c.keep_without.result c.keep_without.ensures.answers)

pub returns-clause-name : goal.returns-clause-name
returns-clause-name c = rw c.part.ensures at c.keep_without.ensures.name
