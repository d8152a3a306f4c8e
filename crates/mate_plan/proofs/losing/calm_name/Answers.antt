use Rattle.std.proofs.Common.{Option, refl}
use Rattle.std.proofs.lemmas.Result.{err_from_is_err_and}
use Rattle.lin_formula.specs.SetOf.{SetOf, as_set}
use Rattle.lin_formula.specs.declared.formula.SetId.{SetId}
use Rattle.rule_formula.specs.Fits.{masks_of}
use Rattle.set_plan.specs.Sets.{set_at}
use Rattle.set_plan.proofs.Composition.{Answers-later, Error-bind}
use Rattle.mate_plan.specs.Levels.{level_of}
use Rattle.mate_plan.specs.Plan.{Program, difference, pre_items, union}
use Rattle.mate_plan.specs.PlanOf.{rules_of}
use Rattle.mate_plan.specs.declared.names.Part.TheVariants as kind
use Rattle.mate_plan.proofs.Remainders.{left_answers}
use Rattle.mate_plan.proofs.losing.calm_name.Goals as goal

pub keep_without-requires-clause-one : goal.keep_without-requires-clause-one
keep_without-requires-clause-one c = rw c.part.ensures c.requires.reach

pub keep_without-requires-clause-other : goal.keep_without-requires-clause-other
keep_without-requires-clause-other c = rw c.part.ensures c.in_ok-escape.ensures.set

pub returns-in_err-escape-clause-answers : goal.returns-in_err-escape-clause-answers
returns-in_err-escape-clause-answers c =
    let p = err_from_is_err_and c.from_residual.result c.from_residual.ensures.1 in
    let source = set_at c.args.work.now.sets c.args.reach.name in
    let escape : Program SetOf =
    union (rules_of c.args.bench.now.position.now) c.args.reach.stage.ply c.args.reach.stage.mask kind.Escape
    (pre_items (rules_of c.args.bench.now.position.now) c.args.reach.stage.side c.args.reach.stage.mask source
    (level_of c.args.work.now.sets (masks_of c.args.bench.now.position.now) c.args.rests.now)) in
    rw (p.1, p.2)
    (Error-bind escape (difference (rules_of c.args.bench.now.position.now) c.args.reach.stage.ply c.args.reach.stage.mask kind.Calm source)
    c.args.work.now.memo.budget c.in_err-escape.field-0.0 c.in_err-escape.ensures.answers)

pub returns-clause-answers : goal.returns-clause-answers
returns-clause-answers c =
    let source = set_at c.args.work.now.sets c.args.reach.name in
    let escape : Program SetOf =
    union (rules_of c.args.bench.now.position.now) c.args.reach.stage.ply c.args.reach.stage.mask kind.Escape
    (pre_items (rules_of c.args.bench.now.position.now) c.args.reach.stage.side c.args.reach.stage.mask source
    (level_of c.args.work.now.sets (masks_of c.args.bench.now.position.now) c.args.rests.now)) in
    let left = c.in_ok-escape.escape in
    let view : Option SetId → SetOf = λ name. set_at c.keep_without.new.work.sets name in
    Answers-later escape (difference (rules_of c.args.bench.now.position.now) c.args.reach.stage.ply c.args.reach.stage.mask kind.Calm source)
    c.args.work.now.memo.budget view (as_set left) c.in_ok-escape.ensures.answers c.keep_without.result
    (left_answers c.args.bench.now.position.now c.args.reach.stage.ply c.args.reach.stage.mask kind.Calm c.part.result c.part.ensures source (as_set left) source (as_set left)
    _ c.args.work.now.memo.budget refl refl c.in_ok-escape.ensures.budget view c.keep_without.result c.keep_without.ensures.answers)

pub returns-clause-name : goal.returns-clause-name
returns-clause-name c = rw c.part.ensures at c.keep_without.ensures.name
