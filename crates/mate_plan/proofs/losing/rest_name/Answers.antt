use Rattle.std.proofs.Common.{Ok, Err, refl, ◌∙◌}
use Rattle.std.proofs.lemmas.Result.{err_from_is_err_and}
use Rattle.rule_formula.specs.Fits.{masks_of}
use Rattle.rule_formula.specs.Mean.{mask_tracks}
use Rattle.set_plan.specs.Sets.{left_of, lent, set_at}
use Rattle.mate_plan.specs.Levels.{level_of}
use Rattle.mate_plan.specs.Plan.{name}
use Rattle.mate_plan.specs.declared.names.Part.TheVariants as kind
use Rattle.mate_plan.proofs.LevelLemmas.{name_is_found, set_is_found}
use Rattle.mate_plan.proofs.Remainders.{left_answers}
use Rattle.mate_plan.proofs.losing.rest_name.Goals as goal

pub lent-other-requires : goal.lent-other-requires
lent-other-requires c = (
  mask_tracks c.args.bench.now.position.now c.args.mask,
  name_is_found c.args.bench.now.position.now.men c.args.work.now.sets (masks_of c.args.bench.now.position.now)
      (masks_of c.args.bench.now.position.now) c.args.from.now.kept.now c.args.mask c.name_in.result refl c.name_in.ensures c.requires.kept,
)

pub left_without-requires-clause-one : goal.left_without-requires-clause-one
left_without-requires-clause-one c =
    name_is_found c.args.bench.now.position.now.men c.args.work.now.sets (masks_of c.args.bench.now.position.now)
    (masks_of c.args.bench.now.position.now) c.args.from.now.reach.now c.args.mask c.name_in-name.result refl c.name_in-name.ensures
    c.requires.reach

pub left_without-requires-clause-other : goal.left_without-requires-clause-other
left_without-requires-clause-other c =
    c.lent-other.ensures.on (mask_tracks c.args.bench.now.position.now c.args.mask)
    (name_is_found c.args.bench.now.position.now.men c.args.work.now.sets (masks_of c.args.bench.now.position.now)
    (masks_of c.args.bench.now.position.now) c.args.from.now.kept.now c.args.mask c.name_in.result refl c.name_in.ensures c.requires.kept)

pub returns-in_err-left-clause-answers : goal.returns-in_err-left-clause-answers
returns-in_err-left-clause-answers c =
    let p = err_from_is_err_and c.from_residual.result c.from_residual.ensures.1 in
    let masks = masks_of c.args.bench.now.position.now in
    let one = set_is_found c.args.work.now.sets masks masks c.args.from.now.reach.now c.args.mask c.name_in-name.result refl c.name_in-name.ensures in
    let other = c.lent-other.ensures.set ∙ set_is_found c.args.work.now.sets masks masks c.args.from.now.kept.now c.args.mask c.name_in.result refl c.name_in.ensures in
    rw (p.1, p.2)
    (left_answers c.args.bench.now.position.now c.args.from.now.ply c.args.mask kind.Rest (name c.args.from.now.ply c.args.mask kind.Rest) refl
    (set_at c.args.work.now.sets c.name_in-name.result) (lent c.lent-other.result)
    (level_of c.args.work.now.sets masks c.args.from.now.reach.now c.args.mask)
    (level_of c.args.work.now.sets masks c.args.from.now.kept.now c.args.mask) c.budget-budget.result c.args.work.now.memo.budget one other
    c.budget-budget.ensures.is (left_of (set_at c.args.work.now.sets c.name_in-name.result)) (Err c.in_err-left.field-0.0)
    c.in_err-left.ensures.answers)

pub returns-clause-answers : goal.returns-clause-answers
returns-clause-answers c =
    let masks = masks_of c.args.bench.now.position.now in
    let one = set_is_found c.args.work.now.sets masks masks c.args.from.now.reach.now c.args.mask c.name_in-name.result refl c.name_in-name.ensures in
    let other = c.lent-other.ensures.set ∙ set_is_found c.args.work.now.sets masks masks c.args.from.now.kept.now c.args.mask c.name_in.result refl c.name_in.ensures in
    rw c.in_ok-keep_left.ensures.set
    (left_answers c.args.bench.now.position.now c.args.from.now.ply c.args.mask kind.Rest (name c.args.from.now.ply c.args.mask kind.Rest) refl
    (set_at c.args.work.now.sets c.name_in-name.result) (lent c.lent-other.result)
    (level_of c.args.work.now.sets masks c.args.from.now.reach.now c.args.mask)
    (level_of c.args.work.now.sets masks c.args.from.now.kept.now c.args.mask) c.budget-budget.result c.args.work.now.memo.budget one other
    c.budget-budget.ensures.is (left_of (set_at c.args.work.now.sets c.name_in-name.result)) (Ok c.in_ok-left.left) c.in_ok-left.ensures.answers)

pub returns-clause-name : goal.returns-clause-name
returns-clause-name c =
    c.in_ok-keep_left.ensures.name (mask_tracks c.args.bench.now.position.now c.args.mask)
    (name_is_found c.args.bench.now.position.now.men c.args.work.now.sets (masks_of c.args.bench.now.position.now)
    (masks_of c.args.bench.now.position.now) c.args.from.now.reach.now c.args.mask c.name_in-name.result refl c.name_in-name.ensures
    c.requires.reach)
    c.in_ok-left.ensures.set
