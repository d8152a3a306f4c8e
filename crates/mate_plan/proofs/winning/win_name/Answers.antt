use Rattle.std.proofs.Common.{refl, subst}
use Rattle.std.proofs.lemmas.Result.{err_from_is_err_and}
use Rattle.lin_formula.specs.SetOf.{SetOf, as_set}
use Rattle.rule_formula.specs.Fits.{masks_of}
use Rattle.rule_formula.specs.Mean.{mask_tracks}
use Rattle.set_plan.specs.Outcome.{Ends, IsPlanError}
use Rattle.mate_plan.specs.Levels.{level_of}
use Rattle.mate_plan.specs.Plan.{pre_items, union}
use Rattle.mate_plan.specs.PlanOf.{rules_of}
use Rattle.mate_plan.specs.declared.names.Part.TheVariants as kind
use Rattle.mate_plan.proofs.LevelLemmas.{name_is_found, on_from_kept, set_is_found}
use Rattle.mate_plan.proofs.winning.win_name.Goals as goal

pub pre_set-requires-clause-source : goal.pre_set-requires-clause-source
pre_set-requires-clause-source c =
    name_is_found c.args.bench.now.position.now.men c.args.work.now.sets (masks_of c.args.bench.now.position.now)
    (masks_of c.args.bench.now.position.now) c.args.from.now.reach.now c.args.mask c.name_in-name.result refl c.name_in-name.ensures
    c.requires.reach

pub returns-in_err-set-clause-answers : goal.returns-in_err-set-clause-answers
returns-in_err-set-clause-answers c =
    let p = err_from_is_err_and c.from_residual.result c.from_residual.ensures.1 in
    let From : SetOf → Type 0 =
    λ s. IsPlanError
    (union (rules_of c.args.bench.now.position.now) c.args.from.now.ply c.args.mask kind.Win
    (pre_items (rules_of c.args.bench.now.position.now) c.args.from.now.side c.args.mask s
    (level_of c.args.work.now.sets (masks_of c.args.bench.now.position.now) c.args.from.now.next_kept.now)))
    c.args.work.now.memo.budget c.in_err-set.field-0.0 in
    rw (p.1, p.2)
    (subst From
    (set_is_found c.args.work.now.sets (masks_of c.args.bench.now.position.now) (masks_of c.args.bench.now.position.now)
    c.args.from.now.reach.now c.args.mask c.name_in-name.result refl c.name_in-name.ensures)
    c.in_err-set.ensures.answers)

pub returns-clause-answers : goal.returns-clause-answers
returns-clause-answers c =
    let From : SetOf → Type 0 =
    λ s. Ends
    (union (rules_of c.args.bench.now.position.now) c.args.from.now.ply c.args.mask kind.Win
    (pre_items (rules_of c.args.bench.now.position.now) c.args.from.now.side c.args.mask s
    (level_of c.args.work.now.sets (masks_of c.args.bench.now.position.now) c.args.from.now.next_kept.now)))
    c.args.work.now.memo.budget (as_set c.in_ok-set.set) in
    rw c.in_ok-keep.ensures.ok
    (subst From
    (set_is_found c.args.work.now.sets (masks_of c.args.bench.now.position.now) (masks_of c.args.bench.now.position.now)
    c.args.from.now.reach.now c.args.mask c.name_in-name.result refl c.name_in-name.ensures)
    c.in_ok-set.ensures.answers)

pub returns-clause-name : goal.returns-clause-name
returns-clause-name c =
    on_from_kept (mask_tracks c.args.bench.now.position.now c.args.mask) c.keep.new.self c.in_ok-set.set c.in_ok-keep.field-0 c.in_ok-set.ensures.set
    c.in_ok-keep.ensures.ok c.in_ok-keep.ensures.within
