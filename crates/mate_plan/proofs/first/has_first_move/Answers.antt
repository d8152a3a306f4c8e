use Rattle.std.proofs.Common.{ℕ, ◌∙◌, subst, arith}
use Rattle.std.proofs.lemmas.Result.{err_from_is_err_and}
use Rattle.lin_formula.specs.SetOf.{as_set}
use Rattle.rule_formula.specs.Fits.{masks_of}
use Rattle.mask_sets.specs.Stock.{mask_of}
use Rattle.mask_sets.specs.Tuple.{tuple_of}
use Rattle.set_plan.specs.Outcome.{Ends, IsPlanError}
use Rattle.mate_plan.specs.Levels.{level_of}
use Rattle.mate_plan.specs.Plan.{Level, pre_items, union}
use Rattle.mate_plan.specs.PlanOf.{rules_of}
use Rattle.mate_plan.specs.declared.names.Part.TheVariants as kind
use Rattle.mate_plan.proofs.FirstMoves.{first_ends, first_error, start_error}
use Rattle.mate_plan.proofs.LevelLemmas.{grows_cut, length-grows, level-grows, names-grow}
use Rattle.mate_plan.proofs.first.has_first_move.Goals as goal

pub first_set-requires-clause-into : goal.first_set-requires-clause-into
first_set-requires-clause-into c =
    names-grow c.args.bench.now.position.now.men c.args.work.now.sets c.point_level.new.work.sets (masks_of c.args.bench.now.position.now)
    c.args.into.now c.in_ok-start.ensures.later.grows c.requires.into

pub truncate-requires : goal.truncate-requires
truncate-requires c =
    let more = length-grows c.args.work.now.sets c.point_level.new.work.sets c.in_ok-start.ensures.later.grows in
    omega (arith, more, c.count-count.ensures)

pub returns-in_err-start-clause-answers : goal.returns-in_err-start-clause-answers
returns-in_err-start-clause-answers c =
    let e = err_from_is_err_and c.from_residual.result c.from_residual.ensures.1 in
    let p = c.args.bench.now.position.now in
    rw (e.1, e.2)
    (start_error (rules_of p) p.turn (mask_of p) c.args.work.now.memo.budget (tuple_of p)
    (level_of c.args.work.now.sets (masks_of p) c.args.into.now) c.in_err-start.field-0.0 c.in_err-start.ensures.answers)

pub returns-in_err-first-clause-answers : goal.returns-in_err-first-clause-answers
returns-in_err-first-clause-answers c =
    let e = err_from_is_err_and c.from_residual-in_err-first.result c.from_residual-in_err-first.ensures.1 in
    let p = c.args.bench.now.position.now in
    let start : Level = level_of c.point_level.new.work.sets (masks_of p) c.in_ok-start.start in
    let grown = level-grows p.men c.args.work.now.sets c.point_level.new.work.sets (masks_of p) c.args.into.now c.in_ok-start.ensures.later.grows c.requires.into in
    let Within : ℕ → Type 0 =
    λ b. IsPlanError
    (union (rules_of p) 0 (mask_of p) kind.First
    (pre_items (rules_of p) p.turn (mask_of p) (start (mask_of p)) (level_of c.point_level.new.work.sets (masks_of p) c.args.into.now)))
    b c.in_err-first.field-0.0 in
    let Into : Level → Type 0 =
    λ l. IsPlanError (union (rules_of p) 0 (mask_of p) kind.First (pre_items (rules_of p) p.turn (mask_of p) (start (mask_of p)) l))
    c.args.work.now.memo.budget c.in_err-first.field-0.0 in
    rw (e.1, e.2)
    (first_error (rules_of p) p.turn (mask_of p) c.args.work.now.memo.budget (tuple_of p) (level_of c.args.work.now.sets (masks_of p) c.args.into.now)
    start c.in_err-first.field-0.0 c.in_ok-start.ensures.answers
    (subst Into grown (subst Within c.in_ok-start.ensures.later.budget c.in_err-first.ensures.answers)))

pub returns-clause-answers : goal.returns-clause-answers
returns-clause-answers c =
    let p = c.args.bench.now.position.now in
    let first = as_set c.in_ok-first.first in
    let start : Level = level_of c.point_level.new.work.sets (masks_of p) c.in_ok-start.start in
    let grown = level-grows p.men c.args.work.now.sets c.point_level.new.work.sets (masks_of p) c.args.into.now c.in_ok-start.ensures.later.grows c.requires.into in
    let Within : ℕ → Type 0 =
    λ b. Ends
    (union (rules_of p) 0 (mask_of p) kind.First
    (pre_items (rules_of p) p.turn (mask_of p) (start (mask_of p)) (level_of c.point_level.new.work.sets (masks_of p) c.args.into.now)))
    b first in
    let Into : Level → Type 0 = λ l. Ends (union (rules_of p) 0 (mask_of p) kind.First (pre_items (rules_of p) p.turn (mask_of p) (start (mask_of p)) l)) c.args.work.now.memo.budget first in
    first_ends (rules_of p) p.turn (mask_of p) c.args.work.now.memo.budget (tuple_of p) (level_of c.args.work.now.sets (masks_of p) c.args.into.now)
    start first c.has_coordinates.result c.in_ok-start.ensures.answers
    (subst Into grown (subst Within c.in_ok-start.ensures.later.budget c.in_ok-first.ensures.answers)) c.has_coordinates.ensures

pub returns-clause-later : goal.returns-clause-later
returns-clause-later c =
    record {
      grows = rw c.truncate.ensures (grows_cut c.args.work.now.sets c.point_level.new.work.sets c.count-count.result c.count-count.ensures c.in_ok-start.ensures.later.grows);
      budget = c.in_ok-first.ensures.budget ∙ c.in_ok-start.ensures.later.budget;
    }
