use Rattle.std.proofs.Common.{◌≡◌, ◌≤◌, length, List, ap, ◌∙◌, sym, subst}
use Rattle.std.proofs.lemmas.Result.{err_from_is_err_and}
use Rattle.game_rules.specs.Game.{other}
use Rattle.lin_formula.specs.SetOf.{as_set}
use Rattle.rule_formula.specs.declared.opt.Bearing.{Bearing}
use Rattle.rule_formula.specs.Bearings.{bearings_of}
use Rattle.rule_formula.specs.Fits.{masks_of}
use Rattle.set_plan.specs.Outcome.{Answers}
use Rattle.set_plan.proofs.Composition.{Answers-later, Error-bind}
use Rattle.mate_plan.specs.Levels.{level_of}
use Rattle.mate_plan.specs.Plan.{image_items, narrow, union}
use Rattle.mate_plan.specs.PlanOf.{rules_of}
use Rattle.mate_plan.specs.declared.names.Part.TheVariants as kind
use Rattle.mate_plan.proofs.Counts.{bearings_few}
use Rattle.mate_plan.proofs.PartItems.{bearings_all}
use Rattle.mate_plan.proofs.UnionAnswers.{game_on}
use Rattle.mate_plan.proofs.reaching.reach_set.Goals as goal

pub narrow-requires-clause-bearings : goal.narrow-requires-clause-bearings
narrow-requires-clause-bearings c =
    let are : c.as_slice.result.now ≡ bearings_of c.args.bench.now.position.now.men c.args.mask (other c.args.from.now.side) =
    c.as_slice.ensures.value ∙ c.in_ok-attacks.ensures.list ∙ ap (λ s. bearings_of c.args.bench.now.position.now.men c.args.mask s) c.other.ensures in
    bearings_all c.args.bench.now.position.now c.args.mask (other c.args.from.now.side) c.as_slice.result.now
    (game_on c.args.bench.now) c.requires.mask are

pub narrow-requires-clause-few : goal.narrow-requires-clause-few
narrow-requires-clause-few c =
    let are : c.as_slice.result.now ≡ bearings_of c.args.bench.now.position.now.men c.args.mask (other c.args.from.now.side) =
    c.as_slice.ensures.value ∙ c.in_ok-attacks.ensures.list ∙ ap (λ s. bearings_of c.args.bench.now.position.now.men c.args.mask s) c.other.ensures in
    let Few : List Bearing → Type 0 = λ l. length l ≤ 1000 in
    subst Few (sym are) (bearings_few c.args.bench.now.position.now.men c.args.mask (other c.args.from.now.side) c.args.bench.now.few)

pub returns-in_err-moved-clause-answers : goal.returns-in_err-moved-clause-answers
returns-in_err-moved-clause-answers c =
    let p = err_from_is_err_and c.from_residual.result c.from_residual.ensures.1 in
    rw (p.1, p.2)
    (Error-bind
    (union (rules_of c.args.bench.now.position.now) c.args.from.now.ply c.args.mask kind.Image
    (image_items (rules_of c.args.bench.now.position.now) c.args.from.now.side c.args.mask
    (level_of c.args.work.now.sets (masks_of c.args.bench.now.position.now) c.args.from.now.level.now)))
    (narrow (rules_of c.args.bench.now.position.now) c.args.from.now.ply c.args.mask
    (bearings_of c.args.bench.now.position.now.men c.args.mask (other c.args.from.now.side)))
    c.args.work.now.memo.budget c.in_err-moved.field-0.0 c.in_err-moved.ensures.answers)

pub returns-clause-answers : goal.returns-clause-answers
returns-clause-answers c =
    let are : c.as_slice.result.now ≡ bearings_of c.args.bench.now.position.now.men c.args.mask (other c.args.from.now.side) =
    c.as_slice.ensures.value ∙ c.in_ok-attacks.ensures.list ∙ ap (λ s. bearings_of c.args.bench.now.position.now.men c.args.mask s) c.other.ensures in
    let narrowed = rw c.in_ok-moved.ensures.budget at c.narrow.ensures.answers in
    let By : List Bearing → Type 0 =
    λ l. Answers (narrow (rules_of c.args.bench.now.position.now) c.args.from.now.ply c.args.mask l (as_set c.in_ok-moved.moved))
    c.args.work.now.memo.budget as_set c.narrow.result in
    Answers-later
    (union (rules_of c.args.bench.now.position.now) c.args.from.now.ply c.args.mask kind.Image
    (image_items (rules_of c.args.bench.now.position.now) c.args.from.now.side c.args.mask
    (level_of c.args.work.now.sets (masks_of c.args.bench.now.position.now) c.args.from.now.level.now)))
    (narrow (rules_of c.args.bench.now.position.now) c.args.from.now.ply c.args.mask
    (bearings_of c.args.bench.now.position.now.men c.args.mask (other c.args.from.now.side)))
    c.args.work.now.memo.budget as_set (as_set c.in_ok-moved.moved) c.in_ok-moved.ensures.answers c.narrow.result (subst By are narrowed)
