use Rattle.std.proofs.Common.{◌≡◌, map, ap, ◌∙◌}
use Rattle.lin_formula.specs.TreeOf.{tree_of}
use Rattle.mate_plan.specs.Formulas.{image_trees}
use Rattle.mate_plan.specs.Plan.{name}
use Rattle.mate_plan.specs.declared.names.Part.TheVariants as kind
use Rattle.mate_plan.proofs.Counts.{images_few}
use Rattle.mate_plan.proofs.PartItems.{images_on, images_thin}
use Rattle.mate_plan.proofs.UnionAnswers.{few_formulas, game_on, items_on, set_on, union_answers}
use Rattle.mate_plan.proofs.unions.image_set.Goals as goal

pub united-requires-clause-items : goal.united-requires-clause-items
united-requires-clause-items c =
    let trees : map tree_of c.deref.result.now ≡ image_trees c.args.bench.now.position.now c.args.stage.side c.args.stage.mask c.args.level.now =
    ap (λ l. map tree_of l) c.deref.ensures.value ∙ c.in_ok-formulas.ensures in
    let game = game_on c.args.bench.now in
    items_on c.args.bench.now.position.now c.args.sets.now c.part.result (name c.args.stage.ply c.args.stage.mask kind.Image) c.part.ensures c.deref.result.now _ trees
    (images_on c.args.bench.now.position.now game c.args.sets.now c.args.stage.side c.args.stage.mask c.args.level.now c.requires.level)

pub united-requires-clause-few : goal.united-requires-clause-few
united-requires-clause-few c =
    let trees : map tree_of c.deref.result.now ≡ image_trees c.args.bench.now.position.now c.args.stage.side c.args.stage.mask c.args.level.now =
    ap (λ l. map tree_of l) c.deref.ensures.value ∙ c.in_ok-formulas.ensures in
    few_formulas c.deref.result.now _ trees (images_few c.args.bench.now.position.now c.args.stage.side c.args.stage.mask c.args.level.now c.args.bench.now.few)

pub returns-clause-answers : goal.returns-clause-answers
returns-clause-answers c =
    let trees : map tree_of c.deref.result.now ≡ image_trees c.args.bench.now.position.now c.args.stage.side c.args.stage.mask c.args.level.now =
    ap (λ l. map tree_of l) c.deref.ensures.value ∙ c.in_ok-formulas.ensures in
    let game = game_on c.args.bench.now in
    union_answers c.args.bench.now.position.now c.args.sets.now c.part.result (name c.args.stage.ply c.args.stage.mask kind.Image) c.part.ensures
    c.deref.result.now _ _ c.args.memo.now.budget c.united.result trees
    (images_thin c.args.bench.now.position.now game c.args.sets.now c.args.stage.side c.args.stage.mask c.args.level.now) c.united.ensures.answers

pub returns-clause-set : goal.returns-clause-set
returns-clause-set c = set_on c.args.bench.now.position.now c.args.sets.now c.part.result (name c.args.stage.ply c.args.stage.mask kind.Image) c.part.ensures c.united.result c.united.ensures.set
