use Rattle.std.proofs.Common.{◌≡◌, map, refl, sym, ap, ◌∙◌}
use Rattle.lin_formula.specs.TreeOf.{tree_of}
use Rattle.rule_formula.specs.Fits.{masks_of}
use Rattle.rule_formula.specs.Mean.{mask_tracks}
use Rattle.mate_plan.specs.Levels.{level_of}
use Rattle.mate_plan.specs.Plan.{name}
use Rattle.mate_plan.specs.Twins.{twin_items, twin_trees}
use Rattle.mate_plan.specs.declared.names.Part.TheVariants as kind
use Rattle.mate_plan.proofs.EmptyAnswers.{empty_answers, empty_items}
use Rattle.mate_plan.proofs.LevelLemmas.{name_is_found, set_is_found}
use Rattle.mate_plan.proofs.TwinItems.{twins_few, twins_on, twins_thin}
use Rattle.mate_plan.proofs.UnionAnswers.{few_formulas, game_on}
use Rattle.mate_plan.proofs.apart.are_on_distinct_squares.Goals as goal

pub are_empty-requires-clause-items : goal.are_empty-requires-clause-items
are_empty-requires-clause-items c =
    let masks = masks_of c.args.bench.now.position.now in
    let mask = c.args.at.now.stage.mask in
    let source = c.name_in-source.result in
    let trees : map tree_of c.deref.result.now ≡ twin_trees c.args.bench.now.position.now mask source = ap (λ l. map tree_of l) c.deref.ensures.value ∙ c.in_ok-formulas.ensures in
    let on = name_is_found c.args.bench.now.position.now.men c.args.work.now.sets masks masks c.args.at.now.level.now mask source refl c.name_in-source.ensures c.requires.level in
    empty_items c.table.result.now c.args.work.now.sets c.table.ensures c.deref.result.now (twin_trees c.args.bench.now.position.now mask source) trees (mask_tracks c.args.bench.now.position.now mask)
    (twins_on c.args.bench.now.position.now (game_on c.args.bench.now) c.args.work.now.sets mask c.requires.mask source on)

pub are_empty-requires-clause-few : goal.are_empty-requires-clause-few
are_empty-requires-clause-few c =
    let mask = c.args.at.now.stage.mask in
    let source = c.name_in-source.result in
    let trees : map tree_of c.deref.result.now ≡ twin_trees c.args.bench.now.position.now mask source = ap (λ l. map tree_of l) c.deref.ensures.value ∙ c.in_ok-formulas.ensures in
    few_formulas c.deref.result.now (twin_trees c.args.bench.now.position.now mask source) trees (twins_few c.args.bench.now.position.now mask source c.args.bench.now.few)

pub returns-clause-answers : goal.returns-clause-answers
returns-clause-answers c =
    let masks = masks_of c.args.bench.now.position.now in
    let mask = c.args.at.now.stage.mask in
    let source = c.name_in-source.result in
    let s = level_of c.args.work.now.sets masks c.args.at.now.level.now mask in
    let trees : map tree_of c.deref.result.now ≡ twin_trees c.args.bench.now.position.now mask source = ap (λ l. map tree_of l) c.deref.ensures.value ∙ c.in_ok-formulas.ensures in
    let is = set_is_found c.args.work.now.sets masks masks c.args.at.now.level.now mask source refl c.name_in-source.ensures in
    empty_answers c.table.result.now c.args.work.now.sets c.table.ensures c.deref.result.now (twin_trees c.args.bench.now.position.now mask source)
    trees c.part-part.result (name c.args.at.now.stage.ply mask kind.Same)
    (twin_items c.args.bench.now.position.now mask s) c.args.work.now.memo.budget c.are_empty.result c.part-part.ensures
    (twins_thin c.args.bench.now.position.now (game_on c.args.bench.now) c.args.work.now.sets mask
    c.requires.mask source s (sym is))
    c.are_empty.ensures.answers
