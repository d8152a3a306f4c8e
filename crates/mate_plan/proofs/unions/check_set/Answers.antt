use Rattle.std.proofs.Common.{◌≡◌, map, ap, refl, ◌∙◌}
use Rattle.game_rules.specs.Game.{other}
use Rattle.lin_formula.specs.TreeOf.{tree_of}
use Rattle.set_plan.specs.Sets.{set_at}
use Rattle.mate_plan.specs.Formulas.{bear_trees}
use Rattle.mate_plan.specs.Plan.{name}
use Rattle.mate_plan.specs.declared.names.Part.TheVariants as kind
use Rattle.mate_plan.proofs.Counts.{bears_few}
use Rattle.mate_plan.proofs.PartItems.{bears_on, bears_thin}
use Rattle.mate_plan.proofs.UnionAnswers.{few_formulas, game_on, items_on, set_on, union_answers}
use Rattle.mate_plan.proofs.unions.check_set.Goals as goal

pub united-requires-clause-items : goal.united-requires-clause-items
united-requires-clause-items c =
    let trees : map tree_of c.deref.result.now ≡ bear_trees c.args.bench.now.position.now (other c.args.source.stage.side) c.args.source.stage.mask
    c.args.source.name =
    ap (λ l. map tree_of l) c.deref.ensures.value ∙ c.in_ok-formulas.ensures
    ∙ ap (λ s. bear_trees c.args.bench.now.position.now s c.args.source.stage.mask c.args.source.name) c.other.ensures in
    let game = game_on c.args.bench.now in
    items_on c.args.bench.now.position.now c.args.sets.now c.part.result (name c.args.source.stage.ply c.args.source.stage.mask kind.Check) c.part.ensures c.deref.result.now _ trees
    (bears_on c.args.bench.now.position.now game c.args.sets.now (other c.args.source.stage.side) c.args.source.name c.requires.mask c.requires.source)

pub united-requires-clause-few : goal.united-requires-clause-few
united-requires-clause-few c =
    let trees : map tree_of c.deref.result.now ≡ bear_trees c.args.bench.now.position.now (other c.args.source.stage.side) c.args.source.stage.mask
    c.args.source.name =
    ap (λ l. map tree_of l) c.deref.ensures.value ∙ c.in_ok-formulas.ensures
    ∙ ap (λ s. bear_trees c.args.bench.now.position.now s c.args.source.stage.mask c.args.source.name) c.other.ensures in
    few_formulas c.deref.result.now _ trees (bears_few c.args.bench.now.position.now (other c.args.source.stage.side) c.args.source.stage.mask c.args.source.name c.args.bench.now.few)

pub returns-clause-answers : goal.returns-clause-answers
returns-clause-answers c =
    let trees : map tree_of c.deref.result.now ≡ bear_trees c.args.bench.now.position.now (other c.args.source.stage.side) c.args.source.stage.mask
    c.args.source.name =
    ap (λ l. map tree_of l) c.deref.ensures.value ∙ c.in_ok-formulas.ensures
    ∙ ap (λ s. bear_trees c.args.bench.now.position.now s c.args.source.stage.mask c.args.source.name) c.other.ensures in
    let game = game_on c.args.bench.now in
    union_answers c.args.bench.now.position.now c.args.sets.now c.part.result (name c.args.source.stage.ply c.args.source.stage.mask kind.Check)
    c.part.ensures c.deref.result.now _ _ c.args.memo.now.budget c.united.result trees
    (bears_thin c.args.bench.now.position.now game c.args.sets.now (other c.args.source.stage.side) c.args.source.stage.mask c.args.source.name
    (set_at c.args.sets.now c.args.source.name) refl)
    c.united.ensures.answers

pub returns-clause-set : goal.returns-clause-set
returns-clause-set c =
    set_on c.args.bench.now.position.now c.args.sets.now c.part.result (name c.args.source.stage.ply c.args.source.stage.mask kind.Check)
    c.part.ensures c.united.result c.united.ensures.set
