use Rattle.std.proofs.Common.{◌≡◌, map, ap, refl, ◌∙◌}
use Rattle.lin_formula.specs.TreeOf.{tree_of}
use Rattle.set_plan.specs.Sets.{set_at}
use Rattle.mate_plan.specs.Formulas.{pre_trees}
use Rattle.mate_plan.specs.Plan.{name}
use Rattle.mate_plan.proofs.Counts.{pres_few}
use Rattle.mate_plan.proofs.PartItems.{pres_on, pres_thin}
use Rattle.mate_plan.proofs.UnionAnswers.{few_formulas, game_on, items_on, set_on, union_answers}
use Rattle.mate_plan.proofs.unions.pre_set.Goals as goal

pub united-requires-clause-items : goal.united-requires-clause-items
united-requires-clause-items c =
    let trees : map tree_of c.deref.result.now ≡ pre_trees c.args.bench.now.position.now c.args.moves.now.set.stage.side
    c.args.moves.now.set.stage.mask c.args.moves.now.set.name c.args.moves.now.into.now =
    ap (λ l. map tree_of l) c.deref.ensures.value ∙ c.in_ok-formulas.ensures in
    let game = game_on c.args.bench.now in
    items_on c.args.bench.now.position.now c.args.sets.now c.part.result
    (name c.args.moves.now.set.stage.ply c.args.moves.now.set.stage.mask c.args.moves.now.part) c.part.ensures c.deref.result.now _ trees
    (pres_on c.args.bench.now.position.now game c.args.sets.now c.args.moves.now.set.stage.side c.args.moves.now.set.stage.mask
    c.args.moves.now.set.name c.args.moves.now.into.now c.requires.source c.requires.targets)

pub united-requires-clause-few : goal.united-requires-clause-few
united-requires-clause-few c =
    let trees : map tree_of c.deref.result.now ≡ pre_trees c.args.bench.now.position.now c.args.moves.now.set.stage.side
    c.args.moves.now.set.stage.mask c.args.moves.now.set.name c.args.moves.now.into.now =
    ap (λ l. map tree_of l) c.deref.ensures.value ∙ c.in_ok-formulas.ensures in
    few_formulas c.deref.result.now _ trees
    (pres_few c.args.bench.now.position.now c.args.moves.now.set.stage.side c.args.moves.now.set.stage.mask c.args.moves.now.set.name
    c.args.moves.now.into.now c.args.bench.now.few)

pub returns-clause-answers : goal.returns-clause-answers
returns-clause-answers c =
    let trees : map tree_of c.deref.result.now ≡ pre_trees c.args.bench.now.position.now c.args.moves.now.set.stage.side
    c.args.moves.now.set.stage.mask c.args.moves.now.set.name c.args.moves.now.into.now =
    ap (λ l. map tree_of l) c.deref.ensures.value ∙ c.in_ok-formulas.ensures in
    let game = game_on c.args.bench.now in
    union_answers c.args.bench.now.position.now c.args.sets.now c.part.result
    (name c.args.moves.now.set.stage.ply c.args.moves.now.set.stage.mask c.args.moves.now.part) c.part.ensures c.deref.result.now _ _
    c.args.memo.now.budget c.united.result trees
    (pres_thin c.args.bench.now.position.now game c.args.sets.now c.args.moves.now.set.stage.side c.args.moves.now.set.stage.mask
    c.args.moves.now.set.name (set_at c.args.sets.now c.args.moves.now.set.name) c.args.moves.now.into.now refl)
    c.united.ensures.answers

pub returns-clause-set : goal.returns-clause-set
returns-clause-set c =
    set_on c.args.bench.now.position.now c.args.sets.now c.part.result
    (name c.args.moves.now.set.stage.ply c.args.moves.now.set.stage.mask c.args.moves.now.part) c.part.ensures c.united.result
    c.united.ensures.set
