use Rattle.std.proofs.Common.{Bool, refl, subst}
use Rattle.lin_formula.specs.SetOf.{SetOf}
use Rattle.rule_formula.specs.Fits.{masks_of}
use Rattle.set_plan.specs.Outcome.{Answers}
use Rattle.mate_plan.specs.Levels.{level_of}
use Rattle.mate_plan.specs.PlanOf.{rules_of}
use Rattle.mate_plan.specs.Questions.{have_moves}
use Rattle.mate_plan.specs.declared.names.Part.TheVariants as kind
use Rattle.mate_plan.proofs.LevelLemmas.{name_is_found, set_is_found}
use Rattle.mate_plan.proofs.answering.are_answered.Goals as goal

pub have_moves-requires-clause-source : goal.have_moves-requires-clause-source
have_moves-requires-clause-source c =
    let masks = masks_of c.args.bench.now.position.now in
    name_is_found c.args.bench.now.position.now.men c.args.work.now.sets masks masks c.args.moves.now.from.now c.args.moves.now.stage.mask
    c.name_in-name.result refl c.name_in-name.ensures c.requires.from

pub returns-clause-answers : goal.returns-clause-answers
returns-clause-answers c =
    let masks = masks_of c.args.bench.now.position.now in
    let stage = c.args.moves.now.stage in
    let is = set_is_found c.args.work.now.sets masks masks c.args.moves.now.from.now stage.mask c.name_in-name.result refl c.name_in-name.ensures in
    let Of : SetOf → Type 0 =
    λ s. Answers
    (have_moves (rules_of c.args.bench.now.position.now) stage.side stage.ply stage.mask kind.Answer kind.Left s
    (level_of c.args.work.now.sets masks c.args.moves.now.into.now))
    c.args.work.now.memo.budget (λ (b : Bool). b) c.have_moves.result in
    subst Of is c.have_moves.ensures.answers
