use Rattle.std.proofs.Common.{ℕ, refl, subst}
use Rattle.std.specs.Prelude.{IfOk, IfSome}
use Rattle.lin_formula.specs.SetOf.{SetOf, as_set}
use Rattle.rule_formula.specs.Fits.{masks_of}
use Rattle.rule_formula.specs.Mean.{mask_tracks}
use Rattle.mask_sets.proofs.Masks.{mask_one}
use Rattle.set_plan.specs.Outcome.{Answers}
use Rattle.set_plan.specs.Sets.{IsSetOn}
use Rattle.mate_plan.specs.Levels.{level_of}
use Rattle.mate_plan.specs.Plan.{pre_items, union}
use Rattle.mate_plan.specs.PlanOf.{rules_of}
use Rattle.mate_plan.specs.declared.names.Part.TheVariants as kind
use Rattle.mate_plan.proofs.LevelLemmas.{name_is_found, set_is_found}
use Rattle.mate_plan.proofs.first.first_set.Goals as goal

pub pre_set-requires-clause-source : goal.pre_set-requires-clause-source
pre_set-requires-clause-source c =
    let masks = masks_of c.args.bench.now.position.now in
    name_is_found c.args.bench.now.position.now.men c.args.sets.now masks masks c.args.start.now c.mask.result c.name_in-name.result refl c.name_in-name.ensures c.requires.start

pub returns-clause-answers : goal.returns-clause-answers
returns-clause-answers c =
    let p = c.args.bench.now.position.now in
    let masks = masks_of p in
    let is = set_is_found c.args.sets.now masks masks c.args.start.now c.mask.result c.name_in-name.result refl c.name_in-name.ensures in
    let into = level_of c.args.sets.now masks c.args.into.now in
    let Of : SetOf → Type 0 = λ s. Answers (union (rules_of p) 0 c.mask.result kind.First (pre_items (rules_of p) p.turn c.mask.result s into)) c.args.memo.now.budget as_set c.pre_set.result in
    let At : ℕ → Type 0 =
    λ m. Answers (union (rules_of p) 0 m kind.First (pre_items (rules_of p) p.turn m (level_of c.args.sets.now masks c.args.start.now m) into))
    c.args.memo.now.budget as_set c.pre_set.result in
    subst At (mask_one c.mask.ensures) (subst Of is (rw c.turn.ensures at c.pre_set.ensures.answers))

pub returns-clause-set : goal.returns-clause-set
returns-clause-set c =
    let p = c.args.bench.now.position.now in
    let At : ℕ → Type 0 = λ m. IfOk c.pre_set.result (λ set. IfSome set (IsSetOn (mask_tracks p m))) in
    subst At (mask_one c.mask.ensures) c.pre_set.ensures.set
