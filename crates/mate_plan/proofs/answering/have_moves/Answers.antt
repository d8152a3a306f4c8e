use Rattle.std.proofs.Common.{◌≡◌, ℕ, Bool, List, sym, ◌∙◌, subst}
use Rattle.std.specs.Prelude.{IfSome}
use Rattle.std.proofs.lemmas.Result.{err_from_is_err_and}
use Rattle.track_word.specs.declared.tracks.Var.{Var}
use Rattle.lin_formula.specs.SetOf.{SetOf, as_set}
use Rattle.rule_formula.specs.Fits.{masks_of}
use Rattle.rule_formula.specs.Mean.{mask_tracks}
use Rattle.set_plan.specs.Outcome.{Answers}
use Rattle.set_plan.specs.Sets.{IsSetOn, lent, set_at}
use Rattle.set_plan.specs.Unite.{is_within}
use Rattle.set_plan.proofs.Composition.{Answers-later, Error-bind}
use Rattle.mate_plan.specs.Levels.{level_of}
use Rattle.mate_plan.specs.Plan.{Program, name, pre_items, union}
use Rattle.mate_plan.specs.PlanOf.{rules_of}
use Rattle.mate_plan.specs.declared.names.PartName.{PartName}
use Rattle.mate_plan.proofs.LostParts.{lent-copied, on-copied}
use Rattle.mate_plan.proofs.answering.have_moves.Goals as goal

pub lent-requires : goal.lent-requires
lent-requires c = (mask_tracks c.args.bench.now.position.now c.args.moves.now.set.stage.mask, c.requires.source)

pub is_within-requires-clause-one : goal.is_within-requires-clause-one
is_within-requires-clause-one c =
    let mask = c.args.moves.now.set.stage.mask in
    let same : c.deref.result.now ≡ mask_tracks c.args.bench.now.position.now mask = c.deref.ensures.value ∙ c.in_ok-tracks.ensures in
    let On : List Var → Type 0 = λ tracks. IfSome c.lent.result (λ a. IsSetOn tracks a.now) in
    subst On (sym same) (c.lent.ensures.on (mask_tracks c.args.bench.now.position.now mask) c.requires.source)

pub is_within-requires-clause-other : goal.is_within-requires-clause-other
is_within-requires-clause-other c =
    let mask = c.args.moves.now.set.stage.mask in
    let same : c.deref.result.now ≡ mask_tracks c.args.bench.now.position.now mask = c.deref.ensures.value ∙ c.in_ok-tracks.ensures in
    let On : List Var → Type 0 = λ tracks. IfSome c.as_ref.result (λ a. IsSetOn tracks a.now) in
    subst On (sym same) (on-copied (mask_tracks c.args.bench.now.position.now mask) c.as_ref.result c.in_ok-found.found c.as_ref.ensures.value c.in_ok-found.ensures.set)

pub returns-in_err-found-clause-answers : goal.returns-in_err-found-clause-answers
returns-in_err-found-clause-answers c =
    let p = err_from_is_err_and c.from_residual-in_err-found.result c.from_residual-in_err-found.ensures.1 in
    let stage = c.args.moves.now.set.stage in
    let source = set_at c.args.sets.now c.args.moves.now.set.name in
    let level = level_of c.args.sets.now (masks_of c.args.bench.now.position.now) c.args.moves.now.into.now in
    let found : Program SetOf =
    union (rules_of c.args.bench.now.position.now) stage.ply stage.mask c.args.moves.now.part
    (pre_items (rules_of c.args.bench.now.position.now) stage.side stage.mask source level) in
    rw (p.1, p.2)
    (Error-bind found (is_within (mask_tracks c.args.bench.now.position.now stage.mask) (name stage.ply stage.mask c.args.missing) source)
    c.args.memo.now.budget c.in_err-found.field-0.0 c.in_err-found.ensures.answers)

pub returns-clause-answers : goal.returns-clause-answers
returns-clause-answers c =
    let stage = c.args.moves.now.set.stage in
    let tracks = mask_tracks c.args.bench.now.position.now stage.mask in
    let same : c.deref.result.now ≡ tracks = c.deref.ensures.value ∙ c.in_ok-tracks.ensures in
    let part : PartName = name stage.ply stage.mask c.args.missing in
    let source = set_at c.args.sets.now c.args.moves.now.set.name in
    let level = level_of c.args.sets.now (masks_of c.args.bench.now.position.now) c.args.moves.now.into.now in
    let set = as_set c.in_ok-found.found in
    let found : Program SetOf =
    union (rules_of c.args.bench.now.position.now) stage.ply stage.mask c.args.moves.now.part
    (pre_items (rules_of c.args.bench.now.position.now) stage.side stage.mask source level) in
    let r = c.is_within.result in
    let copied = lent-copied c.as_ref.result c.in_ok-found.found c.as_ref.ensures.value in
    let By_tracks : List Var → Type 0 = λ ts. Answers (is_within ts c.part.result (lent c.lent.result) (lent c.as_ref.result)) c.budget.result (λ (b : Bool). b) r in
    let By_part : PartName → Type 0 = λ n. Answers (is_within tracks n (lent c.lent.result) (lent c.as_ref.result)) c.budget.result (λ (b : Bool). b) r in
    let By_one : SetOf → Type 0 = λ s. Answers (is_within tracks part s (lent c.as_ref.result)) c.budget.result (λ (b : Bool). b) r in
    let By_other : SetOf → Type 0 = λ s. Answers (is_within tracks part source s) c.budget.result (λ (b : Bool). b) r in
    let By_budget : ℕ → Type 0 = λ n. Answers (is_within tracks part source set) n (λ (b : Bool). b) r in
    Answers-later found (is_within tracks part source) c.args.memo.now.budget (λ (b : Bool). b) set c.in_ok-found.ensures.answers r
    (subst By_budget (c.budget.ensures.is ∙ c.in_ok-found.ensures.budget)
    (subst By_other copied (subst By_one c.lent.ensures.set (subst By_part c.part.ensures (subst By_tracks same c.is_within.ensures.answers)))))
