use Rattle.std.proofs.Common.{◌≡◌, ℕ, suc, ◌+◌, ◌-◌, get_or, length, List, map, sym, subst, ◌∙◌, arith}
use Rattle.std.proofs.lemmas.Result.{err_from_is_err_and}
use Rattle.rule_formula.specs.Fits.{masks_of}
use Rattle.set_plan.specs.Outcome.{Ends, IsPlanError}
use Rattle.mate_plan.specs.Levels.{level_of}
use Rattle.mate_plan.specs.Plan.{Level, Program, kept_level}
use Rattle.mate_plan.specs.PlanOf.{rules_of}
use Rattle.winning_sets.proofs.Backwards.{IsBack, back_error, back_last, back_next, whole_back}
use Rattle.winning_sets.proofs.LentLemmas.{Names}
use Rattle.winning_sets.proofs.kept.kept_levels.Goals.{After-kept_at}
use Rattle.winning_sets.proofs.kept.kept_levels.Goals as goal

-- the ply of this turn of the loop
abbrev ply : After-kept_at → ℕ
ply c = length c.args.reach.now - 1 - c.loop-left.left

before_last : (c : After-kept_at) → suc (ply c + c.loop-left.left) ≡ length c.args.reach.now
before_last c = omega (arith, c.loop-left.auto.left, c.loop-left-test.true)

next_reach : (c : After-kept_at) → c.index-reach-ply-in-loop-left.result ≡ get_or c.args.reach.now (suc (ply c)) c.index-reach-ply-in-loop-left.result
next_reach c =
    let names = c.index-reach-ply-in-loop-left.result in
    let next : ply c + 1 ≡ suc (ply c) = omega arith in
    subst (λ n. names ≡ get_or c.args.reach.now n names) next c.index-reach-ply-in-loop-left.is

-- what it computes
abbrev part : After-kept_at → Program Level
part c =
    let level = level_of c.loop-left.work.sets (masks_of c.args.bench.now.position.now) in
    kept_level (rules_of c.args.bench.now.position.now) c.args.bench.now.position.now.turn (ply c) c.loop-left.left (level c.index-reach-ply.result)
    (level c.index-reach-ply-in-loop-left.result) (level c.index.result.now)

pub returns-in_err-level-clause-answers : goal.returns-in_err-level-clause-answers
returns-in_err-level-clause-answers c =
    let why = err_from_is_err_and c.from_residual-in_err-level.result c.from_residual-in_err-level.ensures.1 in
    let turn = (goal.at.returns-in_err-level-clause-answers c).After-kept_at in
    let error = c.in_err-level.field-0.0 in
    let budget = c.args.work.now.memo.budget in
    let said = subst (λ b. IsPlanError (part turn) b error) c.loop-left.invariant.1 c.in_err-level.ensures.answers in
    rw (why.1, why.2)
    (back_error c.args.bench.now.position.now budget c.args.work.now.sets c.args.reach.now c.loop-left.work.sets c.loop-left.kept.items (ply turn)
    c.loop-left.left c.index-reach-ply.result c.index-reach-ply-in-loop-left.result c.index.result.now
    (before_last turn) c.loop-left.auto.left c.loop-left.invariant.0 c.index-reach-ply.is (next_reach turn) c.index.ensures error said)

pub loop-left-preserved : goal.loop-left-preserved
loop-left-preserved c =
    let turn = (goal.at.loop-left-preserved c).After-kept_at in
    let p = c.args.bench.now.position.now in
    let budget = c.args.work.now.memo.budget in
    let new = c.kept_at.new.work.sets in
    let more = c.in_ok-level.level in
    let said = subst (λ b. Ends (part turn) b (level_of new (masks_of p) more)) c.loop-left.invariant.1 c.in_ok-level.ensures.answers in
    let back =
    back_next p budget c.args.work.now.sets c.args.reach.now c.loop-left.work.sets c.loop-left.kept.items (ply turn) c.loop-left.left
    c.index-reach-ply.result c.index-reach-ply-in-loop-left.result c.index.result.now
    (before_last turn) c.loop-left.auto.left c.loop-left.invariant.0 c.index-reach-ply.is (next_reach turn) c.index.ensures new more c.in_ok-level.ensures.later.grows c.in_ok-level.ensures.names said in (
      subst
          (λ (kept : List Names). IsBack p budget (whole_back p c.args.work.now.sets c.args.reach.now) c.args.work.now.sets new c.args.reach.now kept
          (c.loop-left.left + 1))
          (sym c.in_ok-push_level-2.ensures.ok) back,
      c.in_ok-level.ensures.later.budget ∙ c.loop-left.invariant.1,
    )

pub returns-clause-answers : goal.returns-clause-answers
returns-clause-answers c =
    let p = c.args.bench.now.position.now in
    let reach = c.args.reach.now in
    let last = c.loop-left.auto.left-end c.requires.some in
    let whole : c.loop-left.left ≡ length reach = omega (arith, c.loop-left-test.false) in
    let ends = back_last p c.args.work.now.memo.budget c.args.work.now.sets reach c.loop-left.auto.left whole c.loop-left.invariant.0 in
    subst
    (λ (kept : List Names). Ends (whole_back p c.args.work.now.sets reach) c.args.work.now.memo.budget
    (map (level_of c.loop-left.work.sets (masks_of p)) kept))
    (sym c.reverse.ensures.items) ends
