use Rattle.std.proofs.Common.{◌≡◌, ℕ, suc, ◌-◌, ◌<◌, ◌≤◌, ◌++◌, ◌∷◌, [], length, take, ap, refl, sym, subst, ◌∙◌, arith}
use Rattle.std.proofs.lemmas.List.{length-map}
use Rattle.std.proofs.lemmas.List.Elements.{All-get_or}
use Rattle.std.proofs.lemmas.Result.{err_from_is_err_and}
use Rattle.rule_formula.specs.Fits.{masks_of}
use Rattle.mask_sets.specs.Stock.{mask_of}
use Rattle.set_plan.specs.Outcome.{Ends, IsPlanError}
use Rattle.mate_plan.specs.Levels.{AreNames, level_of}
use Rattle.mate_plan.specs.Plan.{forward, reach_level, turn_at}
use Rattle.mate_plan.specs.PlanOf.{rules_of}
use Rattle.winning_sets.specs.Lent.{sets_or}
use Rattle.winning_sets.specs.Solve.{IsSolverAfter, SolverState}
use Rattle.winning_sets.proofs.Forwards.{all_finished, grown_finished, next_error, next_finished}
use Rattle.winning_sets.proofs.Growing.{grows-take, names-grow}
use Rattle.winning_sets.proofs.States.{after_grown, after_push, state_of}
use Rattle.winning_sets.proofs.solver.Solver.reach_next.Goals.{After-index}
use Rattle.winning_sets.proofs.solver.Solver.reach_next.Goals as goal

-- how many plies there are so far
plies : (c : After-index) → length c.self.inside.levels.items ≡ length c.args.self.now.reach
plies c =
    let i = c.self.inside in
    sym (length-map i.levels.items (sets_or (take i.count i.work.sets) i.empties.items)) ∙ ap (λ s. length s.reach) c.self.view_is

-- one more than the number of the last
next : (c : After-index) → length c.self.inside.levels.items ≡ suc (c.len-ply.result - 1)
next c = omega (arith, plies c, c.requires.some, c.len-ply.ensures)

ply_is : (c : After-index) → c.len-ply.result ≡ suc (c.len-ply.result - 1)
ply_is c = omega (arith, plies c, c.requires.some, c.len-ply.ensures)

turn_is : (c : After-index) → c.side_at-side.result ≡ turn_at c.self.inside.position.turn (c.len-ply.result - 1)
turn_is c = c.side_at-side.ensures ∙ ap (λ s. turn_at s (c.len-ply.result - 1)) c.turn.ensures

pub reach_level-requires : goal.reach_level-requires
reach_level-requires c =
    let start = (goal.at.reach_level-requires c).After-index in
    let i = c.self.inside in
    let p = i.position in
    let n = c.len-ply.result - 1 in
    let ids = c.index.result.now in
    let less : n < length i.levels.items = omega (arith, next start) in
    let here = All-get_or (AreNames p.men (take i.count i.work.sets) (masks_of p)) i.levels.items n ids less c.self.invariant.1.names in
    record {
      level = names-grow (take i.count i.work.sets) i.work.sets (grows-take i.count i.work.sets) p.men (masks_of p) ids
          (subst (AreNames p.men (take i.count i.work.sets) (masks_of p)) (sym c.index.ensures) here);
    }

pub invariant_of-self : goal.invariant_of-self
invariant_of-self c =
    let i = c.self.inside in
    let made = c.reach_level.ensures in
    grown_finished i.position i.work.memo.budget c.reach_level.new.work.memo.budget i.masks.items i.empties.items i.work.sets
    c.reach_level.new.work.sets i.count i.levels.items i.levels.items c.self.invariant.0 made.later.grows made.later.budget refl c.self.invariant.1

pub returns-in_err-level-clause-error : goal.returns-in_err-level-clause-error
returns-in_err-level-clause-error c =
    let why = err_from_is_err_and c.from_residual.result c.from_residual.ensures.1 in
    let start = (goal.at.returns-in_err-level-clause-error c).After-index in
    let i = c.self.inside in
    let p = i.position in
    let n = c.len-ply.result - 1 in
    let ids = c.index.result.now in
    let side = c.side_at-side.result in
    let error = c.in_err-level.field-0.0 in
    let said = subst (λ (k : ℕ). IsPlanError (reach_level (rules_of p) side k (level_of i.work.sets (masks_of p) ids)) i.work.memo.budget error) (ply_is start) c.in_err-level.ensures.answers in
    let here =
    next_error p i.work.memo.budget i.masks.items i.empties.items (take i.count i.work.sets) i.work.sets i.levels.items c.self.invariant.1
    (grows-take i.count i.work.sets) n (next start) ids c.index.ensures side (turn_is start) error said in
    let count = sym (next start) ∙ sym (length-map i.levels.items (sets_or (take i.count i.work.sets) i.empties.items)) in
    let there = subst (λ (k : ℕ). IsPlanError (forward (rules_of p) p.turn (mask_of p) k) i.work.memo.budget error) count here in
    rw (why.1, why.2)
    (subst (λ (s : SolverState). IsPlanError (forward (rules_of s.position) s.position.turn (mask_of s.position) (length s.reach)) s.budget error) c.self.view_is there)

pub returns-in_err-level-clause-after : goal.returns-in_err-level-clause-after
returns-in_err-level-clause-after c =
    let i = c.self.inside in
    let made = c.reach_level.ensures in
    let new = c.reach_level.new.work.sets in
    let other = c.reach_level.new.work.memo.budget in
    subst (λ (s : SolverState). IsSolverAfter s (state_of i.position i.winner i.empties.items other (take i.count new) i.levels.items)) c.self.view_is
    (after_grown i.position i.winner i.empties.items i.work.memo.budget other i.work.sets new i.count i.levels.items c.self.invariant.0 made.later.grows made.later.budget i.levels.items refl)

pub invariant_of-self-in_err-push_level : goal.invariant_of-self-in_err-push_level
invariant_of-self-in_err-push_level c =
    let i = c.self.inside in
    let made = c.reach_level.ensures in
    grown_finished i.position i.work.memo.budget c.reach_level.new.work.memo.budget i.masks.items i.empties.items i.work.sets
    c.reach_level.new.work.sets i.count i.levels.items c.push_level.new.levels.items c.self.invariant.0 made.later.grows made.later.budget
    c.in_err-push_level.ensures.err c.self.invariant.1

pub returns-in_err-push_level-clause-after : goal.returns-in_err-push_level-clause-after
returns-in_err-push_level-clause-after c =
    let i = c.self.inside in
    let made = c.reach_level.ensures in
    let new = c.reach_level.new.work.sets in
    let other = c.reach_level.new.work.memo.budget in
    let levels = c.push_level.new.levels.items in
    subst (λ (s : SolverState). IsSolverAfter s (state_of i.position i.winner i.empties.items other (take i.count new) levels)) c.self.view_is
    (after_grown i.position i.winner i.empties.items i.work.memo.budget other i.work.sets new i.count i.levels.items c.self.invariant.0 made.later.grows made.later.budget levels c.in_err-push_level.ensures.err)

pub invariant_of-self-2 : goal.invariant_of-self-2
invariant_of-self-2 c =
    let start = (goal.at.invariant_of-self-2 c).After-index in
    let i = c.self.inside in
    let p = i.position in
    let n = c.len-ply.result - 1 in
    let ids = c.index.result.now in
    let side = c.side_at-side.result in
    let new = c.reach_level.new.work.sets in
    let more = c.in_ok-level.level in
    let made = c.reach_level.ensures in
    let said =
    subst
    (λ (k : ℕ). Ends (reach_level (rules_of p) side k (level_of i.work.sets (masks_of p) ids)) i.work.memo.budget
    (level_of new (masks_of p) more))
    (ply_is start) c.in_ok-level.ensures.answers in
    let room : length i.levels.items ≤ 41 = omega (arith, plies start, c.requires.room) in
    let here =
    next_finished p i.work.memo.budget i.masks.items i.empties.items (take i.count i.work.sets) i.work.sets i.levels.items c.self.invariant.1
    (grows-take i.count i.work.sets) n (next start) ids c.index.ensures side (turn_is start) new more made.later.grows room
    c.in_ok-level.ensures.names said in
    all_finished p i.work.memo.budget c.reach_level.new.work.memo.budget i.masks.items i.empties.items new c.count-self-inside.result
    (i.levels.items ++ more ∷ []) c.push_level.new.levels.items made.later.budget c.count-self-inside.ensures c.in_ok-push_level.ensures.ok here

pub returns-clause-after : goal.returns-clause-after
returns-clause-after c =
    let i = c.self.inside in
    let made = c.reach_level.ensures in
    let new = c.reach_level.new.work.sets in
    let other = c.reach_level.new.work.memo.budget in
    let size = c.count-self-inside.result in
    let levels = c.push_level.new.levels.items in
    subst (λ (s : SolverState). IsSolverAfter s (state_of i.position i.winner i.empties.items other (take size new) levels)) c.self.view_is
    (after_push i.position i.winner i.empties.items i.work.memo.budget other i.work.sets new i.count i.levels.items c.self.invariant.0 made.later.grows
    made.later.budget size c.in_ok-level.level levels c.self.invariant.1.names c.count-self-inside.ensures c.in_ok-push_level.ensures.ok)
