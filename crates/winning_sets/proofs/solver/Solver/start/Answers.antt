use Rattle.std.proofs.Common.{◌≡◌, ◌++◌, ◌∷◌, [], length, take, List, ℕ, ap, refl, subst, ◌∙◌}
use Rattle.std.proofs.lemmas.List.{length-map}
use Rattle.std.proofs.lemmas.Result.{err_from_is_err_and}
use Rattle.mask_sets.specs.Stock.{mask_of}
use Rattle.set_plan.specs.Outcome.{IsPlanError}
use Rattle.mate_plan.specs.Plan.{forward}
use Rattle.mate_plan.specs.PlanOf.{rules_of}
use Rattle.winning_sets.specs.Finished.{AreFinished}
use Rattle.winning_sets.specs.Lent.{AreEmpties, sets_or}
use Rattle.winning_sets.specs.Solve.{IsSolverAfter, SolverState}
use Rattle.winning_sets.proofs.Forwards.{all_finished, first_finished, forward_first_error, grown_finished}
use Rattle.winning_sets.proofs.Growing.{grows-take, grows-trans}
use Rattle.winning_sets.proofs.LentLemmas.{Names}
use Rattle.winning_sets.proofs.States.{after_first, after_grown, map-none, state_of}
use Rattle.winning_sets.proofs.solver.Solver.start.Goals as goal

pub invariant_of-self : goal.invariant_of-self
invariant_of-self c =
    let i = c.self.inside in
    let made = c.point_level.ensures in
    grown_finished i.position i.work.memo.budget c.point_level.new.work.memo.budget i.masks.items i.empties.items i.work.sets
    c.point_level.new.work.sets i.count i.levels.items i.levels.items c.self.invariant.0 made.later.grows made.later.budget refl c.self.invariant.1

pub returns-in_err-level-clause-error : goal.returns-in_err-level-clause-error
returns-in_err-level-clause-error c =
    let why = err_from_is_err_and c.from_residual-in_err-level.result c.from_residual-in_err-level.ensures.1 in
    let p = c.self.inside.position in
    let error = c.in_err-level.field-0.0 in
    let first = forward_first_error (rules_of p) p.turn (mask_of p) c.self.inside.work.memo.budget error c.in_err-level.ensures.answers in
    rw (why.1, why.2)
    (subst (λ (s : SolverState). IsPlanError (forward (rules_of s.position) s.position.turn (mask_of s.position) 0) s.budget error) c.self.view_is first)

pub returns-in_err-level-clause-after : goal.returns-in_err-level-clause-after
returns-in_err-level-clause-after c =
    let i = c.self.inside in
    let made = c.point_level.ensures in
    let new = c.point_level.new.work.sets in
    let other = c.point_level.new.work.memo.budget in
    subst (λ (s : SolverState). IsSolverAfter s (state_of i.position i.winner i.empties.items other (take i.count new) i.levels.items)) c.self.view_is
    (after_grown i.position i.winner i.empties.items i.work.memo.budget other i.work.sets new i.count i.levels.items c.self.invariant.0 made.later.grows made.later.budget i.levels.items refl)

pub invariant_of-self-in_err-push_level : goal.invariant_of-self-in_err-push_level
invariant_of-self-in_err-push_level c =
    let i = c.self.inside in
    let made = c.point_level.ensures in
    grown_finished i.position i.work.memo.budget c.point_level.new.work.memo.budget i.masks.items i.empties.items i.work.sets
    c.point_level.new.work.sets i.count i.levels.items c.push_level.new.levels.items c.self.invariant.0 made.later.grows made.later.budget
    c.in_err-push_level.ensures.err c.self.invariant.1

pub returns-in_err-push_level-clause-after : goal.returns-in_err-push_level-clause-after
returns-in_err-push_level-clause-after c =
    let i = c.self.inside in
    let made = c.point_level.ensures in
    let new = c.point_level.new.work.sets in
    let other = c.point_level.new.work.memo.budget in
    let levels = c.push_level.new.levels.items in
    subst (λ (s : SolverState). IsSolverAfter s (state_of i.position i.winner i.empties.items other (take i.count new) levels)) c.self.view_is
    (after_grown i.position i.winner i.empties.items i.work.memo.budget other i.work.sets new i.count i.levels.items c.self.invariant.0 made.later.grows made.later.budget levels c.in_err-push_level.ensures.err)

pub invariant_of-self-2 : goal.invariant_of-self-2
invariant_of-self-2 c =
    let i = c.self.inside in
    let p = i.position in
    let made = c.point_level.ensures in
    let new = c.point_level.new.work.sets in
    let ids = c.in_ok-level.level in
    let masks = c.in_ok-all.all.items in
    let empties = c.in_ok-empties.empties.items in
    let none : i.levels.items ≡ [] = map-none (sets_or (take i.count i.work.sets) i.empties.items) i.levels.items (ap (λ s. s.reach) c.self.view_is ∙ c.requires) in
    let is = subst (λ (levels : List Names). AreFinished p i.work.memo.budget i.masks.items i.empties.items (take i.count i.work.sets) levels) none c.self.invariant.1 in
    let grows = grows-trans (take i.count i.work.sets) i.work.sets new (grows-take i.count i.work.sets) made.later.grows in
    let empties_are = subst (λ (ms : List ℕ). AreEmpties p.men ms empties) (c.as_slice.ensures.value ∙ c.in_ok-all.ensures.list) c.in_ok-empties.ensures in
    let first =
    first_finished new masks empties ids is grows
    c.in_ok-level.ensures.names c.in_ok-all.ensures.list empties_are c.in_ok-level.ensures.answers in
    let levels_are : c.push_level.new.levels.items ≡ ids ∷ [] = c.in_ok-push_level.ensures.ok ∙ ap (λ l. l ++ ids ∷ []) none in
    all_finished p i.work.memo.budget c.point_level.new.work.memo.budget masks empties new c.count-self-inside.result (ids ∷ [])
    c.push_level.new.levels.items made.later.budget c.count-self-inside.ensures levels_are first

pub returns-clause-after : goal.returns-clause-after
returns-clause-after c =
    let i = c.self.inside in
    let new = c.point_level.new.work.sets in
    let state = state_of i.position i.winner c.in_ok-empties.empties.items c.point_level.new.work.memo.budget (take c.count-self-inside.result new) c.push_level.new.levels.items in
    after_first c.args.self.now state (ap (λ s. s.position) c.self.view_is) (ap (λ s. s.winner) c.self.view_is) (c.point_level.ensures.later.budget ∙ ap (λ s. s.budget) c.self.view_is) c.requires

pub returns-clause-count : goal.returns-clause-count
returns-clause-count c =
    let i = c.self.inside in
    let ids = c.in_ok-level.level in
    let none : i.levels.items ≡ [] = map-none (sets_or (take i.count i.work.sets) i.empties.items) i.levels.items (ap (λ s. s.reach) c.self.view_is ∙ c.requires) in
    let levels_are : c.push_level.new.levels.items ≡ ids ∷ [] = c.in_ok-push_level.ensures.ok ∙ ap (λ l. l ++ ids ∷ []) none in
    length-map c.push_level.new.levels.items (sets_or (take c.count-self-inside.result c.point_level.new.work.sets) c.in_ok-empties.empties.items) ∙ ap length levels_are
