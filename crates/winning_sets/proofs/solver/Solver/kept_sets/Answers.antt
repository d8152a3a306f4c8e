use Rattle.std.proofs.Common.{◌≡◌, ◌+◌, ◌<◌, List, ℕ, length, map, take, ap, refl, subst, sym, ◌∙◌, arith}
use Rattle.std.specs.Prelude.{reverse}
use Rattle.std.specs.List.{All}
use Rattle.std.proofs.lemmas.List.{length-map}
use Rattle.std.proofs.lemmas.List.Elements.{All-take}
use Rattle.std.proofs.lemmas.Result.{err_from_is_err_and}
use Rattle.auto_core.specs.Automaton.{Automaton}
use Rattle.rule_formula.specs.Fits.{masks_of}
use Rattle.set_plan.specs.Outcome.{Ends, IsPlanError}
use Rattle.mate_plan.specs.Levels.{AreNames, level_of}
use Rattle.mate_plan.specs.Plan.{backward_from}
use Rattle.mate_plan.specs.PlanOf.{last_ply, plan_of, plan_to, rules_of}
use Rattle.winning_sets.specs.Lent.{AreWithin, sets_or}
use Rattle.winning_sets.specs.Solve.{AreKept, IsWithin, SolverState, sets_at}
use Rattle.winning_sets.proofs.Answered.{kept_are}
use Rattle.winning_sets.proofs.Forwards.{finished_plan, finished_plan_error, grown_finished}
use Rattle.winning_sets.proofs.Growing.{all_names-grow, grows-take}
use Rattle.winning_sets.proofs.LentLemmas.{Names, all_within}
use Rattle.winning_sets.proofs.States.{state-grows}
use Rattle.winning_sets.proofs.solver.Solver.kept_sets.Goals.{After-as_slice, After-as_slice-4}
use Rattle.winning_sets.proofs.solver.Solver.kept_sets.Goals as goal

-- the last ply is finished
within : (c : After-as_slice) → c.args.last < length c.self.inside.levels.items
within c =
    let i = c.self.inside in
    let count = sym (length-map i.levels.items (sets_or (take i.count i.work.sets) i.empties.items)) ∙ ap (λ s. length s.reach) c.self.view_is in
    omega (arith, count, c.requires.finished)

last_is : (c : After-as_slice) → c.args.last ≡ last_ply c.self.inside.winner c.self.inside.position.turn c.args.moves
last_is c = c.requires.last ∙ sym (ap (λ s. last_ply s.winner s.position.turn c.args.moves) c.self.view_is)

-- the whole plan, by what is kept
ends : (c : After-as_slice-4)
    → Ends (plan_of c.self.inside.winner c.self.inside.position c.args.moves) c.self.inside.work.memo.budget
    (map (level_of c.kept_levels.new.work.sets (masks_of c.self.inside.position)) c.in_ok-kept.kept.items)
ends c =
    let start = (goal.at.After-as_slice-4 c).After-as_slice in
    let i = c.self.inside in
    let p = i.position in
    let last = c.args.last in
    let kept = map (level_of c.kept_levels.new.work.sets (masks_of p)) c.in_ok-kept.kept.items in
    let said =
    subst
    (λ (levels : List Names). Ends
    (backward_from (rules_of p) p.turn (reverse (map (level_of i.work.sets (masks_of p)) (take (last + 1) levels)))) i.work.memo.budget
    kept)
    c.as_slice.ensures.value c.in_ok-kept.ensures.answers in
    let here =
    finished_plan p i.work.memo.budget i.masks.items i.empties.items (take i.count i.work.sets) i.work.sets i.levels.items c.self.invariant.1
    (grows-take i.count i.work.sets) last c.requires.some (within start) kept said in
    subst (λ (n : ℕ). Ends (plan_to p n) i.work.memo.budget kept) (last_is start) here

pub kept_levels-requires-clause-names : goal.kept_levels-requires-clause-names
kept_levels-requires-clause-names c =
    let i = c.self.inside in
    let p = i.position in
    let table = take i.count i.work.sets in
    let last = c.args.last in
    let few = All-take (AreNames p.men table (masks_of p)) (last + 1) i.levels.items c.self.invariant.1.names in
    let named = all_names-grow table i.work.sets (grows-take i.count i.work.sets) p.men (masks_of p) (take (last + 1) i.levels.items) few in
    subst (λ (levels : List Names). All (AreNames p.men i.work.sets (masks_of p)) (take (last + 1) levels)) (sym c.as_slice.ensures.value) named

pub invariant_of-self : goal.invariant_of-self
invariant_of-self c =
    let i = c.self.inside in
    let made = c.kept_levels.ensures in
    grown_finished i.position i.work.memo.budget c.kept_levels.new.work.memo.budget i.masks.items i.empties.items i.work.sets
    c.kept_levels.new.work.sets i.count i.levels.items i.levels.items c.self.invariant.0 made.later.grows made.later.budget refl c.self.invariant.1

pub returns-in_err-kept-clause-error : goal.returns-in_err-kept-clause-error
returns-in_err-kept-clause-error c =
    let why = err_from_is_err_and c.from_residual.result c.from_residual.ensures.1 in
    let start = (goal.at.returns-in_err-kept-clause-error c).After-as_slice in
    let i = c.self.inside in
    let p = i.position in
    let last = c.args.last in
    let error = c.in_err-kept.field-0.0 in
    let said =
    subst
    (λ (levels : List Names). IsPlanError
    (backward_from (rules_of p) p.turn (reverse (map (level_of i.work.sets (masks_of p)) (take (last + 1) levels)))) i.work.memo.budget
    error)
    c.as_slice.ensures.value c.in_err-kept.ensures.answers in
    let here =
    finished_plan_error p i.work.memo.budget i.masks.items i.empties.items (take i.count i.work.sets) i.work.sets i.levels.items
    c.self.invariant.1 (grows-take i.count i.work.sets) last c.requires.some (within start) error said in
    let there = subst (λ (n : ℕ). IsPlanError (plan_to p n) i.work.memo.budget error) (last_is start) here in
    rw (why.1, why.2) (subst (λ (s : SolverState). IsPlanError (plan_of s.winner s.position c.args.moves) s.budget error) c.self.view_is there)

pub returns-in_err-kept-clause-same : goal.returns-in_err-kept-clause-same
returns-in_err-kept-clause-same c =
    let i = c.self.inside in
    let made = c.kept_levels.ensures in
    state-grows i.position i.winner i.empties.items i.work.memo.budget c.kept_levels.new.work.memo.budget i.work.sets c.kept_levels.new.work.sets
    i.count i.levels.items c.self.invariant.0 made.later.grows made.later.budget i.levels.items refl
    ∙ c.self.view_is

pub copied-requires : goal.copied-requires
copied-requires c =
    let i = c.self.inside in
    let p = i.position in
    let start = (goal.at.copied-requires c).After-as_slice in
    let table = c.kept_levels.new.work.sets in
    let all = all_within p.men table (masks_of p) i.empties.items c.in_ok-kept.kept.items (c.self.invariant.1.empties_are (omega (arith, within start))) c.in_ok-kept.ensures.names in
    subst (λ (others : List Automaton). All (AreWithin (length table) (length others)) c.as_slice-4.result.now) (sym c.as_slice-3.ensures.value)
    (subst (λ (levels : List Names). All (AreWithin (length table) (length i.empties.items)) levels) (sym c.as_slice-4.ensures.value) all)

pub invariant_of-self-in_err-copied : goal.invariant_of-self-in_err-copied
invariant_of-self-in_err-copied c =
    let i = c.self.inside in
    let made = c.kept_levels.ensures in
    grown_finished i.position i.work.memo.budget c.kept_levels.new.work.memo.budget i.masks.items i.empties.items i.work.sets
    c.kept_levels.new.work.sets i.count i.levels.items i.levels.items c.self.invariant.0 made.later.grows made.later.budget refl c.self.invariant.1

pub returns-in_err-copied-clause-same : goal.returns-in_err-copied-clause-same
returns-in_err-copied-clause-same c =
    let i = c.self.inside in
    let made = c.kept_levels.ensures in
    state-grows i.position i.winner i.empties.items i.work.memo.budget c.kept_levels.new.work.memo.budget i.work.sets c.kept_levels.new.work.sets
    i.count i.levels.items c.self.invariant.0 made.later.grows made.later.budget i.levels.items refl
    ∙ c.self.view_is

pub invariant_of-self-2 : goal.invariant_of-self-2
invariant_of-self-2 c =
    let i = c.self.inside in
    let made = c.kept_levels.ensures in
    grown_finished i.position i.work.memo.budget c.kept_levels.new.work.memo.budget i.masks.items i.empties.items i.work.sets
    c.kept_levels.new.work.sets i.count i.levels.items i.levels.items c.self.invariant.0 made.later.grows made.later.budget refl c.self.invariant.1

pub returns-clause-kept : goal.returns-clause-kept
returns-clause-kept c =
    let i = c.self.inside in
    let p = i.position in
    let end = (goal.at.returns-clause-kept c).After-as_slice-4 in
    let start = (goal.at.returns-clause-kept c).After-as_slice in
    let table = c.kept_levels.new.work.sets in
    let some : 0 < last_ply i.winner p.turn c.args.moves = omega (arith, last_is start, c.requires.some) in
    let names = c.in_ok-kept.kept.items in
    let are =
    kept_are p i.work.memo.budget i.masks.items i.empties.items (take i.count i.work.sets) i.levels.items c.self.invariant.1 i.winner c.args.moves
    table names (omega (arith, within start)) some c.in_ok-kept.ensures.names (ends end) in
    let made =
    c.in_ok-copied.ensures ∙ ap (λ (others : List Automaton). map (sets_or table others) c.as_slice-4.result.now) c.as_slice-3.ensures.value
    ∙ ap (λ (levels : List Names). map (sets_or table i.empties.items) levels) c.as_slice-4.ensures.value in
    let here = subst (λ (kept : List (List Automaton)). AreKept i.winner p c.args.moves (sets_at (masks_of p) kept)) (sym made) are in
    subst (λ (s : SolverState). AreKept s.winner s.position c.args.moves (sets_at (masks_of s.position) c.in_ok-copied.field-0.items)) c.self.view_is here

pub returns-clause-within : goal.returns-clause-within
returns-clause-within c =
    let end = (goal.at.returns-clause-within c).After-as_slice-4 in
    let here : IsWithin (plan_of c.self.inside.winner c.self.inside.position c.args.moves) c.self.inside.work.memo.budget =
    record { value = map (level_of c.kept_levels.new.work.sets (masks_of c.self.inside.position)) c.in_ok-kept.kept.items; ends = ends end } in
    subst (λ (s : SolverState). IsWithin (plan_of s.winner s.position c.args.moves) s.budget) c.self.view_is here

pub returns-clause-same : goal.returns-clause-same
returns-clause-same c =
    let i = c.self.inside in
    let made = c.kept_levels.ensures in
    state-grows i.position i.winner i.empties.items i.work.memo.budget c.kept_levels.new.work.memo.budget i.work.sets c.kept_levels.new.work.sets
    i.count i.levels.items c.self.invariant.0 made.later.grows made.later.budget i.levels.items refl
    ∙ c.self.view_is
