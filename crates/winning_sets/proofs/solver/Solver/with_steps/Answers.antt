use Rattle.std.proofs.Common.{◌+◌, ◌<◌, List, length, map, take, ap, subst, sym, ◌∙◌, arith}
use Rattle.std.specs.List.{All}
use Rattle.std.proofs.lemmas.List.{length-map}
use Rattle.std.proofs.lemmas.List.Elements.{All-take}
use Rattle.auto_core.specs.Automaton.{Automaton}
use Rattle.rule_formula.specs.Fits.{masks_of}
use Rattle.mate_plan.specs.Levels.{AreNames}
use Rattle.mate_plan.specs.PlanOf.{last_ply}
use Rattle.winning_sets.specs.Lent.{AreWithin, sets_or}
use Rattle.winning_sets.specs.Solve.{AreKept, SolverState, sets_at}
use Rattle.winning_sets.proofs.Answered.{solution_is}
use Rattle.winning_sets.proofs.Growing.{all_names-grow, grows-take}
use Rattle.winning_sets.proofs.LentLemmas.{Names, all_within}
use Rattle.winning_sets.proofs.solver.Solver.with_steps.Goals.{After-as_slice-2}
use Rattle.winning_sets.proofs.solver.Solver.with_steps.Goals as goal

-- the last ply is finished
within : (c : After-as_slice-2) → c.args.last < length c.self.inside.levels.items
within c =
    let i = c.self.inside in
    let count = sym (length-map i.levels.items (sets_or (take i.count i.work.sets) i.empties.items)) ∙ ap (λ s. length s.reach) c.self.view_is in
    omega (arith, count, c.requires.finished)

pub copied-requires : goal.copied-requires
copied-requires c =
    let i = c.self.inside in
    let p = i.position in
    let is = c.self.invariant.1 in
    let table = take i.count i.work.sets in
    let last = c.args.last in
    let few = All-take (AreNames p.men table (masks_of p)) (last + 1) i.levels.items is.names in
    let named = all_names-grow table i.work.sets (grows-take i.count i.work.sets) p.men (masks_of p) (take (last + 1) i.levels.items) few in
    let some = within (goal.at.copied-requires c).After-as_slice-2 in
    let all = all_within p.men i.work.sets (masks_of p) i.empties.items (take (last + 1) i.levels.items) (is.empties_are (omega (arith, some))) named in
    subst (λ (others : List Automaton). All (AreWithin (length i.work.sets) (length others)) (take (last + 1) c.as_slice.result.now)) (sym c.as_slice-2.ensures.value)
    (subst (λ (levels : List Names). All (AreWithin (length i.work.sets) (length i.empties.items)) (take (last + 1) levels)) (sym c.as_slice.ensures.value) all)

pub new-requires-clause-valid : goal.new-requires-clause-valid
new-requires-clause-valid c =
    let i = c.self.inside in
    let p = i.position in
    let last = c.args.last in
    let is_last = c.requires.last ∙ sym (ap (λ s. last_ply s.winner s.position.turn c.args.moves) c.self.view_is) in
    let made =
    c.in_ok-reach.ensures ∙ ap (λ (others : List Automaton). map (sets_or i.work.sets others) (take (last + 1) c.as_slice.result.now)) c.as_slice-2.ensures.value
    ∙ ap (λ (levels : List Names). map (sets_or i.work.sets i.empties.items) (take (last + 1) levels)) c.as_slice.ensures.value in
    let keeps = subst (λ (s : SolverState). AreKept s.winner s.position c.args.moves (sets_at (masks_of s.position) c.args.kept.items)) (sym c.self.view_is) c.requires.kept in
    solution_is p i.work.memo.budget i.masks.items i.empties.items (take i.count i.work.sets) i.levels.items c.self.invariant.1 i.winner c.args.moves
    last i.work.sets c.args.kept.items c.in_ok-reach.reach.items
    is_last c.requires.some (within (goal.at.new-requires-clause-valid c).After-as_slice-2) c.requires.moves (grows-take i.count i.work.sets) made keeps
