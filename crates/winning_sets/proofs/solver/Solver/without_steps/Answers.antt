use Rattle.std.proofs.Common.{◌++◌, ◌∷◌, [], List, ℕ, ap, subst, ◌∙◌}
use Rattle.auto_core.specs.Automaton.{Automaton}
use Rattle.mate_plan.specs.PlanOf.{last_ply}
use Rattle.winning_sets.specs.Lent.{AreEmpties}
use Rattle.winning_sets.proofs.Answered.{none_solution}
use Rattle.winning_sets.proofs.solver.Solver.without_steps.Goals as goal

pub new-requires-3-clause-valid : goal.new-requires-3-clause-valid
new-requires-3-clause-valid c =
    let i = c.self.inside in
    let is = c.self.invariant.1 in
    let empties = c.in_ok-empties.empties.items in
    let last = ap (λ s. last_ply s.winner s.position.turn c.args.moves) c.self.view_is ∙ c.requires.none in
    let are = subst (λ (ms : List ℕ). AreEmpties i.position.men ms empties) (c.as_slice.ensures.value ∙ c.in_ok-all.ensures.list) c.in_ok-empties.ensures in
    let kept = c.in_ok-push.ensures.items ∙ ap (λ (l : List (List Automaton)). l ++ c.new.result ∷ []) c.new-kept.ensures.items ∙ ap (λ (a : List Automaton). a ∷ []) c.new.ensures in
    none_solution i.winner c.args.moves empties c.push.new.self.items c.new-2.result.items is.sound is.few c.requires.moves last are kept c.new-2.ensures.items
