use Rattle.std.proofs.Common.{ℕ, List, ap, ◌∙◌}
use Rattle.auto_core.specs.Automaton.{Automaton}
use Rattle.rule_formula.specs.Fits.{masks_of}
use Rattle.winning_sets.specs.Solve.{Solution, sets_at}
use Rattle.winning_sets.proofs.MostStates.{reached_few}
use Rattle.winning_sets.proofs.solved.Solved.reach.Goals as goal

pub returns-clause-few : goal.returns-clause-few
returns-clause-few c =
    let i = c.self.inside in
    let s : Solution = record { origin = i.origin; position = i.position; winner = i.winner; moves = i.moves; kept = i.kept.items; reach = i.reach.items } in
    let masks = ap (λ (l : List ℕ). sets_at l c.as_slice-2.result.now c.args.ply c.args.mask) (c.as_slice.ensures.value ∙ c.self.invariant.1) in
    let plies = ap (λ (l : List (List Automaton)). sets_at (masks_of i.position) l c.args.ply c.args.mask) c.as_slice-2.ensures.value in
    reached_few s c.self.invariant.0 c.args.ply c.args.mask c.set_at.result (c.set_at.ensures ∙ masks ∙ plies)
