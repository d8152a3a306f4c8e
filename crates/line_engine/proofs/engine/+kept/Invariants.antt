use Rattle.std.proofs.Common.{◌≡◌, ◌≤◌, ◌+◌, ◌*◌, ◌∷◌, [], length, None, true}
use Rattle.auto_core.specs.Automaton.{Automaton}
use Rattle.lin_formula.specs.SetOf.{Nothing, Table}
use Rattle.set_plan.proofs.Folds.{IsAfter}
use Rattle.line_plan.specs.Plan.{kept, lose_option, win_option}
use Rattle.line_engine.specs.Answers.{IsFilled, IsFilledLosing, found_at, losing_at, most_of_option}
use Rattle.line_engine.specs.Nodes.{position_of}
use Rattle.line_engine.proofs.engine.+kept.Given as goal

abbrev pub decreases-kept : goal.decreases-kept
decreases-kept l = 3 * l.left

abbrev pub decreases-win : goal.decreases-win
decreases-win l = 3 * l.ply.left + 2

abbrev pub decreases-lose : goal.decreases-lose
decreases-lose l = 3 * l.ply.left + 2

abbrev pub decreases-with_won : goal.decreases-with_won
decreases-with_won l = 3 * l.ply.left + 1

abbrev pub decreases-with_lost : goal.decreases-with_lost
decreases-with_lost l = 3 * l.ply.left + 1

-- what is left of the winner's options leads to the whole
abbrev pub invariant-win-loop-option : goal.invariant-win-loop-option
invariant-win-loop-option l = record {
  room : l.work.at ≤ l.initial.work.at + l.option-index * most_of_option l.ply.left;
  set : IsFilled (length l.ply.node.path.now) l.so_far;
  budget : l.work.memo.budget ≡ l.initial.work.memo.budget;
  left : (a : Automaton) → l.ply.reached.now ≡ a ∷ []
      → IsAfter l.option-items
      (win_option (position_of l.ply.node.crowd) l.ply.node.crowd.winner (kept (position_of l.ply.node.crowd) l.ply.node.crowd.winner l.ply.left) l.ply.node.path.now (Table a))
      (found_at l.initial.work.at None) l.initial.work.memo.budget l.option-index (found_at l.work.at l.so_far);
}

-- the same of the loser's
abbrev pub invariant-lose-loop-option : goal.invariant-lose-loop-option
invariant-lose-loop-option l = record {
  room : l.work.at ≤ l.initial.work.at + l.option-index * most_of_option l.ply.left;
  sets : IsFilledLosing (length l.ply.node.path.now) l.lost;
  budget : l.work.memo.budget ≡ l.initial.work.memo.budget;
  left : (a : Automaton) → l.ply.reached.now ≡ a ∷ []
      → IsAfter l.option-items
      (lose_option (position_of l.ply.node.crowd) l.ply.node.crowd.winner (kept (position_of l.ply.node.crowd) l.ply.node.crowd.winner l.ply.left) l.ply.node.path.now (Table a))
      (record { escape = Nothing; moves = Nothing; at = l.initial.work.at; known = true }) l.initial.work.memo.budget l.option-index (losing_at l.work.at l.lost);
}
