use Rattle.std.proofs.Common.{◌<◌, ℕ, get_or}
use Rattle.auto_refine.specs.Moves.{AreFound, MovesIfOther}
use Rattle.auto_refine.proofs.moves.find_moves.Given as goal

abbrev pub invariant-loop-state : goal.invariant-loop-state
invariant-loop-state l = record {
  moves : AreFound l.partition l.listing.representatives.items l.nodes l.moves;
  moved : (turn : ℕ) → turn < l.state-index → MovesIfOther l.partition l.listing l.nodes l.moves (get_or l.candidates turn 0);
}
