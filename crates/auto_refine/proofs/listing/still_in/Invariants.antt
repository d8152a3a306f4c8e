use Rattle.std.proofs.Common.{◌≡◌, ◌<◌, ℕ, get_or}
use Rattle.std.specs.List.{Contains}
use Rattle.auto_refine.proofs.listing.still_in.Given as goal

abbrev pub invariant-loop-state : goal.invariant-loop-state
invariant-loop-state l = record {
  only : (state : ℕ) → Contains l.kept.items state → get_or l.partition.classes.items state 0 ≡ l.class;
  fewer : (state : ℕ) → Contains l.kept.items state → Contains l.states state;
  stays : (turn : ℕ) → turn < l.state-index → get_or l.partition.classes.items (get_or l.states turn 0) 0 ≡ l.class → Contains l.kept.items (get_or l.states turn 0);
}
