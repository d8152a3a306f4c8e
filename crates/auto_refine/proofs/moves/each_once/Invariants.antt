use Rattle.std.proofs.Common.{◌≡◌, ◌<◌, ℕ, vec_len, get_or, true, false}
use Rattle.std.specs.List.{All, Contains}
use Rattle.auto_refine.proofs.moves.each_once.Given as goal

abbrev pub invariant-loop-state : goal.invariant-loop-state
invariant-loop-state l = record {
  size : vec_len l.seen ≡ l.count;
  within : All (λ state. state < l.count) l.once.items;
  noted : (state : ℕ) → get_or l.seen.items state false ≡ true → Contains l.once.items state;
  all : (turn : ℕ) → turn < l.state-index → Contains l.once.items (get_or l.states turn 0);
}
