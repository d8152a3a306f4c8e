use Rattle.std.proofs.Common.{◌≡◌, ◌<◌, ℕ, slice_index_or, None}
use Rattle.auto_search.proofs.front.is_empty.Given as goal

abbrev pub invariant-loop-state : goal.invariant-loop-state
invariant-loop-state l = (slot : ℕ) → slot < l.state-index → slice_index_or l.front slot None ≡ None
