use Rattle.std.proofs.Common.{◌≡◌, reverse}
use Rattle.track_word.specs.Tracks.{with_vars}
use Rattle.lin_formula.proofs.free.put_all.Given as goal

abbrev pub invariant-loop-var : goal.invariant-loop-var
invariant-loop-var l = l.into.items ≡ with_vars (reverse l.yielded) l.fn.into.items
