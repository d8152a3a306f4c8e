use Rattle.std.proofs.Common.{◌≡◌, reverse}
use Rattle.track_word.specs.Tracks.{with_vars}
use Rattle.track_word.specs.Atom.{term_vars}
use Rattle.lin_formula.proofs.free.put_terms.Given as goal

abbrev pub invariant-loop-term : goal.invariant-loop-term
invariant-loop-term l = l.into.items ≡ with_vars (term_vars (reverse l.yielded)) l.fn.into.items
