use Rattle.std.proofs.Common.{◌≡◌, ◌+◌, nat_lt, drop}
use Rattle.std.specs.List.{position_or_len}
use Rattle.auto_core.proofs.terms.place_of.Given as goal

abbrev pub invariant-loop-index : goal.invariant-loop-index
invariant-loop-index l = position_or_len (λ t. nat_lt l.var.0 t.1.0) l.terms ≡ l.index + position_or_len (λ t. nat_lt l.var.0 t.1.0) (drop l.index l.terms)
