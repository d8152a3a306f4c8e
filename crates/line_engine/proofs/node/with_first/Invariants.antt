use Rattle.std.proofs.Common.{◌≡◌, ◌∷◌, take}
use Rattle.line_engine.proofs.node.with_first.Given as goal

abbrev pub invariant-loop-item : goal.invariant-loop-item
invariant-loop-item g l = l.all.items ≡ l.fn.first ∷ take l.item-index l.rest
