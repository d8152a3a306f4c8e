use Rattle.std.proofs.Common.{◌≡◌, map, take}
use Rattle.auto_walk.proofs.explore.flags.Given as goal

abbrev pub invariant-loop-number : goal.invariant-loop-number
invariant-loop-number g l = l.flags.items ≡ map (g.W.Walk.walker l.walk).final (take l.number (g.W.Walk.places l.walk))
