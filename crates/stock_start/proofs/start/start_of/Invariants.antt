use Rattle.std.proofs.Common.{◌≡◌, map, take}
use Rattle.stock_start.specs.Start.{placed_man}
use Rattle.stock_start.proofs.start.start_of.Given as goal

abbrev pub invariant-loop-index : goal.invariant-loop-index
invariant-loop-index l = l.draft.men ≡ map placed_man (take l.index l.men)
