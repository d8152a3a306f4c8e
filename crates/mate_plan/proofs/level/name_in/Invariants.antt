use Rattle.std.proofs.Common.{◌≡◌, length, drop}
use Rattle.mate_plan.specs.Formulas.{name_from, name_of}
use Rattle.mate_plan.proofs.level.name_in.Given as goal

-- what is left of the masks and names gives the name
abbrev pub invariant-loop-at : goal.invariant-loop-at
invariant-loop-at l = name_from l.found (drop (length l.yielded) l.bench.masks.now) (drop (length l.yielded) l.level) l.mask ≡ name_of l.bench.masks.now l.level l.mask
