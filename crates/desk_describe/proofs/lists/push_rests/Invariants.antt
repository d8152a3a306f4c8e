use Rattle.std.proofs.Common.{◌≡◌, ◌++◌, take}
use Rattle.std.specs.Prelude.{codes}
use Rattle.std.specs.Fmt.{decimal}
use Rattle.std.specs.List.{flat_map}
use Rattle.desk_describe.proofs.lists.push_rests.Given as goal

abbrev pub invariant-loop-other : goal.invariant-loop-other
invariant-loop-other l = l.text.items ≡ l.initial.text.items ++ flat_map (λ rest. codes "," ++ decimal rest) (take l.other-index l.others)
