use Rattle.std.proofs.Common.{◌≡◌, ◌++◌, take}
use Rattle.std.specs.Prelude.{codes}
use Rattle.std.specs.List.{flat_map}
use Rattle.desk_describe.specs.Description.{run_text}
use Rattle.desk_describe.proofs.lists.push_runs.Given as goal

abbrev pub invariant-loop-other : goal.invariant-loop-other
invariant-loop-other l = l.text.items ≡ l.initial.text.items ++ flat_map (λ run. codes "," ++ run_text run) (take l.other-index l.others)
