use Rattle.std.proofs.Common.{◌≡◌, ◌++◌, ◌+◌, ◌*◌, ◌-◌, map}
use Rattle.std.specs.List.{flat_map}
use Rattle.mate_plan.specs.Claim.{every_second}
use Rattle.strategy_file.proofs.place_list.every_second.Given as goal

abbrev pub invariant-loop-i : goal.invariant-loop-i
invariant-loop-i l =
    l.places.items
    ++ flat_map (λ ply. map (λ mask. (ply, mask)) l.masks) (every_second (l.first + 2 * l.i) (l.count - l.i)) ≡ flat_map
    (λ ply. map (λ mask. (ply, mask)) l.masks) (every_second l.first l.count)
