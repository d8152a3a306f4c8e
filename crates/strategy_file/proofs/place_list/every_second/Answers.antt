use Rattle.std.proofs.Common.{map}
use Rattle.std.specs.List.{flat_map}
use Rattle.mate_plan.specs.Claim.{every_second}
use Rattle.strategy_file.proofs.PlaceLemmas.{next_ply}
use Rattle.strategy_file.proofs.place_list.every_second.Goals as goal

pub loop-i-preserved : goal.loop-i-preserved
loop-i-preserved c =
    rw c.in_ok-push_masks.ensures (next_ply (λ ply. map (λ mask. (ply, mask)) c.args.masks.now) c.loop-i.places.items c.args.first c.args.count c.loop-i.i
    (flat_map (λ ply. map (λ mask. (ply, mask)) c.args.masks.now) (every_second c.args.first c.args.count)) c.loop-i-test.true c.loop-i.invariant)
