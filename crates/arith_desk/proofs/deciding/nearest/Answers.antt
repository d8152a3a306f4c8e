use Rattle.std.proofs.Common.{◌∷◌, [], pos, refl}
use Rattle.auto_core.specs.Integers.{IsAccepted}
use Rattle.arith_desk.proofs.Nearests.{nearest_found}
use Rattle.arith_desk.proofs.Rays.{least_above, least_below}
use Rattle.arith_desk.proofs.deciding.nearest.Goals as goal

pub returns : goal.returns
returns c =
    let a = c.args.a.now in
    let above = least_above a c.least_on_ray-above.result (record { origin = refl; x_track = refl; y_track = refl; dx = refl; dy = refl }) c.least_on_ray-above.ensures.least in
    let below = least_below a c.least_on_ray-below.result (record { origin = refl; x_track = refl; y_track = refl; dx = refl; dy = refl }) c.least_on_ray-below.ensures.least in
    rw c.nearer.ensures (nearest_found (λ n. IsAccepted a (n ∷ pos 0 ∷ [])) c.least_on_ray-above.result c.least_on_ray-below.result above below)
