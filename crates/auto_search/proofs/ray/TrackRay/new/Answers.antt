use Rattle.std.proofs.Common.{ℕ, ℤ, pos, get_or, to_z, of_z, arith, rules}
use mir.Val.{SFits}
use Rattle.std.specs.Int.{w8, w64}
use Rattle.std.proofs.lemmas.Int.{to_z-of_z}
use Rattle.auto_search.specs.declared.axis.Axis.{Axis}
use Rattle.auto_search.specs.Bits.{IsAxis}
use Rattle.auto_search.proofs.Hits.{all-small}
use Rattle.auto_search.proofs.ray.TrackRay.new.Goals as goal

same : (v d : ℤ) {near track : ℕ} {axis : Axis} → SFits w64 v → SFits w8 d → IsAxis (to_z w64 (of_z w64 v)) (to_z w8 (of_z w8 d)) near track axis → IsAxis v d near track axis
same v d fv fd h = rw (to_z-of_z w64 v fv, to_z-of_z w8 d fd) at h

pub returns : goal.returns
returns c =
    let way = c.args.way.now in
    let fx : SFits w64 (get_or way.fixed.now way.x_track (pos 0)) = search rules in
    let fy : SFits w64 (get_or way.fixed.now way.y_track (pos 0)) = search rules in
    let dx : SFits w8 way.dx = search rules in
    let dy : SFits w8 way.dy = search rules in
    let enough = c.bits_of-top.ensures.enough in
    record {
      x = same (get_or way.fixed.now way.x_track (pos 0)) way.dx fx dx c.new-x.ensures.axis;
      y = same (get_or way.fixed.now way.y_track (pos 0)) way.dy fy dy c.new-y.ensures.axis;
      still = c.still_letters.ensures.still;
      fits = all-small way.fixed.now c.reach_of.result c.bits_of-top.result c.reach_of.ensures.fixed enough;
      x_fits = let h = c.reach_of.ensures.x in omega (arith, h, enough);
      y_fits = let h = c.reach_of.ensures.y in omega (arith, h, enough);
      few_places = c.bits_of-top.ensures.few;
    }
