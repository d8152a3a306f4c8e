use Rattle.std.proofs.Common.{◌≡◌, ◌∙◌, ap, sym, subst, refl, arith}
use Rattle.game_rules.specs.Game.{Position}
use Rattle.desk_solve.specs.First.{Adds, IsServed, Listed, RayText, ray_total}
use Rattle.desk_solve.proofs.Listing.{adds_more, adds_none}
use Rattle.desk_solve.proofs.first.push_man.Goals as goal

pub loop-ray-init : goal.loop-ray-init
loop-ray-init c =
    let s = c.args.solved.now in
    record { kept = refl; adds = adds_none (RayText s.winner s.moves s.position c.args.man) c.args.text.now.items }

pub push_ray-requires-clause-served : goal.push_ray-requires-clause-served
push_ray-requires-clause-served c =
    subst (λ states. IsServed states c.args.solved.now) (sym c.loop-ray.invariant.kept) c.requires.served

pub loop-ray-preserved : goal.loop-ray-preserved
loop-ray-preserved c =
    let s = c.args.solved.now in
    let inv = c.loop-ray.invariant in
    record {
      kept = c.push_ray.ensures.kept ∙ inv.kept;
      adds = adds_more (RayText s.winner s.moves s.position c.args.man) c.loop-ray.ray _ _ _ inv.adds c.in_ok-push_ray.ensures.adds;
    }

pub returns-clause-adds : goal.returns-clause-adds
returns-clause-adds c =
    let s = c.args.solved.now in
    let same = ap (λ (p : Position). ray_total p c.args.man) c.position-position.ensures in
    let total = c.ray_total-total.ensures in
    let all : c.loop-ray.ray ≡ ray_total s.position c.args.man = omega (arith, same, total) in
    subst (λ n. Adds (Listed (RayText s.winner s.moves s.position c.args.man) n) c.args.text.now.items c.loop-ray.text.items) all c.loop-ray.invariant.adds
