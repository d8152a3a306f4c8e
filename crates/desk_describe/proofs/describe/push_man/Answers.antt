use Rattle.std.proofs.Common.{◌≡◌, ◌∙◌, Ok, Err, rules, ap, sym, subst, refl, arith}
use Rattle.game_rules.specs.Game.{Position}
use Rattle.desk_solve.specs.First.{Adds, IsServed, ray_total}
use Rattle.desk_describe.specs.Describe.{AllTell, ManTells, RayTells}
use Rattle.desk_describe.specs.RayStep.{StopsWith}
use Rattle.desk_describe.proofs.AllTold.{adds_more, adds_none, stops_more}
use Rattle.desk_describe.proofs.Rays.{handed_on}
use Rattle.desk_describe.proofs.describe.push_man.Goals as goal

pub loop-ray-init : goal.loop-ray-init
loop-ray-init c =
    let s = c.args.of.now.solved.now in
    record { kept = refl; adds = adds_none (RayTells c.args.of.now.budget s.winner s.moves s.position c.args.man) c.args.text.now.items }

pub push_ray-requires-clause-served : goal.push_ray-requires-clause-served
push_ray-requires-clause-served c =
    subst (λ states. IsServed states c.args.of.now.solved.now) (sym c.loop-ray.invariant.kept) c.requires.served

pub loop-ray-preserved : goal.loop-ray-preserved
loop-ray-preserved c =
    let s = c.args.of.now.solved.now in
    let inv = c.loop-ray.invariant in
    record {
      kept = c.push_ray.ensures.kept ∙ inv.kept;
      adds = adds_more (RayTells c.args.of.now.budget s.winner s.moves s.position c.args.man) c.loop-ray.ray _ _ _ inv.adds c.in_ok-push_ray.ensures.adds;
    }

pub returns-in_err-push_ray-clause-stops : goal.returns-in_err-push_ray-clause-stops
returns-in_err-push_ray-clause-stops c =
    let s = c.args.of.now.solved.now in
    let same = ap (λ (p : Position). ray_total p c.args.man) c.position-position.ensures in
    let total = c.ray_total-total.ensures in
    let error = c.in_err-push_ray.field-0.0 in
    handed_on c.from_residual.result error (StopsWith (λ step. ManTells c.args.of.now.budget s.winner s.moves s.position c.args.man (Err step))) (search rules)
    (stops_more (RayTells c.args.of.now.budget s.winner s.moves s.position c.args.man) c.loop-ray.ray (ray_total s.position c.args.man) _ _ error
    (omega (arith, same, total, c.loop-ray-test.true)) c.loop-ray.invariant.adds c.in_err-push_ray.ensures.stops)

pub returns-clause-adds : goal.returns-clause-adds
returns-clause-adds c =
    let s = c.args.of.now.solved.now in
    let same = ap (λ (p : Position). ray_total p c.args.man) c.position-position.ensures in
    let total = c.ray_total-total.ensures in
    let all : c.loop-ray.ray ≡ ray_total s.position c.args.man = omega (arith, same, total) in
    subst (λ n. Adds (λ added. AllTell (RayTells c.args.of.now.budget s.winner s.moves s.position c.args.man) n (Ok added)) c.args.text.now.items c.loop-ray.text.items) all
    c.loop-ray.invariant.adds
