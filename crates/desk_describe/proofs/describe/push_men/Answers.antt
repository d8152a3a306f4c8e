use Rattle.std.proofs.Common.{◌≡◌, ◌+◌, ℕ, suc, length, Ok, Err, List, ap, ◌∙◌, sym, subst, refl, add-one, arith, rules}
use Rattle.game_rules.specs.Game.{Position}
use Rattle.desk_solve.specs.First.{Adds, IsServed}
use Rattle.desk_describe.specs.Describe.{AllTell, ManTells, MenTell}
use Rattle.desk_describe.specs.RayStep.{StopsWith}
use Rattle.desk_describe.proofs.AllTold.{adds_more, adds_none, stops_more}
use Rattle.desk_describe.proofs.Rays.{handed_on}
use Rattle.desk_describe.proofs.describe.push_men.Goals as goal

pub loop-index-init : goal.loop-index-init
loop-index-init c =
    let s = c.args.of.now.solved.now in
    record { kept = refl; adds = adds_none (λ before. ManTells c.args.of.now.budget s.winner s.moves s.position (suc before)) c.args.text.now.items }

pub push_man-requires-clause-served : goal.push_man-requires-clause-served
push_man-requires-clause-served c = subst (λ states. IsServed states c.args.of.now.solved.now) (sym c.loop-index.invariant.kept) c.requires

pub push_man-requires-clause-last : goal.push_man-requires-clause-last
push_man-requires-clause-last c =
    let men = ap (λ (p : Position). length p.men) c.position-position.ensures in
    let count = c.count-index-end.ensures.count in
    omega (arith, men, count)

pub loop-index-preserved : goal.loop-index-preserved
loop-index-preserved c =
    let s = c.args.of.now.solved.now in
    let inv = c.loop-index.invariant in
    let next : c.loop-index.index + 1 ≡ suc c.loop-index.index = add-one c.loop-index.index in
    let more =
    subst (λ man. Adds (λ added. ManTells c.args.of.now.budget s.winner s.moves s.position man (Ok added)) c.loop-index.text.items c.push_man.new.text.items) next
    c.in_ok-push_man.ensures.adds in
    record {
      kept = c.push_man.ensures.kept ∙ inv.kept;
      adds = adds_more (λ before. ManTells c.args.of.now.budget s.winner s.moves s.position (suc before)) c.loop-index.index _ _ _ inv.adds more;
    }

pub returns-in_err-push_man-clause-stops : goal.returns-in_err-push_man-clause-stops
returns-in_err-push_man-clause-stops c =
    let s = c.args.of.now.solved.now in
    let men = ap (λ (p : Position). length p.men) c.position-position.ensures in
    let count = c.count-index-end.ensures.count in
    let next : c.loop-index.index + 1 ≡ suc c.loop-index.index = add-one c.loop-index.index in
    let stops =
    subst (λ man. StopsWith (λ step. ManTells c.args.of.now.budget s.winner s.moves s.position man (Err step)) c.in_err-push_man.field-0.0) next c.in_err-push_man.ensures.stops in
    let error = c.in_err-push_man.field-0.0 in
    handed_on c.from_residual.result error (StopsWith (λ step. MenTell c.args.of.now.budget s.winner s.moves s.position (Err step))) (search rules)
    (stops_more (λ before. ManTells c.args.of.now.budget s.winner s.moves s.position (suc before)) c.loop-index.index (length s.position.men) _ _ error
    (omega (arith, men, count, c.loop-index-test.true)) c.loop-index.invariant.adds stops)

pub returns-clause-adds : goal.returns-clause-adds
returns-clause-adds c =
    let s = c.args.of.now.solved.now in
    let men = ap (λ (p : Position). length p.men) c.position-position.ensures in
    let count = c.count-index-end.ensures.count in
    let all : c.loop-index.index ≡ length s.position.men = omega (arith, men, count) in
    subst (λ n. Adds (λ added. AllTell (λ before. ManTells c.args.of.now.budget s.winner s.moves s.position (suc before)) n (Ok added)) c.args.text.now.items c.loop-index.text.items) all
    c.loop-index.invariant.adds
