use Rattle.std.proofs.Common.{◌≡◌, ◌+◌, suc, length, ap, ◌∙◌, sym, subst, refl, add-one, arith}
use Rattle.game_rules.specs.Game.{Position}
use Rattle.desk_solve.specs.First.{Adds, IsServed, Listed, ManText}
use Rattle.desk_solve.proofs.Listing.{adds_more, adds_none}
use Rattle.desk_solve.proofs.first.push_men.Goals as goal

pub loop-index-init : goal.loop-index-init
loop-index-init c =
    let s = c.args.solved.now in
    record { kept = refl; adds = adds_none (λ before. ManText s.winner s.moves s.position (suc before)) c.args.text.now.items }

pub push_man-requires-clause-served : goal.push_man-requires-clause-served
push_man-requires-clause-served c = subst (λ states. IsServed states c.args.solved.now) (sym c.loop-index.invariant.kept) c.requires

pub push_man-requires-clause-last : goal.push_man-requires-clause-last
push_man-requires-clause-last c =
    let men = ap (λ (p : Position). length p.men) c.position-position.ensures in
    let count = c.count-index-end.ensures.count in
    omega (arith, men, count)

pub loop-index-preserved : goal.loop-index-preserved
loop-index-preserved c =
    let s = c.args.solved.now in
    let inv = c.loop-index.invariant in
    let next : c.loop-index.index + 1 ≡ suc c.loop-index.index = add-one c.loop-index.index in
    let more = subst (λ man. Adds (ManText s.winner s.moves s.position man) c.loop-index.text.items c.push_man.new.text.items) next c.in_ok-push_man.ensures.adds in
    record {
      kept = c.push_man.ensures.kept ∙ inv.kept;
      adds = adds_more (λ before. ManText s.winner s.moves s.position (suc before)) c.loop-index.index _ _ _ inv.adds more;
    }

pub returns : goal.returns
returns c =
    let s = c.args.solved.now in
    let men = ap (λ (p : Position). length p.men) c.position-position.ensures in
    let count = c.count-index-end.ensures.count in
    let all : c.loop-index.index ≡ length s.position.men = omega (arith, men, count) in
    subst (λ n. Adds (Listed (λ before. ManText s.winner s.moves s.position (suc before)) n) c.args.text.now.items c.loop-index.text.items) all c.loop-index.invariant.adds
