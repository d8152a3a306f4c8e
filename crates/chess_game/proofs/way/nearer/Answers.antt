use Rattle.std.proofs.Common.{◌≡◌, ◌∙◌, Some, ap, arith, refl, subst, sym}
use Rattle.std.proofs.lemmas.Option.{slice_get-get_or}
use Rattle.std.specs.Prelude.{slice_get}
use Rattle.chess_game.specs.Along.{IsNearest, IsNearestMan}
use Rattle.chess_game.proofs.WayLemmas.{nearest_keep, nearest_take}
use Rattle.chess_game.proofs.way.nearer.Goals as goal

pub returns-in-Some-best : goal.returns-in-Some-best
returns-in-Some-best c =
    let is : slice_get c.args.men.now c.args.index ≡ Some c.index-men-index.result =
    slice_get-get_or c.args.men.now c.args.index c.index-men-index.result c.requires.within ∙ ap Some (sym c.index-men-index.is) in
    let old : IsNearestMan c.args.men.now c.args.index c.args.from c.args.ray c.in-Some-best.hit =
    subst (IsNearest c.args.men.now c.args.index c.args.from c.args.ray) c.in-Some-best.is c.requires.best in
    nearest_keep c.args.men.now c.args.index c.args.from c.args.ray c.in-Some-best.hit c.index-men-index.result c.in-Some.distance c.requires.stepwise
    is old c.in-Some.ensures.some c.if-hit-distance.true

pub returns-in_default-best : goal.returns-in_default-best
returns-in_default-best c =
    let is : slice_get c.args.men.now c.args.index ≡ Some c.index-men-index.result =
    slice_get-get_or c.args.men.now c.args.index c.index-men-index.result c.requires.within ∙ ap Some (sym c.index-men-index.is) in
    let old : IsNearest c.args.men.now c.args.index c.args.from c.args.ray (Some c.in-Some-best.hit) =
    subst (IsNearest c.args.men.now c.args.index c.args.from c.args.ray) c.in-Some-best.is c.requires.best in
    nearest_take c.args.men.now c.args.index c.args.from c.args.ray (Some c.in-Some-best.hit) c.index-men-index.result
    (record { distance = c.in-Some.distance; index = c.args.index }) c.requires.stepwise is refl old c.in-Some.ensures.some (omega arith)

pub returns-in_default-best-2 : goal.returns-in_default-best-2
returns-in_default-best-2 c =
    let is : slice_get c.args.men.now c.args.index ≡ Some c.index-men-index.result =
    slice_get-get_or c.args.men.now c.args.index c.index-men-index.result c.requires.within ∙ ap Some (sym c.index-men-index.is) in
    nearest_take c.args.men.now c.args.index c.args.from c.args.ray c.args.best c.index-men-index.result
    (record { distance = c.in-Some.distance; index = c.args.index }) c.requires.stepwise is refl c.requires.best c.in-Some.ensures.some
    (rw c.in_default-best.is tt)
