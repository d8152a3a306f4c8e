use Rattle.std.proofs.Common.{false, ◌<◌, length, not, sym, ◌∙◌, arith}
use Rattle.std.proofs.lemmas.List.{get_or_default}
use Rattle.auto_merge.proofs.Padded.{IsEntered-set}
use Rattle.auto_merge.proofs.Trails.{not-true, not-false}
use Rattle.auto_merge.proofs.walk.enter.Goals as goal

pub returns-clause-entered : goal.returns-clause-entered
returns-clause-entered c =
    let enough = c.in_ok-make_room.ensures.room in
    let within : c.args.number < length c.make_room.new.entered.items = omega (arith, enough) in
    IsEntered-set c.args.way.now.entered.items c.make_room.new.entered.items c.args.number c.index.result.now c.in_ok-make_room.ensures
    (get_or_default c.make_room.new.entered.items c.args.number false c.index.result.now within ∙ sym c.index.ensures) (not c.index.result.now) (not-true c.index.result.now) (not-false c.index.result.now)
