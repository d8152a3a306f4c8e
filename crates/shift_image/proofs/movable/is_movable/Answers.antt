use Rattle.std.proofs.Common.{◌<◌, length, arith}
use Rattle.std.proofs.lemmas.Grind.{common_steps}
use Rattle.std.proofs.lemmas.Result.{IfOk-weaker}
use Rattle.shift_image.specs.Read.{image_of}
use Rattle.shift_image.proofs.Movables.{movable}
use Rattle.shift_image.proofs.movable.is_movable.Goals as goal

pub returns : goal.returns
returns c =
    let shifts = c.as_slice-shifts.ensures.value in
    let some : 0 < length c.args.image.now.shifts.items = grind (arith, common_steps, shifts, c.if-is_empty.false, c.is_empty.ensures) in
    let leave = rw shifts at (c.all_leave.ensures c.if-not-all_leave.false) in
    let apart = rw shifts at (c.have_distinct_vars.ensures c.if-not-have_distinct_vars.false) in
    let about = rw (c.as_slice.ensures.value, c.as_slice-2.ensures.value, c.in_ok-moved.ensures, shifts) at c.are_about.ensures in
    IfOk-weaker c.are_about.result _ _ (λ is all yes'. movable (image_of c.args.image.now) some leave apart (all yes')) about
