use Rattle.std.proofs.Common.{arith, ◌≢◌}
use Rattle.auto_merge.specs.declared.keys.TheConstants.{NO_CLASS}
use Rattle.auto_merge.proofs.Padded.{IsClassGiven-set}
use Rattle.auto_merge.proofs.merging.give.Goals as goal

pub returns : goal.returns
returns c =
    let few = c.requires.class in
    let some : c.args.class ≢ NO_CLASS = λ e. absurd (omega (arith, e, few)) in
    IsClassGiven-set c.args.table.now.items c.make_room.new.table.items c.args.number c.args.class c.in_ok-make_room.ensures.room c.make_room.ensures.same c.requires.new some
