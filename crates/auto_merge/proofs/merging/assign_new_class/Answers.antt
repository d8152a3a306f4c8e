use Rattle.std.proofs.Common.{arith, length}
use Rattle.auto_merge.proofs.Classes.{KeepsOwners-push}
use Rattle.auto_merge.proofs.Mergings.{class_few, class_is_class, of-IsMerging, IsMerging-of, IsMergingOf-own, Keeps-of, KeepsOf-give, classed-given}
use Rattle.auto_merge.proofs.merging.assign_new_class.Goals as goal

pub new_class-requires : goal.new_class-requires
new_class-requires g c =
    let m = c.requires.merging in
    class_few m.seen m.classes (length c.args.merging.now.owners.items) (omega arith)

pub give-requires-clause-class : goal.give-requires-clause-class
give-requires-clause-class g c =
    let m = c.requires.merging in
    let own = c.in_ok-class.ensures.class in
    class_few m.seen m.classes c.in_ok-class.class (omega (arith, own))

pub returns-clause-merging : goal.returns-clause-merging
returns-clause-merging g c =
    let items = c.in_ok-class.ensures.owners in
    IsMerging-of _ (rw items (IsMergingOf-own (of-IsMerging c.requires.merging) c.in_ok-give.ensures c.requires.new c.in_ok-class.ensures.class))

pub returns-clause-kept : goal.returns-clause-kept
returns-clause-kept g c =
    let items = c.in_ok-class.ensures.owners in
    Keeps-of _ _ (rw items (KeepsOf-give c.args.merging.now.led.to c.in_ok-give.ensures c.requires.new (KeepsOwners-push c.args.merging.now.owners.items c.args.number)))

pub returns-clause-given : goal.returns-clause-given
returns-clause-given g c =
    let m = c.requires.merging in
    let own = c.in_ok-class.ensures.class in
    classed-given c.in_ok-give.ensures (class_is_class m.seen m.classes c.in_ok-class.class (omega (arith, own)))
