use Rattle.std.proofs.Common.{arith, length, true, false}
use Rattle.auto_merge.specs.Merging.{by_flag}
use Rattle.auto_merge.proofs.Classes.{KeepsOwners-key, by_flag-finals, by_flag-others}
use Rattle.auto_merge.proofs.Mergings.{key_class_known, class_few, class_is_class, of-IsMerging, IsMerging-of, IsMergingOf-by_key, Keeps-of, KeepsOf-give, classed-given}
use Rattle.auto_merge.proofs.merging.give_by_key.Goals as goal

pub class_of_key-requires : goal.class_of_key-requires
class_of_key-requires g c =
    let m = c.requires.merging in
    class_few m.seen m.classes (length c.args.merging.now.owners.items) (omega arith)

pub give-requires-clause-class : goal.give-requires-clause-class
give-requires-clause-class g c =
    let m = c.requires.merging in
    class_few m.seen m.classes c.in_ok-class.class (key_class_known true m.keys c.in_ok-class.ensures)

pub returns-then-is_final-clause-merging : goal.returns-then-is_final-clause-merging
returns-then-is_final-clause-merging g c =
    let old = c.args.merging.now in
    let more = c.class_of_key.new.keyed.items in
    let flagged = rw c.if-is_final.true at c.is_final.ensures in
    IsMerging-of _ (IsMergingOf-by_key (of-IsMerging c.requires.merging) c.in_ok-give.ensures c.requires.new true (by_flag more old.keyed.items) flagged c.requires.key c.in_ok-class.ensures
    (by_flag-finals old.keyed_final.items more old.keyed.items))

pub returns-then-is_final-clause-kept : goal.returns-then-is_final-clause-kept
returns-then-is_final-clause-kept g c = Keeps-of _ _ (KeepsOf-give c.args.merging.now.led.to c.in_ok-give.ensures c.requires.new (KeepsOwners-key c.in_ok-class.ensures))

pub returns-then-is_final-clause-given : goal.returns-then-is_final-clause-given
returns-then-is_final-clause-given g c =
    let m = c.requires.merging in
    classed-given c.in_ok-give.ensures (class_is_class m.seen m.classes c.in_ok-class.class (key_class_known true m.keys c.in_ok-class.ensures))

pub class_of_key-requires-2 : goal.class_of_key-requires-2
class_of_key-requires-2 g c =
    let m = c.requires.merging in
    class_few m.seen m.classes (length c.args.merging.now.owners.items) (omega arith)

pub give-requires-2-clause-class : goal.give-requires-2-clause-class
give-requires-2-clause-class g c =
    let m = c.requires.merging in
    class_few m.seen m.classes c.in_ok-class-2.class (key_class_known false m.keys c.in_ok-class-2.ensures)

pub returns-clause-merging : goal.returns-clause-merging
returns-clause-merging g c =
    let old = c.args.merging.now in
    let more = c.class_of_key-2.new.keyed.items in
    let flagged = rw c.if-is_final.false at c.is_final.ensures in
    IsMerging-of _ (IsMergingOf-by_key (of-IsMerging c.requires.merging) c.in_ok-give-2.ensures c.requires.new false (by_flag old.keyed_final.items more) flagged c.requires.key c.in_ok-class-2.ensures
    (by_flag-others old.keyed_final.items old.keyed.items more))

pub returns-clause-kept : goal.returns-clause-kept
returns-clause-kept g c = Keeps-of _ _ (KeepsOf-give c.args.merging.now.led.to c.in_ok-give-2.ensures c.requires.new (KeepsOwners-key c.in_ok-class-2.ensures))

pub returns-clause-given : goal.returns-clause-given
returns-clause-given g c =
    let m = c.requires.merging in
    classed-given c.in_ok-give-2.ensures (class_is_class m.seen m.classes c.in_ok-class-2.class (key_class_known false m.keys c.in_ok-class-2.ensures))
