use Rattle.std.proofs.Common.{arith}
use Rattle.std.proofs.lemmas.Option.{slice_get_within}
use Rattle.auto_merge.proofs.Classes.{KeepsOwners-refl}
use Rattle.auto_merge.proofs.Mergings.{class_few, class_is_class, of-IsMerging, IsMerging-of, IsMergingOf-shared, Keeps-of, KeepsOf-give, classed-given}
use Rattle.auto_merge.proofs.merging.give_shared.Goals as goal

pub give-requires-clause-class : goal.give-requires-clause-class
give-requires-clause-class g c =
    let m = c.requires.merging in
    let has = c.requires.can.has in
    let below = slice_get_within c.args.merging.now.owners.items c.args.class has.number has.at in
    class_few m.seen m.classes c.args.class (omega (arith, below))

pub returns-clause-merging : goal.returns-clause-merging
returns-clause-merging g c = IsMerging-of _ (IsMergingOf-shared (of-IsMerging c.requires.merging) c.in_ok-give.ensures c.requires.new c.requires.can)

pub returns-clause-kept : goal.returns-clause-kept
returns-clause-kept g c = Keeps-of _ _ (KeepsOf-give c.args.merging.now.led.to c.in_ok-give.ensures c.requires.new (KeepsOwners-refl c.args.merging.now.owners.items))

pub returns-clause-given : goal.returns-clause-given
returns-clause-given g c =
    let m = c.requires.merging in
    let has = c.requires.can.has in
    let below = slice_get_within c.args.merging.now.owners.items c.args.class has.number has.at in
    classed-given c.in_ok-give.ensures (class_is_class m.seen m.classes c.args.class (omega (arith, below)))
