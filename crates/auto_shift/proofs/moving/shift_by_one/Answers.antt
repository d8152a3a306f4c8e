use Rattle.auto_shift.proofs.moving.shift_by_one.Goals as goal

pub returns-clause-moved : goal.returns-clause-moved
returns-clause-moved c = (c.pairs_decide_moved_sets.ensures c.args.a.now c.in_ok-moved.moved c.args.track c.args.up c.requires.integers c.requires.track c.in_ok-moved.ensures.ok).0

pub returns-clause-integers : goal.returns-clause-integers
returns-clause-integers c = (c.pairs_decide_moved_sets.ensures c.args.a.now c.in_ok-moved.moved c.args.track c.args.up c.requires.integers c.requires.track c.in_ok-moved.ensures.ok).1
