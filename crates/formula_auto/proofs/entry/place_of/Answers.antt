use Rattle.lin_formula.specs.TreeOf.{tree_of}
use Rattle.formula_auto.proofs.Entries.{none_at_end, found_at}
use Rattle.formula_auto.proofs.entry.place_of.Goals as goal

pub returns-then-same-clause-some : goal.returns-then-same-clause-some
returns-then-same-clause-some c =
    found_at c.args.entries.now (tree_of c.args.f.now) c.loop-place.place c.index-entries-place.result c.loop-place-test.true c.index-entries-place.is (c.same.ensures.0 c.if-same.true)

pub returns-clause-none : goal.returns-clause-none
returns-clause-none c = none_at_end c.args.entries.now (tree_of c.args.f.now) c.loop-place.place c.loop-place-test.false c.loop-place.invariant
