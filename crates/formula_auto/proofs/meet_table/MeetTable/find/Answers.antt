use Rattle.lin_formula.specs.TreeOf.{tree_of}
use Rattle.formula_auto.proofs.MeetLemmas.{pair_found}
use Rattle.formula_auto.proofs.meet_table.MeetTable.find.Goals as goal

pub returns : goal.returns
returns c =
    pair_found c.self.inside.sets.now c.self.inside.budget c.self.inside.pairs.items c.args.self.now c.self.view_is
    c.as_slice.result.now (tree_of c.args.f.now) c.place_of-place.result c.as_slice.ensures.value c.self.invariant c.place_of-place.ensures.some
