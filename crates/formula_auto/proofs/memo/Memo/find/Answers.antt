use Rattle.lin_formula.specs.TreeOf.{tree_of}
use Rattle.formula_auto.proofs.MemoLemmas.{found_or_not}
use Rattle.formula_auto.proofs.memo.Memo.find.Goals as goal

pub returns : goal.returns
returns c =
    found_or_not c.self.inside.shorts c.self.inside.found c.as_slice.result.now c.self.inside.entries.items c.args.self.now c.as_slice.ensures.value c.self.view_is
    (tree_of c.args.f.now) c.place_of-place.result c.self.invariant c.place_of-place.ensures.none c.place_of-place.ensures.some
