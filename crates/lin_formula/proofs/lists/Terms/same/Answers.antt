use Rattle.std.proofs.lemmas.Slice.Eq.{slice_eq-Decides}
use Rattle.lin_formula.proofs.Equality.{same_term}
use Rattle.lin_formula.proofs.lists.Terms.same.Goals as goal

pub returns : goal.returns
returns c =
    rw (← c.as_slice.ensures.items, ← c.as_slice-2.ensures.items)
    (slice_eq-Decides same_term c.as_slice.result.now c.as_slice-2.result.now c.eq.result c.eq.ensures)
