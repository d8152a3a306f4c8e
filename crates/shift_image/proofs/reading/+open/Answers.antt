use Rattle.std.proofs.Common.{ap}
use Rattle.lin_formula.specs.TreeOf.{tree_of}
use Rattle.shift_image.proofs.Readings.{ex_all-push}
use Rattle.shift_image.proofs.reading.+open.Goals as goal

pub returns-in_ok-push-in-Ex : goal.returns-in_ok-push-in-Ex
returns-in_ok-push-in-Ex t c =
    rw (c.in_ok-push-in-Ex.ensures.items, ex_all-push, c.deref.ensures, ← ap tree_of c.in-Ex.is) at c.open.ensures
