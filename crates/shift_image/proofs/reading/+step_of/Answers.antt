use Rattle.std.proofs.Common.{sym, ap}
use Rattle.lin_formula.specs.TreeOf.{tree_of}
use Rattle.shift_image.proofs.Readings.{change-push}
use Rattle.shift_image.proofs.reading.+step_of.Goals as goal

pub returns-in_ok-push-in-And : goal.returns-in_ok-push-in-And
returns-in_ok-push-in-And t c =
    let inside = rw c.in-Some-2.is at c.in_ok-step-in-And.ensures in
    rw (c.in_ok-push-in-And.ensures.items, change-push, inside, c.in-Some.ensures, c.deref-in-And.ensures, c.deref.ensures)
    (sym (ap tree_of c.in-And.is))
