use Rattle.std.proofs.Common.{sym, ap}
use Rattle.lin_formula.specs.TreeOf.{tree_of}
use Rattle.shift_image.proofs.Readings.{clear-push}
use Rattle.shift_image.proofs.reading.+without_clear.Goals as goal

pub returns-in_ok-push-in-Some : goal.returns-in_ok-push-in-Some
returns-in_ok-push-in-Some t c =
    rw (c.in_ok-push-in-Some.ensures.items, clear-push, c.in_ok-inside-in-Some.ensures, c.in-Some.ensures, c.deref-in-Some.ensures, c.deref.ensures)
    (sym (ap tree_of c.in-And.is))
