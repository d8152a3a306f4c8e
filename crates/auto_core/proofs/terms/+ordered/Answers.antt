use Rattle.auto_core.specs.Sums.{ordered_terms}
use Rattle.auto_core.proofs.Orders.{insert-with_term}
use Rattle.auto_core.proofs.terms.+ordered.Goals as goal

pub returns-in_ok-insert-in-Some : goal.returns-in_ok-insert-in-Some
returns-in_ok-insert-in-Some t c =
    rw (
      c.in-Some.ensures.cases.0,
      c.in_ok-insert-in-Some.ensures.items,
      c.place_of-place.ensures.place,
      c.as_slice.ensures.value,
      c.in_ok-sorted-in-Some.ensures,
    )
    (insert-with_term c.in-Some.term.now (ordered_terms c.in-Some.rest.now))
