use Rattle.std.proofs.Common.{rules, arith, ◌≡◌, length}
use Rattle.auto_refine.proofs.Listings.{IsListing-first}
use Rattle.auto_refine.proofs.listing.list_states.Goals as goal

pub returns : goal.returns
returns c =
    let count : c.len.result ≡ length c.args.partition.now.classes.items = search rules in
    let size = c.in_ok-states.ensures.size in
    let listed = rw (c.as_slice.ensures.value, c.as_slice-2.ensures.value, c.in_ok-add_lists.ensures, c.in_ok-lists.ensures.items) at c.in_ok-list_each.ensures in
    IsListing-first c.in_ok-states.states.items c.in_ok-representatives.ensures.of_each
    (omega (arith, size, count)) (λ state within. c.in_ok-states.ensures.each state (omega (arith, within, count))) listed
