use Rattle.std.proofs.Common.{◌≡◌, length, rules, arith, ap, subst, get_or}
use Rattle.auto_reduce.proofs.Canons.{IsCanonical-from}
use Rattle.auto_reduce.proofs.canonical.canonical.Goals as goal

pub returns : goal.returns
returns c =
    let classes = c.in_ok-partition.partition.classes.items in
    let same = c.as_slice-class-items.ensures.value in
    let lengths = ap length same in
    let size : length c.loop-class.canon.items ≡ length classes = search rules in
    IsCanonical-from _ c.coarsest.ensures.valid classes c.in_ok-partition.partition.count c.in_ok-members.members.items c.loop-class.canon.items
    c.in_ok-partition.ensures.coarsest c.in_ok-members.ensures.of_each size
    (λ k h. subst (λ l. get_or c.loop-class.canon.items k 0 ≡ get_or c.in_ok-members.members.items (get_or l k 0) 0) same (c.loop-class.invariant.values k (omega (arith, lengths, h))))
