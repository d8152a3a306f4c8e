use Rattle.std.proofs.Common.{arith}
use Rattle.auto_predecessors.proofs.Placed.{IsPlaced-leaf, IsPlaced-low, IsPlaced-grows, RemembersPlaced-next, KeepsWays-push, KeepsWays-trans}
use Rattle.auto_predecessors.proofs.ways.+place_of.Goals as goal

pub returns-in-Some-clause-placed : goal.returns-in-Some-clause-placed
returns-in-Some-clause-placed t c = c.requires.remembered.placed _ _ (rw c.number.ensures at c.in-Some.is)

pub place_of-requires : goal.place_of-requires
place_of-requires t c =
    let low_before = c.in-Test.ensures.fits.low_before in
    (omega arith, (omega arith, (λ letter. let v = (c.in-Test.ensures.children letter).0 in rw (← v.1) (c.requires.leaves v.0), c.requires.remembered)))

pub place_of-requires-in-Test : goal.place_of-requires-in-Test
place_of-requires-in-Test t c =
    let high_before = c.in-Test.ensures.fits.high_before in
    (omega arith, (omega arith, (λ letter. let v = (c.in-Test.ensures.children letter).1 in rw (← v.1) (c.requires.leaves v.0), c.in_ok-low-in-Test.ensures.remembered)))

pub returns-in_ok-place-in-Leaf-clause-placed : goal.returns-in_ok-place-in-Leaf-clause-placed
returns-in_ok-place-in-Leaf-clause-placed t c =
    rw (c.in_ok-place-in-Leaf.ensures.ways, c.in_ok-place-in-Leaf.ensures.place) (IsPlaced-leaf _ _ c.in-Leaf.ensures.at)

pub returns-in_ok-place-in-Leaf-clause-remembered : goal.returns-in_ok-place-in-Leaf-clause-remembered
returns-in_ok-place-in-Leaf-clause-remembered t c =
    let e = c.in_ok-place-in-Leaf.ensures in
    let m = c.in-Leaf.ensures.at.map 0 in
    RemembersPlaced-next _ _ _ c.requires.remembered (rw (← m) (c.requires.leaves 0)) c.requires.known (IsPlaced-leaf _ _ c.in-Leaf.ensures.at) e.ways e.places

pub returns-in_ok-place-in-Leaf-clause-kept : goal.returns-in_ok-place-in-Leaf-clause-kept
returns-in_ok-place-in-Leaf-clause-kept t c = rw c.in_ok-place-in-Leaf.ensures.ways (KeepsWays-push _ _)

pub returns-in_ok-place-in-Test-clause-placed : goal.returns-in_ok-place-in-Test-clause-placed
returns-in_ok-place-in-Test-clause-placed t c =
    let low = c.in_ok-low-in-Test.ensures in
    let high = c.in_ok-high-in-Test.ensures in
    rw (c.in_ok-place-in-Test.ensures.ways, c.in_ok-place-in-Test.ensures.place) (IsPlaced-low high.kept c.in-Test.ensures.at low.placed high.placed)

pub returns-in_ok-place-in-Test-clause-remembered : goal.returns-in_ok-place-in-Test-clause-remembered
returns-in_ok-place-in-Test-clause-remembered t c =
    let e = c.in_ok-place-in-Test.ensures in
    let low = c.in_ok-low-in-Test.ensures in
    let high = c.in_ok-high-in-Test.ensures in
    let lq = IsPlaced-grows high.kept low.placed in
    RemembersPlaced-next _ _ _ high.remembered (lq.within, high.placed.within) c.requires.known
    (IsPlaced-low high.kept c.in-Test.ensures.at low.placed high.placed) e.ways e.places

pub returns-in_ok-place-in-Test-clause-kept : goal.returns-in_ok-place-in-Test-clause-kept
returns-in_ok-place-in-Test-clause-kept t c =
    rw c.in_ok-place-in-Test.ensures.ways (KeepsWays-trans (KeepsWays-trans c.in_ok-low-in-Test.ensures.kept c.in_ok-high-in-Test.ensures.kept) (KeepsWays-push _ _))
