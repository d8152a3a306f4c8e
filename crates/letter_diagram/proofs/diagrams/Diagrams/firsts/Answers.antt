use Rattle.letter_diagram.specs.Least.{Meets}
use Rattle.letter_diagram.proofs.Passes.{IsPass-start, IsPass-leaf, IsPass-test, popped, smaller-leaf, smaller-test, none-left, AreFirsts-passed}
use Rattle.letter_diagram.proofs.diagrams.Diagrams.firsts.Goals as goal

pub loop-node-init : goal.loop-node-init
loop-node-init c = IsPass-start _ _ c.new-met.result c.insert.new.self c.new-firsts.result c.requires c.new-met.ensures.empty c.new-firsts.ensures.empty c.in_ok-insert.ensures.updates

pub shape-requires : goal.shape-requires
shape-requires c = (c.loop-node.invariant.met_at _ _ c.in-Some.ensures.value).known

pub loop-node-smaller-in_ok-insert-in-Leaf : goal.loop-node-smaller-in_ok-insert-in-Leaf
loop-node-smaller-in_ok-insert-in-Leaf c = smaller-leaf c.loop-node.met c.pop_last.new.self _ _ c.in-Some.ensures.removal c.in-Some.ensures.all_below

pub loop-node-preserved-in_ok-insert-in-Leaf : goal.loop-node-preserved-in_ok-insert-in-Leaf
loop-node-preserved-in_ok-insert-in-Leaf c =
    let e = c.in-Leaf.ensures in
    IsPass-leaf _ e.diagram _ _ _ _ _ _ c.loop-node.invariant
    (popped _ _ _ _ c.in-Some.ensures.value c.in-Some.ensures.updates c.in-Some.ensures.greatest) _ e.at _ c.in_ok-insert-in-Leaf.ensures.updates

pub with_bit-requires-clause-before : goal.with_bit-requires-clause-before
with_bit-requires-clause-before c =
    let met = c.loop-node.invariant.met_at _ _ c.in-Some.ensures.value in
    rw c.in-Test.ensures.at.top at met.below

pub loop-node-smaller : goal.loop-node-smaller
loop-node-smaller c =
    let fits = c.in-Test.ensures.fits in
    smaller-test c.loop-node.met c.pop_last.new.self c.meet.new.met c.meet-in-Test.new.met _ _ c.in-Some.ensures.removal
    c.in-Some.ensures.all_below fits.low_before fits.high_before c.in_ok-meet-in-Test.ensures c.in_ok-meet-in-Test-2.ensures

pub loop-node-preserved : goal.loop-node-preserved
loop-node-preserved c =
    let e = c.in-Test.ensures in
    let second : Meets c.meet.new.met c.meet-in-Test.new.met c.in-Test.high _ = rw c.with_bit.ensures at c.in_ok-meet-in-Test-2.ensures in
    IsPass-test _ e.diagram _ _ _ _ _ _ c.loop-node.invariant
    (popped _ _ _ _ c.in-Some.ensures.value c.in-Some.ensures.updates c.in-Some.ensures.greatest) c.in-Test.track _ _ e.at e.fits _ _
    c.in_ok-meet-in-Test.ensures second

pub returns : goal.returns
returns c = AreFirsts-passed c.loop-node.invariant (none-left c.loop-node.met.entries c.in_default.ensures.variant.1)
