use Rattle.std.proofs.Common.{arith, get_or}
use Rattle.auto_numbers.proofs.MaskLemmas.{AreMasks-push, mask-more, mask-room}
use Rattle.auto_numbers.proofs.outlook.one_bit_more.Goals as goal

pub overflow_mul-later : goal.overflow_mul-later
overflow_mul-later c =
    let masks = c.args.masks.now in
    let ends = c.next_states-low.ensures in
    let low = c.requires.masks.each c.next_states-low.result.0 ends.low_within in
    let high = c.requires.masks.each c.next_states-low.result.1 ends.high_within in
    let most = c.requires.most in
    let h = mask-room c.args.most (get_or masks c.next_states-low.result.0 0) (get_or masks c.next_states-low.result.1 0) 0 (omega (arith, most)) low.small high.small (omega arith) in
    record { fits = omega (arith, h) }

pub overflow_add-later : goal.overflow_add-later
overflow_add-later c =
    let masks = c.args.masks.now in
    let ends = c.next_states-low.ensures in
    let low = c.requires.masks.each c.next_states-low.result.0 ends.low_within in
    let high = c.requires.masks.each c.next_states-low.result.1 ends.high_within in
    let most = c.requires.most in
    let h = mask-room c.args.most (get_or masks c.next_states-low.result.0 0) (get_or masks c.next_states-low.result.1 0) c.own_bit.result (omega (arith, most)) low.small high.small c.own_bit.ensures.bit in
    record { fits = omega (arith, h) }

pub loop-state-preserved : goal.loop-state-preserved
loop-state-preserved c =
    let masks = c.args.masks.now in
    let ends = c.next_states-low.ensures in
    let low = rw ends.low at (c.requires.masks.each c.next_states-low.result.0 ends.low_within) in
    let high = rw ends.high at (c.requires.masks.each c.next_states-low.result.1 ends.high_within) in
    rw c.in_ok-push.ensures.items
    (AreMasks-push c.loop-state.invariant
    (rw (ends.low, ends.high) (mask-more c.args.a.now c.args.flag c.args.most c.loop-state.state _ _ c.own_bit.result c.own_bit.ensures.bit c.own_bit.ensures.mask low high)))
