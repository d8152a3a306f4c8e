use Rattle.std.proofs.Common.{◌+◌, ◌-◌, ◌^◌, arith, ◌≤◌}
use Rattle.std.proofs.Common.{ap}
use Rattle.std.proofs.lemmas.Nat.{one_shl}
use Rattle.auto_search.proofs.Fronts.{pow_le, least-low, least-high, dead-both, dead-live}
use Rattle.auto_search.proofs.least.+least.Goals as goal

pub returns-in-Some-clause-found : goal.returns-in-Some-clause-found
returns-in-Some-clause-found t c =
    least-low c.args.course.now.suits c.requires.front c.requires.serves.remembers c.live-front.ensures.live
    (let h = c.if-place-eq0.false in omega (arith, h)) c.step-low.ensures.step c.in-Some.ahead c.in-Some.ensures.found

pub overflow_add-result : goal.overflow_add-result
overflow_add-result t c =
    let h = c.in-Some-least.ensures.found.below in
    let small = c.requires.place in
    let p : 2 ^ (c.args.place - 1) ≤ 2 ^ 68 = pow_le (c.args.place - 1) 68 (omega (arith, small)) in
    let e = one_shl (c.args.place - 1) 128 (omega (arith, small)) in
    record { fits = omega (arith, h, p, e) }

pub returns-in-Some-least-clause-found : goal.returns-in-Some-least-clause-found
returns-in-Some-least-clause-found t c =
    let small = c.requires.place in
    least-high c.args.course.now.suits c.requires.front c.requires.serves.remembers c.live-front.ensures.live
    (let h = c.if-place-eq0.false in omega (arith, h)) c.step-low.ensures.step c.step-high.ensures.step c.in-Some-least.ahead _
    c.in_default.ensures.found (ap (λ n. n + c.in-Some-least.ahead) (one_shl (c.args.place - 1) 128 (omega (arith, small))))
    c.in-Some-least.ensures.found

pub add_all-requires-clause-dead : goal.add_all-requires-clause-dead
add_all-requires-clause-dead t c =
    let h = c.if-place-eq0.false in
    dead-live c.live-front.ensures.live (omega (arith, h))
    (dead-both c.args.course.now.suits c.requires.front c.requires.serves.remembers c.live-front.ensures.live
    (omega (arith, h)) c.step-low.ensures.step c.step-high.ensures.step c.in_default.ensures.found c.in_default-least.ensures.found)

pub returns-clause-found : goal.returns-clause-found
returns-clause-found t c =
    let h = c.if-place-eq0.false in
    dead-both c.args.course.now.suits c.requires.front c.requires.serves.remembers c.live-front.ensures.live
    (omega (arith, h)) c.step-low.ensures.step c.step-high.ensures.step c.in_default.ensures.found c.in_default-least.ensures.found
