use Rattle.std.proofs.Common.{arith, refl, sym, ◌∙◌}
use Rattle.auto_search.proofs.Fronts.{dead-live}
use Rattle.auto_search.proofs.MarkLemmas.{SameRoom-trans}
use Rattle.auto_search.proofs.Counts.{final-has, dead-has, more-has, both-has}
use Rattle.auto_search.proofs.several.+several.Goals as goal

pub returns-then-is_final-clause-few : goal.returns-then-is_final-clause-few
returns-then-is_final-clause-few t c = final-has c.if-place-eq0.true c.live-front.ensures.live (c.if-is_final.ensures.0 refl)

pub returns-in-More-clause-few : goal.returns-in-More-clause-few
returns-in-More-clause-few t c =
    more-has c.args.course.now.suits c.requires.front c.requires.serves.remembers c.live-front.ensures.live
    (let h = c.if-place-eq0.false in omega (arith, h)) c.step-low.ensures.step (c.in-More.ensures.few)

pub add_all-requires-clause-dead : goal.add_all-requires-clause-dead
add_all-requires-clause-dead t c =
    let both =
    both-has c.args.course.now.suits c.requires.front c.requires.serves.remembers c.live-front.ensures.live
    (let h = c.if-place-eq0.false in omega (arith, h)) c.step-low.ensures.step c.step-high.ensures.step
    c.several-below.result c.several.result c.several-below.ensures.few c.several.ensures.few in
    let none = rw (sym c.plus-few.ensures ∙ c.in-Zero.is) at both in
    let h = c.if-place-eq0.false in
    dead-live c.live-front.ensures.live (omega (arith, h)) (dead-has none)

pub returns-in-Zero-clause-few : goal.returns-in-Zero-clause-few
returns-in-Zero-clause-few t c =
    rw c.plus-few.ensures
    (both-has c.args.course.now.suits c.requires.front c.requires.serves.remembers c.live-front.ensures.live
    (let h = c.if-place-eq0.false in omega (arith, h)) c.step-low.ensures.step c.step-high.ensures.step
    c.several-below.result c.several.result c.several-below.ensures.few c.several.ensures.few)

pub returns-in-Zero-clause-room : goal.returns-in-Zero-clause-room
returns-in-Zero-clause-room t c = SameRoom-trans c.several-below.ensures.room (SameRoom-trans c.several.ensures.room c.add_all.ensures.room)

pub returns-in_default-few-clause-few : goal.returns-in_default-few-clause-few
returns-in_default-few-clause-few t c =
    rw c.plus-few.ensures
    (both-has c.args.course.now.suits c.requires.front c.requires.serves.remembers c.live-front.ensures.live
    (let h = c.if-place-eq0.false in omega (arith, h)) c.step-low.ensures.step c.step-high.ensures.step
    c.several-below.result c.several.result c.several-below.ensures.few c.several.ensures.few)

pub returns-in_default-few-clause-room : goal.returns-in_default-few-clause-room
returns-in_default-few-clause-room t c = SameRoom-trans c.several-below.ensures.room c.several.ensures.room
