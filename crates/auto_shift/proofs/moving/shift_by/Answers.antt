use Rattle.std.proofs.Common.{rules, ◌≡◌, Err, refl, arith, ap, ◌∙◌, subst}
use Rattle.auto_walk.specs.declared.grown.Grown.TheVariants as grown
use Rattle.std.specs.Int.{w32}
use Rattle.std.proofs.lemmas.Int.{to_z-of_z}
use Rattle.auto_shift.specs.Moved.{DecidesMoved}
use Rattle.auto_shift.specs.Shifted.{along}
use Rattle.auto_shift.proofs.Decisions.{along-one, DecidesMoved-next, explored-next}
use Rattle.auto_shift.proofs.OnTheWay.{within-one, within-next, within-all}
use Rattle.auto_shift.proofs.moving.shift_by.Goals as goal

pub returns-in_err-moved-clause-over : goal.returns-in_err-moved-clause-over
returns-in_err-moved-clause-over c = λ is_over.
    let over : c.shift_by_one.result ≡ Err grown.Over = search (rules, is_over) in
    record {
      up = c.of-up.result.up;
      times = c.of-up.result.times;
      all = c.of-up.ensures.along ∙ to_z-of_z w32 c.args.by c.ranges.by;
      done = 0;
      before = c.of-up.ensures.some;
      part = c.args.a.now;
      explored = refl;
      more = c.shift_by_one.ensures.over over;
    }

pub loop-done-preserved : goal.loop-done-preserved
loop-done-preserved c =
    let e = c.in_ok-moved-2.ensures in
    record {
      explored = explored-next _ _ c.args.track c.of-up.result.up c.loop-done._done c.loop-done.invariant.explored e.explored;
      moved = DecidesMoved-next c.of-up.result.up c.loop-done._done c.moving_adds_up.ensures c.requires.track c.loop-done.invariant.moved e.moved;
      integers = e.integers;
      reached = e.reached;
      few = e.few;
      within = within-next _ _ c.of-up.result.up c.loop-done._done c.requires.track c.loop-done.invariant.explored e.within c.loop-done.invariant.within;
    }

pub returns-clause-moved : goal.returns-clause-moved
returns-clause-moved c =
    let some = c.of-up.ensures.some in
    let past = c.loop-done-test.false in
    let most = c.loop-done.auto._done-end in
    let all : c.loop-done._done ≡ c.of-up.result.times = omega (arith, some, past, most) in
    subst (DecidesMoved c.args.a.now c.loop-done.moved c.args.track) (ap (along c.of-up.result.up) all ∙ c.of-up.ensures.along ∙ to_z-of_z w32 c.args.by c.ranges.by) c.loop-done.invariant.moved

pub loop-done-init : goal.loop-done-init
loop-done-init c =
    let e = c.in_ok-moved.ensures in
    record {
      explored = (c.args.a.now, refl, e.explored);
      moved = subst (DecidesMoved c.args.a.now c.in_ok-moved.moved c.args.track) (along-one c.of-up.result.up) e.moved;
      integers = e.integers;
      reached = e.reached;
      few = e.few;
      within = within-one _ c.of-up.result.up c.requires.track e.within;
    }

pub returns-clause-within : goal.returns-clause-within
returns-clause-within c =
    let some = c.of-up.ensures.some in
    let past = c.loop-done-test.false in
    let most = c.loop-done.auto._done-end in
    let all : c.loop-done._done ≡ c.of-up.result.times = omega (arith, some, past, most) in
    let by = ap (along c.of-up.result.up) all ∙ c.of-up.ensures.along ∙ to_z-of_z w32 c.args.by c.ranges.by in
    within-all _ c.of-up.result.up c.loop-done._done (omega (arith, some, all)) by c.loop-done.invariant.within
