use Rattle.std.proofs.Common.{◌≡◌, ◌+◌, arith, refl}
use Rattle.auto_numbers.specs.Numbers.{Has}
use Rattle.period_sets.proofs.Starts.{none-at-0, none-more, no-period, too-far, found-at, starts-at-1, starts-behind, few-steps, past-at, within-more}
use Rattle.period_sets.proofs.period.first_period.Goals as goal

pub loop-before-init : goal.loop-before-init
loop-before-init c = record { none = none-at-0 (Has c.args.a.now); within = refl }

pub counted-requires-clause-step : goal.counted-requires-clause-step
counted-requires-clause-step c =
    rw c.in-Err-Over.field-0-is
    (few-steps c.args.a.now c.args.budget c.loop-before.before c.in-Err-Over.step (rw c.in-Err-Over.field-0-is at c.in-Err-Over.ensures.over))

pub returns-in-Err-Over-clause-err : goal.returns-in-Err-Over-clause-err
returns-in-Err-Over-clause-err c =
    let inv = c.loop-before.invariant in
    rw (c.counted.ensures, c.in-Err-Over.field-0-is)
    (past-at c.args.a.now c.args.budget c.loop-before.before c.loop-before-test.true inv.none inv.within c.in-Err-Over.step
    (rw c.in-Err-Over.field-0-is at c.in-Err-Over.ensures.over))

pub returns-in-Ok-Far-clause-err : goal.returns-in-Ok-Far-clause-err
returns-in-Ok-Far-clause-err c =
    let inv = c.loop-before.invariant in
    too-far c.args.a.now c.args.budget c.loop-before.before c.loop-before-test.true c.each_number_is_in_or_not.ensures inv.none inv.within c.in-Ok-Far.ensures.within
    (rw c.in-Ok-Far.field-0-is at c.in-Ok-Far.ensures.last)

pub returns-in-Ok-Nothing-clause-found : goal.returns-in-Ok-Nothing-clause-found
returns-in-Ok-Nothing-clause-found c =
    let inv = c.loop-before.invariant in
    found-at c.args.a.now c.args.budget c.loop-before.before c.loop-before-test.true c.each_number_is_in_or_not.ensures inv.none inv.within c.in-Ok-Nothing.ensures.within
    1 (omega arith)
    (starts-at-1 (Has c.args.a.now) (c.loop-before.before + 1) c.each_number_is_in_or_not.ensures (rw c.in-Ok-Nothing.field-0-is at c.in-Ok-Nothing.ensures.last))

pub returns-in-Ok-Number-clause-found : goal.returns-in-Ok-Number-clause-found
returns-in-Ok-Number-clause-found c =
    let inv = c.loop-before.invariant in
    let is = rw c.in-Ok-Number.field-0-is at c.in-Ok-Number.ensures.last in
    let small = is.1 in
    found-at c.args.a.now c.args.budget c.loop-before.before c.loop-before-test.true c.each_number_is_in_or_not.ensures inv.none inv.within c.in-Ok-Number.ensures.within
    (c.in-Ok-Number.last + 1) (omega (arith, small))
    (starts-behind (Has c.args.a.now) (c.loop-before.before + 1) c.each_number_is_in_or_not.ensures c.in-Ok-Number.last is.2)

pub loop-before-preserved : goal.loop-before-preserved
loop-before-preserved c =
    let inv = c.loop-before.invariant in
    record {
      none = none-more (Has c.args.a.now) c.loop-before.before inv.none
          (no-period (Has c.args.a.now) (c.loop-before.before + 1) (rw c.in-Ok-Endless.field-0-is at c.in-Ok-Endless.ensures.last));
      within = within-more c.args.a.now c.args.budget c.loop-before.before inv.within c.in-Ok-Endless.ensures.within;
    }

pub returns-clause-err : goal.returns-clause-err
returns-clause-err c =
    let inv = c.loop-before.invariant in
    let end : c.loop-before.before ≡ 60 = grind (arith, c.loop-before-test.false, c.loop-before.auto.before-end) in
    record { none = λ q le is. inv.none q (omega (arith, le, end)) is; within = rw end at inv.within }
