use Rattle.std.proofs.Common.{refl, ◌∙◌, arith}
use Rattle.std.proofs.lemmas.List.{drop_all}
use Rattle.shift_image.proofs.Lefts.{nowhere, moved-more}
use Rattle.shift_image.proofs.shifting.moved.Goals as goal

pub shifted-requires-clause-near : goal.shifted-requires-clause-near
shifted-requires-clause-near c = c.requires.near c.loop-shift.shift-index nowhere c.loop-shift-test.true

pub shifted-requires-clause-there : goal.shifted-requires-clause-there
shifted-requires-clause-there c = rw c.loop-shift.invariant.tracks (c.requires.there c.loop-shift.shift-index nowhere c.loop-shift-test.true)

pub loop-shift-preserved : goal.loop-shift-preserved
loop-shift-preserved c = record {
  integers = c.in_ok-auto.ensures.integers;
  tracks = c.in_ok-auto.ensures.moved.tracks ∙ c.loop-shift.invariant.tracks;
  rest = moved-more c.args.shifts.now c.loop-shift.shift-index nowhere c.args.set c.loop-shift-test.true
      c.loop-shift.invariant.rest c.in_ok-auto.ensures.moved;
  accessible = λ some. c.in_ok-auto.ensures.accessible;
}

pub returns-clause-moved : goal.returns-clause-moved
returns-clause-moved c =
    c.loop-shift.invariant.rest c.loop-shift.auto'
    (rw (drop_all c.loop-shift.shift-index c.args.shifts.now c.loop-shift-test.false) refl)

pub returns-clause-accessible : goal.returns-clause-accessible
returns-clause-accessible c = λ some. c.loop-shift.invariant.accessible (omega (arith, some, c.loop-shift-test.false))
