use Rattle.std.proofs.Common.{arith, refl, sym, true≢false}
use Rattle.auto_bool.proofs.TrackLemmas.{AreAmong-each, each-more, not_among}
use Rattle.auto_bool.proofs.operand.are_among.Goals as goal

pub returns-then-place_of-all : goal.returns-then-place_of-all
returns-then-place_of-all c = (
  λ h. absurd (true≢false (sym h)),
  λ among. absurd (not_among c.loop-track.track-index _ _ c.loop-track-test.true c.place_of.ensures.place c.if-place_of-all.true among),
)

pub loop-track-preserved : goal.loop-track-preserved
loop-track-preserved c = each-more c.args.all.now c.args.some.now c.loop-track.track-index _ _ c.loop-track-test.true c.place_of.ensures.place c.if-place_of-all.false c.loop-track.invariant

pub returns : goal.returns
returns c = (
  λ h. AreAmong-each c.args.all.now c.args.some.now (λ k d within. c.loop-track.invariant k d (let end = c.loop-track-test.false in omega (arith, within, end))),
  λ among. refl,
)
