use Rattle.std.proofs.Common.{◌≤◌, arith, below_more}
use Rattle.game_trials.proofs.SoundPositions.{sound_of}
use Rattle.game_trials.specs.Kings.{IsFineAt}
use Rattle.game_trials.proofs.kings.is_sound.Goals as goal

pub loop-number-preserved : goal.loop-number-preserved
loop-number-preserved c = λ k first below.
    below_more (λ j. 1 ≤ j → IsFineAt c.args.p.now j) c.loop-number.number (λ j less low. c.loop-number.invariant j low less)
    (λ low. c.is_fine.ensures c.if-not-is_fine.false) k below first

pub returns : goal.returns
returns c = λ yes.
    let count = c.count-number-end.ensures in
    sound_of c.args.p.now (λ i first last. c.loop-number.invariant i first (omega (arith, last, count, c.loop-number-test.false))) (c.has_king.ensures yes)
