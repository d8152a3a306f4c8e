use Rattle.std.proofs.Common.{arith, ap, ◌∙◌, ◌-◌, ◌+◌}
use Rattle.auto_core.specs.Automaton.{first_state, next_state}
use Rattle.auto_core.proofs.Members.{IsLeft-start, IsLeft-more, IsLeft-end}
use Rattle.auto_core.proofs.auto.Auto.state_of_values.Goals as goal

pub loop-read-init : goal.loop-read-init
loop-read-init c = record {
  left = IsLeft-start _ _ _ _ (omega arith) (c.first_of-state.ensures.state ∙ ap (first_state c.args.self.now) c.letter_at.ensures.letter);
  fits = c.letter_at.ensures.fits;
  within = c.first_of-state.ensures.within;
}

pub loop-read-preserved : goal.loop-read-preserved
loop-read-preserved c =
    let below = c.loop-read-test.true in
    record {
      left =
          IsLeft-more c.args.self.now c.args.values.now (63 - c.loop-read.read) (63 - (c.loop-read.read + 1)) (62 - c.loop-read.read)
          c.loop-read.state c.next_of-state.result (omega (arith, below)) (omega (arith, below))
          (c.next_of-state.ensures.state ∙ ap (next_state c.args.self.now c.loop-read.state) c.letter_at-in-loop-read.ensures.letter) c.loop-read.invariant.left;
      fits = c.loop-read.invariant.fits;
      within = c.next_of-state.ensures.within;
    }

pub returns-clause-state : goal.returns-clause-state
returns-clause-state c =
    let past = c.loop-read-test.false in
    IsLeft-end (omega (arith, past)) c.loop-read.invariant.left
