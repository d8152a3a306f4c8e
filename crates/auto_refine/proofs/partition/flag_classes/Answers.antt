use Rattle.std.proofs.Common.{rules, ◌≡◌, length}
use Rattle.auto_refine.proofs.Rounds.{IsFlag-from}
use Rattle.auto_refine.proofs.partition.flag_classes.Goals as goal

pub returns-clause-flags : goal.returns-clause-flags
returns-clause-flags c =
    let states = c.states-states.ensures.states in
    let size : length c.loop-state.classes.items ≡ length c.args.a.now.accept = search rules in
    IsFlag-from c.args.a.now c.loop-state.classes.items c.states-states.ensures.valid.some_state size (λ k less. c.loop-state.invariant.flags k (search rules))
