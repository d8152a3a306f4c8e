use Rattle.std.proofs.Common.{◌*◌, ap}
use Rattle.strategy_writer.specs.KeptClaims.{as_set}
use Rattle.strategy_writer.proofs.Lengths.{set_length_is, set_length_bound}
use Rattle.strategy_writer.proofs.writing.set_length.Goals as goal

pub returns-clause-length : goal.returns-clause-length
returns-clause-length c =
    set_length_is (as_set c.args.kept.now) (4 * c.letters_of.result) c.states-states.result (ap (λ n. 4 * n) c.letters_of.ensures) c.states-states.ensures.states

pub returns-clause-bound : goal.returns-clause-bound
returns-clause-bound c =
    let valid = c.states-states.ensures.valid in
    set_length_bound _ c.letters_of.result c.states-states.result valid.few_tracks c.letters_of.ensures (rw c.states-states.ensures.states valid.few_states)
