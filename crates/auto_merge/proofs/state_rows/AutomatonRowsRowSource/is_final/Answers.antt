use Rattle.std.proofs.Common.{arith, length}
use Rattle.auto_merge.proofs.States.{length-places_of_states, IsFlagOf-state}
use Rattle.auto_merge.proofs.state_rows.AutomatonRowsRowSource.is_final.Goals as goal

pub returns : goal.returns
returns c =
    let a = c.args.self.now.a.now in
    let size = length-places_of_states (length a.accept) in
    IsFlagOf-state a c.args.number c.accept_of.result (omega (arith, size, c.requires.known)) c.accept_of.ensures
