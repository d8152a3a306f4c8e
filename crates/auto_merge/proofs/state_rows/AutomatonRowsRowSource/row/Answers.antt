use Rattle.std.proofs.Common.{arith, length}
use Rattle.auto_merge.proofs.States.{length-places_of_states, IsRowAt-row}
use Rattle.auto_merge.proofs.state_rows.AutomatonRowsRowSource.row.Goals as goal

pub returns : goal.returns
returns c =
    let row = c.row_node.ensures in
    let size = length-places_of_states (length c.args.self.now.a.now.accept) in
    IsRowAt-row (omega (arith, size, c.requires.known)) row.known row.narrow row.map row.within
