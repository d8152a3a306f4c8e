use Rattle.auto_merge.proofs.States.{AreSeen-states}
use Rattle.auto_merge.proofs.state_rows.AutomatonRowsRowSource.new_seen.Goals as goal

pub returns : goal.returns
returns c = AreSeen-states c.tracks.ensures.valid
