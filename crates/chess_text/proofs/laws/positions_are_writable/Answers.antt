use Rattle.chess_text.proofs.PositionLemmas.{positions_writable}
use Rattle.chess_text.proofs.laws.positions_are_writable.Goals as goal

pub returns : goal.returns
returns c = positions_writable
