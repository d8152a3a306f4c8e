use Rattle.chess_text.proofs.PositionLemmas.{accepted_is_spelled}
use Rattle.chess_text.proofs.laws.accepted_text_is_spelled.Goals as goal

pub returns : goal.returns
returns c = accepted_is_spelled
