use Rattle.chess_text.proofs.PositionLemmas.{feeds_once}
use Rattle.chess_text.proofs.laws.line_has_one_turnout.Goals as goal

pub returns : goal.returns
returns c = feeds_once
