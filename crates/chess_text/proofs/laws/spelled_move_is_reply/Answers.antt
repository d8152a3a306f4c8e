use Rattle.chess_text.proofs.ReplyLemmas.{spelled_move}
use Rattle.chess_text.proofs.laws.spelled_move_is_reply.Goals as goal

pub returns : goal.returns
returns c = spelled_move
