use Rattle.chess_text.proofs.ReplyLemmas.{reply_once}
use Rattle.chess_text.proofs.laws.line_is_one_reply.Goals as goal

pub returns : goal.returns
returns c = reply_once
