use Rattle.desk_text.proofs.RoundTrip.{text_is_read}
use Rattle.mate_desk.proofs.laws.text_is_read.Goals as goal

pub returns : goal.returns
returns c = text_is_read
