use Rattle.mate_desk.proofs.Faultless.{exact_where_none_fails}
use Rattle.mate_desk.proofs.laws.exact_where_none_fails.Goals as goal

pub returns : goal.returns
returns c = exact_where_none_fails
