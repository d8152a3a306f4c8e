use Rattle.winning_sets.proofs.MeaningLaws.{tables_decided}
use Rattle.winning_sets.proofs.laws.tables_are_decided.Goals as goal

pub returns : goal.returns
returns c = tables_decided
