use Rattle.auto_reduce.proofs.SameTables.{equal_tables}
use Rattle.auto_reduce.proofs.laws.equal_words_are_equal_tables.Goals as goal

pub returns : goal.returns
returns c = equal_tables
