use Rattle.auto_numbers.specs.Numbers.{Has}
use Rattle.auto_numbers.proofs.Ones.{one-greatest}
use Rattle.auto_numbers.proofs.laws.one_greatest.Goals as goal

pub returns : goal.returns
returns c = λ a. one-greatest (Has a)
