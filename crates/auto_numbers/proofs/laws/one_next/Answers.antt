use Rattle.auto_numbers.specs.Numbers.{Has}
use Rattle.auto_numbers.proofs.Ones.{one-next}
use Rattle.auto_numbers.proofs.laws.one_next.Goals as goal

pub returns : goal.returns
returns c = λ a. one-next (Has a)
