use Rattle.auto_numbers.specs.Numbers.{Has}
use Rattle.period_sets.proofs.Told.{told}
use Rattle.period_sets.proofs.laws.description_tells.Goals as goal

pub returns : goal.returns
returns c = λ a. told (Has a)
