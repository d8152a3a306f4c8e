use Rattle.auto_numbers.specs.Numbers.{Has}
use Rattle.period_sets.proofs.RestLemmas.{rests-whole}
use Rattle.period_sets.proofs.rests.residues_of.Goals as goal

pub returns : goal.returns
returns c = rests-whole (Has c.args.set.now.auto.now) c.args.start c.requires c.rests_from.result c.rests_from.ensures
