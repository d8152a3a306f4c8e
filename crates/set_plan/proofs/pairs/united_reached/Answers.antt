use Rattle.auto_bool.specs.declared.connective.Connective.TheVariants as connective
use Rattle.set_plan.specs.Sets.{IsReachedOn}
use Rattle.set_plan.proofs.BothSets.{operand-is, operand-set, operand-within}
use Rattle.set_plan.proofs.pairs.united_reached.Goals as goal

pub returns-in-Some-clause-ok : goal.returns-in-Some-clause-ok
returns-in-Some-clause-ok c =
    rw c.of.ensures (operand-is c.args.tracks.now c.args.a c.args.b c.requires.first.decides c.requires.second.decides
    c.tracks.ensures.valid.ascending connective.Or c.args.budget c.in-Some.operand c.in-Some.ensures.is)

pub returns-in-Some-clause-set : goal.returns-in-Some-clause-set
returns-in-Some-clause-set c = rw c.of.ensures (operand-set (IsReachedOn c.args.tracks.now) c.in-Some.operand c.requires.first c.requires.second)

pub returns-in-Some-clause-within : goal.returns-in-Some-clause-within
returns-in-Some-clause-within c =
    operand-within c.args.tracks.now c.args.a c.args.b c.requires.first.decides c.requires.second.decides
    c.tracks.ensures.valid.ascending connective.Or c.args.budget c.in-Some.operand c.in-Some.ensures.is
