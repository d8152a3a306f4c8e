use Rattle.std.proofs.Common.{◌∙◌, sym}
use Rattle.shift_image.proofs.Listed.{one_of-any, any-one_of}
use Rattle.shift_image.proofs.movable.is_one_of.Goals as goal

pub returns-clause-one : goal.returns-clause-one
returns-clause-one c = λ is. one_of-any c.args.var c.args.vars.now (sym c.contains.ensures.value ∙ is)

pub returns-clause-none : goal.returns-clause-none
returns-clause-none c = λ one. c.contains.ensures.value ∙ any-one_of c.args.var c.args.vars.now one
