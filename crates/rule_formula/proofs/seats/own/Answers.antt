use Rattle.std.proofs.Common.{arith, sym}
use Rattle.rule_formula.proofs.ApartLemmas.{own_others}
use Rattle.rule_formula.proofs.seats.own.Goals as goal

pub returns-clause-apart : goal.returns-clause-apart
returns-clause-apart c j low ne = own_others c.args.man j (omega (arith, c.requires.low)) (omega (arith, low)) (λ e. ne (sym e))

pub returns-clause-away : goal.returns-clause-away
returns-clause-away c j low ne = own_others j c.args.man (omega (arith, low)) (omega (arith, c.requires.low)) ne
