use Rattle.formula_auto.proofs.Operands.{joint-made}
use Rattle.formula_auto.proofs.memo.Memo.combine.Goals as goal

pub joined-requires : goal.joined-requires
joined-requires c = c.requires.room c.automata.result.0.now c.automata.result.1.now c.automata.ensures.left c.automata.ensures.right

pub returns-in_ok-auto-in-None-clause-ok : goal.returns-in_ok-auto-in-None-clause-ok
returns-in_ok-auto-in-None-clause-ok c =
    joint-made c.args.connective c.args.self.now c.args.meets.now c.args.parts.0.now c.args.parts.1.now c.automata.result.0.now c.automata.result.1.now
    c.automata.ensures.left c.automata.ensures.right c.in_ok-auto-in-None.ensures.decides
    (rw c.budget.ensures.is at c.in_ok-auto-in-None.ensures.accessible) (rw c.budget.ensures.is at c.in_ok-auto-in-None.ensures.within)
