use Rattle.std.proofs.Common.{arith, pos}
use Rattle.std.proofs.lemmas.Int.{ints}
use Rattle.line_formula.proofs.AtomLemmas.{next_atom}
use Rattle.line_formula.proofs.terms.terms_less_next.Goals as goal

pub returns-clause-atom : goal.returns-clause-atom
returns-clause-atom c =
    rw (c.in_ok-push_terms.ensures, c.in_ok-push-2.ensures.items, c.in_ok-push.ensures.items, c.new-all.ensures.items)
    (next_atom c.args.gap c.args.legs.now (pos 0) c.requires.gap c.requires.legs c.requires.few (omega (arith, ints), omega (arith, ints)))
