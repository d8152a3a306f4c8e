use Rattle.line_formula.proofs.AtomLemmas.{gap_atom}
use Rattle.line_formula.proofs.terms.terms.Goals as goal

pub returns-clause-atom : goal.returns-clause-atom
returns-clause-atom c bound is =
    rw (c.in_ok-push_terms.ensures, c.in_ok-push.ensures.items, c.new-all.ensures.items) (gap_atom c.args.gap c.args.legs.now bound c.requires.gap c.requires.legs c.requires.few is)
