use Rattle.std.proofs.Common.{pos, subst}
use Rattle.std.proofs.lemmas.Slice.{first_rest}
use Rattle.track_word.specs.Atom.{IsDistinct}
use Rattle.lin_formula.proofs.atoms.+has_repeat.Goals as goal

pub returns-then-stands_in-clause-yes : goal.returns-then-stands_in-clause-yes
returns-then-stands_in-clause-yes t c =
    rw c.if-stands_in.true (λ distinct. c.if-stands_in.ensures.yes (subst IsDistinct (first_rest c.args.terms.now (pos 0, record { 0 = 0 }) c.in-len1-up.len_at_least) distinct).0)
