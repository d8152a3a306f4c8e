use Rattle.std.proofs.Common.{sym}
use Rattle.rule_formula.proofs.FineLemmas.{leaping_atom, terms_atom}
use Rattle.rule_formula.proofs.atoms.leaping.Goals as goal

pub sum-requires : goal.sum-requires
sum-requires c =
    let a = c.args in
    terms_atom c.up_term.result c.down_term.result c.left_term.result c.right_term.result _ _ _ _
    c.up_term.ensures c.down_term.ensures c.left_term.ensures c.right_term.ensures
    (leaping_atom a.ray.dx a.ray.dy a.to.x a.from.x a.to.y a.from.y (λ e. c.requires.apart.across (sym e)) (λ e. c.requires.apart.along (sym e))
    c.requires.from.even c.requires.to.even c.requires.from.odd c.requires.to.odd c.requires.right c.requires.up c.requires.short_right c.requires.short_up)
