use Rattle.std.proofs.Common.{subst}
use Rattle.auto_walk.specs.Walker.{IsWalked}
use Rattle.auto_bool.proofs.PairLemmas.{walker-same, IsProduct-explored}
use Rattle.auto_bool.proofs.product.absorbed_product.Goals as goal

pub returns-clause-ok : goal.returns-clause-ok
returns-clause-ok c =
    let made = c.in_ok-both.ensures in
    let same = walker-same _ _ _ _ _ _ _ _ _ made.absorbing made.left made.right made.connective made.tracks in
    IsProduct-explored c.deciding_states.result c.args.a.now c.args.b.now c.in_ok-m.m c.args.connective c.deciding_states.ensures.deciding_states (subst (λ w. IsWalked w c.in_ok-m.m) same c.in_ok-m.ensures.ok)
