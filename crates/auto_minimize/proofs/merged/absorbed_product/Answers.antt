use Rattle.std.proofs.Common.{subst, length, ◌≤◌}
use Rattle.auto_bool.proofs.PairLemmas.{walker-same}
use Rattle.auto_minimize.proofs.MergedPairs.{IsProduct-merged}
use Rattle.auto_minimize.proofs.merged.absorbed_product.Goals as goal

pub returns-clause-ok : goal.returns-clause-ok
returns-clause-ok c =
    let made = c.in_ok-rows.ensures in
    let same = walker-same _ _ _ _ _ _ _ _ _ made.absorbing made.left made.right made.connective made.tracks in
    IsProduct-merged _ c.deciding_states.result c.args.a.now c.args.b.now c.in_ok-m.m c.args.connective c.deciding_states.ensures.deciding_states same (λ place reached. reached) c.in_ok-m.ensures.ok

pub returns-clause-few : goal.returns-clause-few
returns-clause-few c = subst (λ most. length c.in_ok-m.m.accept ≤ most) c.in_ok-rows.ensures.budget c.in_ok-m.ensures.ok.few
