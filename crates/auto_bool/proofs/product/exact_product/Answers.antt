use Rattle.std.proofs.Common.{◌≡◌, IfOk, OnOk, subst, ◌∙◌}
use Rattle.std.proofs.lemmas.Result.{on_ok_weaker, IfOk-weaker}
use Rattle.track_word.specs.Tracks.{with_vars}
use Rattle.auto_walk.specs.Walker.{IsWalked, MoreThan}
use Rattle.auto_bool.specs.Both.{both_walker}
use Rattle.auto_bool.specs.Absorbed.{absorbing_walker}
use Rattle.auto_bool.proofs.AbsorbedPairs.{walker-nothing, AreSinks-nothing}
use Rattle.auto_bool.proofs.PairLemmas.{walker-same, IsProduct-explored}
use Rattle.auto_bool.proofs.Spreads.{BothSpreadExceeds-from, MoreThan-from_spread}
use Rattle.auto_bool.proofs.product.exact_product.Goals as goal

-- the walk is one over the pairs of states
over_pairs : (c : goal.After-explored)
    → absorbing_walker c.in_ok-both.both.product.sides.absorbing c.in_ok-both.both.tracks.items c.in_ok-both.both.left.now c.in_ok-both.both.right.now c.in_ok-both.both.connective
    ≡ both_walker c.args.a.now c.args.b.now c.args.connective
over_pairs c =
    let made = c.in_ok-both.ensures in
    walker-same _ _ _ _ _ _ _ _ _ made.absorbing made.left made.right made.connective made.tracks
    ∙ walker-nothing c.nothing.result c.nothing.ensures.left c.nothing.ensures.right (with_vars c.args.a.now.tracks c.args.b.now.tracks) c.args.a.now c.args.b.now c.args.connective

pub returns-clause-ok : goal.returns-clause-ok
returns-clause-ok c =
    let made = c.in_ok-both.ensures in
    let same = walker-same _ _ _ _ _ _ _ _ _ made.absorbing made.left made.right made.connective made.tracks in
    IfOk-weaker c.explored.result _ _ (λ m. IsProduct-explored c.nothing.result c.args.a.now c.args.b.now m c.args.connective
    (AreSinks-nothing c.nothing.result c.nothing.ensures.left c.nothing.ensures.right (with_vars c.args.a.now.tracks c.args.b.now.tracks) c.args.a.now c.args.b.now c.args.connective))
    (subst (λ w. IfOk c.explored.result (IsWalked w)) same c.explored.ensures.ok)

pub returns-clause-within : goal.returns-clause-within
returns-clause-within c =
    let few = subst (λ w. OnOk c.explored.result (MoreThan w c.args.budget → ⊥)) (over_pairs c) c.explored.ensures.within in
    on_ok_weaker c.explored.result (λ no spread. no (MoreThan-from_spread c.args.a.now c.args.b.now c.args.connective c.args.budget spread)) few

pub returns-clause-over : goal.returns-clause-over
returns-clause-over c = λ a_reduced b_reduced over.
    let made = c.in_ok-both.ensures in
    BothSpreadExceeds-from c.args.a.now c.args.b.now c.args.connective made.left_valid made.right_valid a_reduced b_reduced {budget = c.args.budget}
    (subst (λ w. MoreThan w c.args.budget) (over_pairs c) (c.explored.ensures.over over))

pub returns-clause-many : goal.returns-clause-many
returns-clause-many c = λ over. subst (λ w. MoreThan w c.args.budget) (over_pairs c) (c.explored.ensures.over over)
