use Rattle.std.proofs.Common.{◌≡◌, ◌≤◌, length, sym, subst, ◌∙◌}
use Rattle.std.proofs.lemmas.Result.{IfOk-weaker}
use Rattle.track_word.specs.Tracks.{with_vars}
use Rattle.auto_walk.specs.Walker.{MoreThan}
use Rattle.auto_bool.specs.Both.{both_walker}
use Rattle.auto_bool.specs.Absorbed.{absorbing_walker}
use Rattle.auto_bool.proofs.AbsorbedPairs.{walker-nothing, AreSinks-nothing}
use Rattle.auto_bool.proofs.PairLemmas.{walker-same}
use Rattle.auto_bool.proofs.Spreads.{BothSpreadExceeds-from, MoreThan-from_spread}
use Rattle.auto_minimize.proofs.MergedPairs.{IsProduct-merged, MoreThan-same, OnOk-from}
use Rattle.auto_minimize.proofs.merged.exact_product.Goals as goal

-- the walk is one over the pairs of states
same_walker : (c : goal.After-drop-rows-4)
    → absorbing_walker c.in_ok-rows.rows.sides.absorbing c.in_ok-rows.rows.tracks.items c.in_ok-rows.rows.factors.left.now c.in_ok-rows.rows.factors.right.now c.in_ok-rows.rows.factors.connective
    ≡ absorbing_walker c.nothing.result (with_vars c.args.a.now.tracks c.args.b.now.tracks) c.args.a.now c.args.b.now c.args.connective
same_walker c =
    let made = c.in_ok-rows.ensures in
    walker-same _ _ _ _ _ _ _ _ _ made.absorbing made.left made.right made.connective made.tracks

over_pairs : (c : goal.After-drop-rows-4)
    → absorbing_walker c.in_ok-rows.rows.sides.absorbing c.in_ok-rows.rows.tracks.items c.in_ok-rows.rows.factors.left.now c.in_ok-rows.rows.factors.right.now c.in_ok-rows.rows.factors.connective
    ≡ both_walker c.args.a.now c.args.b.now c.args.connective
over_pairs c =
    same_walker c
    ∙ walker-nothing c.nothing.result c.nothing.ensures.left c.nothing.ensures.right (with_vars c.args.a.now.tracks c.args.b.now.tracks) c.args.a.now c.args.b.now c.args.connective

-- one of more pairs than the budget
many : (c : goal.After-drop-rows-4) → MoreThan (absorbing_walker c.in_ok-rows.rows.sides.absorbing c.in_ok-rows.rows.tracks.items c.in_ok-rows.rows.factors.left.now c.in_ok-rows.rows.factors.right.now c.in_ok-rows.rows.factors.connective) c.in_ok-rows.rows.budget
    → MoreThan (both_walker c.args.a.now c.args.b.now c.args.connective) c.args.budget
many c more = MoreThan-same (over_pairs c) c.in_ok-rows.ensures.budget more

pub returns-clause-ok : goal.returns-clause-ok
returns-clause-ok c =
    IfOk-weaker c.merge_rows.result _ _ (λ m. IsProduct-merged _ c.nothing.result c.args.a.now c.args.b.now m c.args.connective
    (AreSinks-nothing c.nothing.result c.nothing.ensures.left c.nothing.ensures.right (with_vars c.args.a.now.tracks c.args.b.now.tracks) c.args.a.now c.args.b.now c.args.connective)
    (same_walker c) (λ place reached. reached)) c.merge_rows.ensures.ok

pub returns-clause-few : goal.returns-clause-few
returns-clause-few c = IfOk-weaker c.merge_rows.result _ _ (λ m merged. subst (λ most. length m.accept ≤ most) c.in_ok-rows.ensures.budget merged.few) c.merge_rows.ensures.ok

pub returns-clause-within : goal.returns-clause-within
returns-clause-within c =
    OnOk-from c.merge_rows.result c.merge_rows.ensures.ok (λ m merged scatter. merged.within (
    MoreThan-same (sym (over_pairs c)) (sym c.in_ok-rows.ensures.budget) (MoreThan-from_spread c.args.a.now c.args.b.now c.args.connective c.args.budget scatter)))

pub returns-clause-over : goal.returns-clause-over
returns-clause-over c = λ a_reduced b_reduced over.
    let made = c.in_ok-rows.ensures in
    BothSpreadExceeds-from c.args.a.now c.args.b.now c.args.connective made.left_valid made.right_valid a_reduced b_reduced {budget = c.args.budget}
    (many c (c.merge_rows.ensures.over over))

pub returns-clause-many : goal.returns-clause-many
returns-clause-many c = λ over. many c (c.merge_rows.ensures.over over)
