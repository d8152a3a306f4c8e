use Rattle.std.proofs.lemmas.Bool.{not-false}
use Rattle.std.proofs.lemmas.Result.{IfOk-weaker}
use Rattle.rule_formula.proofs.BodyLemmas.{bear_tree_is}
use Rattle.rule_formula.proofs.build.bear.Goals as goal

pub returns : goal.returns
returns c =
    let m = c.args.men in
    let j = c.args.journey in
    IfOk-weaker c.and_path.result _ _
    (λ x h. bear_tree_is m.count m.mask j.man j.taken j.ray c.args.source.0 c.own-from.result c.own-to.result _ _
    (not-false _ c.if-not-ray.false) c.own-from.ensures.own c.own-to.ensures.own c.in_ok-among.ensures h)
    c.and_path.ensures
