use Rattle.std.proofs.lemmas.Result.{IfOk-weaker}
use Rattle.rule_formula.proofs.BodyLemmas.{image_body_is}
use Rattle.rule_formula.proofs.build.image_inside.Goals as goal

pub returns : goal.returns
returns c =
    let m = c.args.men in
    let j = c.args.journey in
    IfOk-weaker c.and_path.result _ _
    (λ x h. image_body_is m.count m.mask j.man j.taken j.ray c.args.source.0 c.spare-from.result c.own-to.result _ _
    c.spare-from.ensures.spare c.own-to.ensures.own c.in_ok-among.ensures h)
    c.and_path.ensures
