use Rattle.std.proofs.lemmas.Result.{IfOk-weaker}
use Rattle.rule_formula.specs.declared.atoms.Extent.TheVariants.{Onto}
use Rattle.rule_formula.proofs.BodyLemmas.{chain_is}
use Rattle.rule_formula.proofs.build.pre_inside.Goals as goal

pub returns : goal.returns
returns c =
    let m = c.args.men in
    let j = c.args.journey in
    IfOk-weaker c.and_path.result _ _
    (λ x h. chain_is m.count m.mask j.man j.taken j.ray Onto _ _ c.own-from.result c.new_seat-to.result _ _ _
    c.own-from.ensures.own c.new_seat-to.ensures.seat c.in_ok-among.ensures h)
    c.and_path.ensures
