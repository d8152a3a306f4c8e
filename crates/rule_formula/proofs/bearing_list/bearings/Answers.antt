use Rattle.std.proofs.Common.{◌↔◌, subst, sym}
use Rattle.std.specs.List.{Contains}
use Rattle.std.proofs.lemmas.Result.{IfOk-weaker}
use Rattle.rule_formula.specs.Bearings.{IsBearingOf}
use Rattle.rule_formula.proofs.BearingTheorem.{bearings_are}
use Rattle.rule_formula.proofs.bearing_list.bearings.Goals as goal

pub returns-clause-exact : goal.returns-clause-exact
returns-clause-exact c =
    let a = c.args in
    IfOk-weaker c.list.result _ _
    (λ all h b. subst (λ xs. Contains xs b ↔ IsBearingOf a.stock.now.men a.mask a.side b) (sym h) (bearings_are a.side b c.requires.kings c.requires.mask))
    c.list.ensures
