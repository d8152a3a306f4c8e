use Rattle.std.proofs.Common.{◌↔◌, ◌≤◌, length, subst, sym}
use Rattle.std.specs.List.{Contains}
use Rattle.std.proofs.lemmas.Result.{IfOk-weaker}
use Rattle.rule_formula.specs.Meaning.{IsOptionOfSide}
use Rattle.rule_formula.proofs.ListTheorem.{options_are, options_few}
use Rattle.rule_formula.proofs.choices.options.Goals as goal

pub returns-clause-exact : goal.returns-clause-exact
returns-clause-exact c =
    IfOk-weaker c.list.result _ _
    (λ all h o. subst (λ xs. Contains xs o ↔ IsOptionOfSide c.args.stock.now.men c.args.mask c.args.side o) (sym h) (options_are c.args.stock.now.men c.args.mask c.args.side o))
    c.list.ensures.list

pub returns-clause-few : goal.returns-clause-few
returns-clause-few c =
    IfOk-weaker c.list.result _ _
    (λ all h. subst (λ xs. length xs ≤ 1000) (sym h) (options_few c.args.stock.now.men c.args.mask c.args.side c.list.ensures.few))
    c.list.ensures.list
