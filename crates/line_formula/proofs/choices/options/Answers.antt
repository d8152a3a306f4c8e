use Rattle.std.proofs.Common.{◌↔◌, subst, sym}
use Rattle.std.specs.List.{Contains}
use Rattle.std.proofs.lemmas.Result.{IfOk-weaker}
use Rattle.rule_formula.specs.Meaning.{IsOptionOfSide}
use Rattle.rule_formula.proofs.ListTheorem.{options_are}
use Rattle.line_formula.proofs.choices.options.Goals as goal

pub returns-clause-exact : goal.returns-clause-exact
returns-clause-exact c =
    IfOk-weaker c.list.result _ _
    (λ all h o. subst (λ xs. Contains xs o ↔ IsOptionOfSide c.args.men.now c.args.force.mask c.args.force.side o) (sym h)
    (options_are c.args.men.now c.args.force.mask c.args.force.side o))
    c.list.ensures
