use Rattle.std.proofs.Common.{◌↔◌, subst, sym}
use Rattle.std.specs.List.{Contains}
use Rattle.std.proofs.lemmas.Result.{IfOk-weaker}
use Rattle.rule_formula.specs.Pairs.{IsPairOf}
use Rattle.rule_formula.proofs.PairTheorem.{pairs_are}
use Rattle.rule_formula.proofs.pair_list.pairs.Goals as goal

pub returns-clause-exact : goal.returns-clause-exact
returns-clause-exact c =
    IfOk-weaker c.list.result _ _
    (λ all h w. subst (λ xs. Contains xs w ↔ IsPairOf c.args.stock.now.men c.args.mask w) (sym h) (pairs_are c.args.stock.now.men c.args.mask w))
    c.list.ensures
