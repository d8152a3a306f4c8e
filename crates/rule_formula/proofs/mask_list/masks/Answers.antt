use Rattle.std.proofs.Common.{◌↔◌, subst, sym}
use Rattle.std.specs.List.{Contains}
use Rattle.std.proofs.lemmas.Result.{IfOk-weaker}
use Rattle.rule_formula.specs.Fits.{IsGameMask}
use Rattle.rule_formula.proofs.MasksTheorem.{masks_are}
use Rattle.rule_formula.proofs.mask_list.masks.Goals as goal

pub returns-clause-exact : goal.returns-clause-exact
returns-clause-exact c =
    IfOk-weaker c.list.result _ _
    (λ all h m. subst (λ xs. Contains xs m ↔ IsGameMask c.args.p.now m) (sym h) (masks_are c.args.p.now m))
    c.list.ensures
