use Rattle.std.proofs.Common.{◌≡◌, true, false}
use Rattle.std.proofs.lemmas.Bool.{OnFalse_from}
use Rattle.lin_formula.specs.SetOf.{IsEmpty, Table}
use Rattle.set_plan.proofs.Empties.{accepts-none}
use Rattle.set_plan.proofs.empty.has_no_tuple.Goals as goal

pub returns-clause-none : goal.returns-clause-none
returns-clause-none c =
    OnFalse_from c.is_empty.result (¬ IsEmpty (Table c.args.a.now))
    (λ is_false empty.
    let is_true : c.is_empty.result ≡ true = c.is_empty.ensures.1 (accepts-none c.args.a.now empty) in
    let never : true ≡ false = cc in
    cc)
