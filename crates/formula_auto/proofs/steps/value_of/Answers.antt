use Rattle.std.proofs.Common.{w64}
use Rattle.std.proofs.lemmas.Int.{to_z-of_z}
use Rattle.std.proofs.lemmas.Result.{IfOk-weaker}
use Rattle.lin_formula.specs.SetOf.{members}
use Rattle.formula_auto.proofs.SameAutomata.{still_decides}
use Rattle.formula_auto.proofs.Atoms.{Decides-Value}
use Rattle.formula_auto.proofs.steps.value_of.Goals as goal

pub returns-clause-decides : goal.returns-clause-decides
returns-clause-decides c =
    let said = simp (to_z-of_z w64 c.args.value c.ranges.value) at c.in_ok-a.ensures.words in
    IfOk-weaker c.reduced.result _ _
    (λ made same e. still_decides same (Decides-Value (members e) c.in_ok-a.a c.args.var c.args.value c.in_ok-a.ensures.tracks said))
    c.reduced.ensures.same
