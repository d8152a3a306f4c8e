use Rattle.std.proofs.Common.{w32}
use Rattle.std.proofs.lemmas.Int.{to_z-of_z}
use Rattle.std.proofs.lemmas.Result.{IfOk-weaker}
use Rattle.lin_formula.specs.SetOf.{members}
use Rattle.formula_auto.proofs.SameAutomata.{still_decides}
use Rattle.formula_auto.proofs.Atoms.{Decides-Lin}
use Rattle.formula_auto.proofs.steps.comparison.Goals as goal

pub returns-clause-decides : goal.returns-clause-decides
returns-clause-decides c =
    let said = simp (to_z-of_z w32 c.args.bound c.ranges.bound) at c.in_ok-a.ensures.words in
    IfOk-weaker c.reduced.result _ _
    (λ made same e. still_decides same (Decides-Lin (members e) c.in_ok-a.a c.args.terms.now c.args.rel c.args.bound c.in_ok-a.ensures.tracks said))
    c.reduced.ensures.same
