use Rattle.std.proofs.Common.{sym, ◌∙◌, subst}
use Rattle.lin_formula.specs.Free.{IsOneOf}
use Rattle.arith_desk.specs.Line.{texts}
use Rattle.arith_desk.specs.Stops.{IsFreshLetter}
use Rattle.arith_desk.proofs.ReadLemmas.{fails_front, same_letter}
use Rattle.arith_desk.proofs.slots.fresh_letter.Goals as goal

pub returns-then-is_one_of-clause-err : goal.returns-then-is_one_of-clause-err
returns-then-is_one_of-clause-err c =
    let scope = c.args.scope.now in
    let var = c.in-Some-letter_of.var in
    rw c.stop_at-then-is_one_of.ensures
    (fails_front (IsFreshLetter scope) (texts c.args.fields.now) c.in-Some.field.now (texts c.in-Some.rest.now) c.in-Some.ensures.some
    (λ h. h.2 (subst (λ y. IsOneOf y scope) (same_letter var h.0 (sym c.in-Some-letter_of.ensures.some.1 ∙ h.3)) (c.is_one_of.ensures.0 c.if-is_one_of.true))))
