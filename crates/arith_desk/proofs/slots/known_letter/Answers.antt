use Rattle.std.proofs.Common.{◌≢◌, sym, ◌∙◌, subst}
use Rattle.std.specs.List.{All}
use Rattle.lin_formula.specs.Free.{IsOneOf}
use Rattle.arith_desk.specs.Line.{texts}
use Rattle.arith_desk.specs.Stops.{IsKnownLetter}
use Rattle.arith_desk.proofs.ReadLemmas.{fails_front, same_letter}
use Rattle.arith_desk.proofs.slots.known_letter.Goals as goal

pub returns-then-not-is_one_of-clause-err : goal.returns-then-not-is_one_of-clause-err
returns-then-not-is_one_of-clause-err c =
    let scope = c.args.scope.now in
    let var = c.in-Some-letter_of.var in
    rw c.stop_at-then-not-is_one_of.ensures
    (fails_front (IsKnownLetter scope c.args.terms.now) (texts c.args.fields.now) c.in-Some.field.now (texts c.in-Some.rest.now) c.in-Some.ensures.some
    (λ h.
    let there = c.is_one_of.ensures.1 (subst (λ y. IsOneOf y scope) (same_letter h.0 var (sym h.4 ∙ c.in-Some-letter_of.ensures.some.1)) h.2) in
    let not_there = c.if-not-is_one_of.true in
    cc))

pub returns-then-stands_in-clause-err : goal.returns-then-stands_in-clause-err
returns-then-stands_in-clause-err c =
    let var = c.in-Some-letter_of.var in
    rw c.stop_at-then-stands_in.ensures
    (fails_front (IsKnownLetter c.args.scope.now c.args.terms.now) (texts c.args.fields.now) c.in-Some.field.now (texts c.in-Some.rest.now) c.in-Some.ensures.some
    (λ h. c.if-stands_in.ensures.yes (subst (λ y. All (λ t. t.1 ≢ y) c.args.terms.now) (same_letter h.0 var (sym h.4 ∙ c.in-Some-letter_of.ensures.some.1)) h.3)))
