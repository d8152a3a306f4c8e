use Rattle.std.proofs.Common.{◌<◌, arith}
use Rattle.std.specs.Int.{w8}
use Rattle.std.proofs.lemmas.Int.{to_z-of_z}
use Rattle.std.proofs.lemmas.Result.{IfErr-weaker, IfOk-weaker, err_from_is_err_and}
use Rattle.arith_desk.specs.Line.{texts}
use Rattle.arith_desk.specs.Stops.{Fails, IsFactorField, IsKnownLetter, StopsTerms}
use Rattle.arith_desk.proofs.ReadLemmas.{more_terms, stop_along, stops_factor, stops_later, stops_letter}
use Rattle.arith_desk.proofs.Signed.{factor_fits}
use Rattle.arith_desk.proofs.reading.+terms_and_bound.Goals as goal

pub returns-in_err-factor-clause-err : goal.returns-in_err-factor-clause-err
returns-in_err-factor-clause-err t c =
    let p = err_from_is_err_and c.from_residual.result c.from_residual.ensures.1 in
    let some : 0 < c.args.due = omega arith in
    rw (p.1, p.2)
    (stop_along (Fails IsFactorField (texts c.args.fields.now)) (StopsTerms c.args.scope.now c.args.terms.now.items c.args.due (texts c.args.fields.now)) c.in_err-factor.field-0.0
    (λ left h. stops_factor c.args.scope.now c.args.terms.now.items c.args.due (texts c.args.fields.now) left some h) c.in_err-factor.ensures.err)

pub returns-in_err-var-clause-err : goal.returns-in_err-var-clause-err
returns-in_err-var-clause-err t c =
    let p = err_from_is_err_and c.from_residual-in_err-var.result c.from_residual-in_err-var.ensures.1 in
    let some : 0 < c.args.due = omega arith in
    let stopped = rw c.as_slice.ensures.value at c.in_err-var.ensures.err in
    rw (p.1, p.2)
    (stop_along (Fails (IsKnownLetter c.args.scope.now c.args.terms.now.items) (texts c.in_ok-factor.rest.now))
    (StopsTerms c.args.scope.now c.args.terms.now.items c.args.due (texts c.args.fields.now)) c.in_err-var.field-0.0
    (λ left h. stops_letter c.args.scope.now c.args.terms.now.items c.args.due (texts c.args.fields.now) (texts c.in_ok-factor.rest.now) left
    c.in_ok-factor.factor some c.in_ok-factor.ensures.factor c.in_ok-factor.ensures.ok h)
    stopped)

pub returns-clause-ok : goal.returns-clause-ok
returns-clause-ok t c =
    let some : 0 < c.args.due = omega arith in
    let unused = rw c.as_slice.ensures.value at c.in_ok-var.ensures.unused in
    let same = to_z-of_z w8 c.in_ok-factor.factor (factor_fits c.in_ok-factor.factor c.in_ok-factor.ensures.factor) in
    let read = rw (c.in_ok-push_term.ensures, same) at c.terms_and_bound.ensures.ok in
    IfOk-weaker c.terms_and_bound.result _ _
    (λ x h. more_terms c.args.scope.now c.args.terms.now.items c.in_ok-factor.factor c.in_ok-var.var c.args.due (texts c.args.fields.now)
    (texts c.in_ok-factor.rest.now) (texts c.in_ok-var.rest.now) (texts x.1.now)
    c.terms_and_bound.new.terms.items x.0 some c.in_ok-factor.ensures.factor c.in_ok-var.ensures.known unused c.in_ok-factor.ensures.ok c.in_ok-var.ensures.ok h)
    read

pub returns-clause-err : goal.returns-clause-err
returns-clause-err t c =
    let some : 0 < c.args.due = omega arith in
    let unused = rw c.as_slice.ensures.value at c.in_ok-var.ensures.unused in
    let same = to_z-of_z w8 c.in_ok-factor.factor (factor_fits c.in_ok-factor.factor c.in_ok-factor.ensures.factor) in
    let stopped = rw (c.in_ok-push_term.ensures, same) at c.terms_and_bound.ensures.err in
    IfErr-weaker c.terms_and_bound.result _ _
    (λ why h. stop_along _ (StopsTerms c.args.scope.now c.args.terms.now.items c.args.due (texts c.args.fields.now)) why
    (λ left k. stops_later c.args.scope.now c.args.terms.now.items c.args.due (texts c.args.fields.now) (texts c.in_ok-factor.rest.now)
    (texts c.in_ok-var.rest.now) left c.in_ok-factor.factor c.in_ok-var.var some
    c.in_ok-factor.ensures.factor c.in_ok-var.ensures.known unused c.in_ok-factor.ensures.ok c.in_ok-var.ensures.ok k) h)
    stopped
