use Rattle.std.proofs.Common.{◌≡◌, ◌∷◌, length, ap, ◌∙◌}
use Rattle.std.proofs.lemmas.Result.{IfErr-weaker, IfOk-weaker, err_from_is_err_and}
use Rattle.lin_formula.specs.TreeOf.{tree_of}
use Rattle.arith_desk.specs.declared.words.Word.TheVariants.{Not, Join, Bind, Compare}
use Rattle.arith_desk.specs.Line.{texts}
use Rattle.arith_desk.specs.Words.{word_text}
use Rattle.arith_desk.specs.Stops.{IsWord, Stops, StopsBound, StopsComparison, StopsJoined, at_word, behind_not, in_comparison}
use Rattle.arith_desk.proofs.ReadLemmas.{fails_front, fails_none, read_bound, read_comparison, read_joined, read_not, stop_along, stops_bound, stops_joined}
use Rattle.arith_desk.proofs.reading.+formula.Goals as goal

pub formula-returns-in_default-clause-err : goal.formula-returns-in_default-clause-err
formula-returns-in_default-clause-err t c =
    let fields = texts c.args.fields.now in
    rw c.stop_at.ensures (at_word c.args.scope.now fields (length fields) (fails_none IsWord fields c.in_default.ensures.none))

pub formula-returns-in-None-clause-err : goal.formula-returns-in-None-clause-err
formula-returns-in-None-clause-err t c =
    let fields = texts c.args.fields.now in
    rw c.stop_at-in-None.ensures
    (at_word c.args.scope.now fields (length fields) (fails_front IsWord fields c.in-Some.field.now (texts c.in-Some.rest.now) c.in-Some.ensures.some (λ h. c.in-None.ensures h.0 h.1)))

pub formula-returns-in_err-f-in-Some-Not-clause-err : goal.formula-returns-in_err-f-in-Some-Not-clause-err
formula-returns-in_err-f-in-Some-Not-clause-err t c =
    let p = err_from_is_err_and c.from_residual.result c.from_residual.ensures.1 in
    let word = rw c.in-Some-Not.field-0-is at c.in-Some-Not.ensures in
    let fields = texts c.args.fields.now in
    let rest = texts c.in-Some.rest.now in
    let front : fields ≡ word_text Not ∷ rest = c.in-Some.ensures.some ∙ ap (λ w. w ∷ rest) word in
    rw (p.1, p.2)
    (stop_along (Stops c.args.scope.now rest) (Stops c.args.scope.now fields) c.in_err-f-in-Some-Not.field-0.0
    (λ left h. behind_not c.args.scope.now fields rest left front h) c.in_err-f-in-Some-Not.ensures.err)

pub formula-returns-in_ok-denied-in-Some-Not-clause-ok : goal.formula-returns-in_ok-denied-in-Some-Not-clause-ok
formula-returns-in_ok-denied-in-Some-Not-clause-ok t c =
    let word = rw c.in-Some-Not.field-0-is at c.in-Some-Not.ensures in
    let fields = texts c.args.fields.now in
    let rest = texts c.in-Some.rest.now in
    let front : fields ≡ word_text Not ∷ rest = c.in-Some.ensures.some ∙ ap (λ w. w ∷ rest) word in
    read_not c.args.scope.now fields rest (texts c.in_ok-f-in-Some-Not.rest.now) (tree_of c.in_ok-f-in-Some-Not.f)
    (tree_of c.in_ok-denied-in-Some-Not.field-0) front c.in_ok-f-in-Some-Not.ensures.ok c.in_ok-denied-in-Some-Not.ensures

pub formula-returns-in-Some-Join-clause-ok : goal.formula-returns-in-Some-Join-clause-ok
formula-returns-in-Some-Join-clause-ok t c =
    let word = rw c.in-Some-Join.field-0-is at c.in-Some-Join.ensures in
    let fields = texts c.args.fields.now in
    let rest = texts c.in-Some.rest.now in
    let front : fields ≡ word_text (Join c.in-Some-Join.connective) ∷ rest = c.in-Some.ensures.some ∙ ap (λ w. w ∷ rest) word in
    IfOk-weaker c.joined.result _ _ (λ x h. read_joined fields front h) c.joined.ensures.ok

pub formula-returns-in-Some-Join-clause-err : goal.formula-returns-in-Some-Join-clause-err
formula-returns-in-Some-Join-clause-err t c =
    let word = rw c.in-Some-Join.field-0-is at c.in-Some-Join.ensures in
    let fields = texts c.args.fields.now in
    let rest = texts c.in-Some.rest.now in
    let front : fields ≡ word_text (Join c.in-Some-Join.connective) ∷ rest = c.in-Some.ensures.some ∙ ap (λ w. w ∷ rest) word in
    IfErr-weaker c.joined.result _ _
    (λ why h. stop_along (StopsJoined c.args.scope.now rest) (Stops c.args.scope.now fields) why (λ left k. stops_joined c.in-Some-Join.connective c.args.scope.now fields rest left front k) h)
    c.joined.ensures.err

pub formula-returns-in-Some-Bind-clause-ok : goal.formula-returns-in-Some-Bind-clause-ok
formula-returns-in-Some-Bind-clause-ok t c =
    let word = rw c.in-Some-Bind.field-0-is at c.in-Some-Bind.ensures in
    let fields = texts c.args.fields.now in
    let rest = texts c.in-Some.rest.now in
    let front : fields ≡ word_text (Bind c.in-Some-Bind.quantifier) ∷ rest = c.in-Some.ensures.some ∙ ap (λ w. w ∷ rest) word in
    IfOk-weaker c.bound.result _ _ (λ x h. read_bound fields front h) c.bound.ensures.ok

pub formula-returns-in-Some-Bind-clause-err : goal.formula-returns-in-Some-Bind-clause-err
formula-returns-in-Some-Bind-clause-err t c =
    let word = rw c.in-Some-Bind.field-0-is at c.in-Some-Bind.ensures in
    let fields = texts c.args.fields.now in
    let rest = texts c.in-Some.rest.now in
    let front : fields ≡ word_text (Bind c.in-Some-Bind.quantifier) ∷ rest = c.in-Some.ensures.some ∙ ap (λ w. w ∷ rest) word in
    IfErr-weaker c.bound.result _ _
    (λ why h. stop_along (StopsBound c.args.scope.now rest) (Stops c.args.scope.now fields) why (λ left k. stops_bound c.in-Some-Bind.quantifier c.args.scope.now fields rest left front k) h)
    c.bound.ensures.err

pub formula-returns-in-Some-Compare-clause-ok : goal.formula-returns-in-Some-Compare-clause-ok
formula-returns-in-Some-Compare-clause-ok t c =
    let word = rw c.in-Some-Compare.field-0-is at c.in-Some-Compare.ensures in
    let fields = texts c.args.fields.now in
    let rest = texts c.in-Some.rest.now in
    let front : fields ≡ word_text (Compare c.in-Some-Compare.rel) ∷ rest = c.in-Some.ensures.some ∙ ap (λ w. w ∷ rest) word in
    IfOk-weaker c.comparison.result _ _ (λ x h. read_comparison fields front h) c.comparison.ensures.ok

pub formula-returns-in-Some-Compare-clause-err : goal.formula-returns-in-Some-Compare-clause-err
formula-returns-in-Some-Compare-clause-err t c =
    let word = rw c.in-Some-Compare.field-0-is at c.in-Some-Compare.ensures in
    let fields = texts c.args.fields.now in
    let rest = texts c.in-Some.rest.now in
    let front : fields ≡ word_text (Compare c.in-Some-Compare.rel) ∷ rest = c.in-Some.ensures.some ∙ ap (λ w. w ∷ rest) word in
    IfErr-weaker c.comparison.result _ _
    (λ why h. stop_along (StopsComparison c.args.scope.now rest) (Stops c.args.scope.now fields) why (λ left k. in_comparison c.args.scope.now c.in-Some-Compare.rel fields rest left front k) h)
    c.comparison.ensures.err
