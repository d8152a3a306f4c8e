use Rattle.std.proofs.Common.{◌≡◌, ◌*◌, length, ◌∙◌}
use Rattle.std.proofs.lemmas.Bool.{leb-true}
use Rattle.auto_bool.proofs.Spreads.{few_pairs}
use Rattle.auto_bool.proofs.product.pairs_fit.Goals as goal

pub returns-clause-within : goal.returns-clause-within
returns-clause-within c =
    let left : c.from.result ≡ length c.args.a.now.accept = c.from.ensures ∙ c.states.ensures.states in
    let right : c.from-2.result ≡ length c.args.b.now.accept = c.from-2.ensures ∙ c.states-2.ensures.states in
    let budget : c.from-3.result ≡ c.args.budget = c.from-3.ensures ∙ c.states-3.ensures.is in
    λ fit. few_pairs c.args.a.now c.args.b.now c.states.ensures.valid c.states-2.ensures.valid c.args.budget
    (rw (← left, ← right, ← budget) (leb-true (c.from.result * c.from-2.result) c.from-3.result fit))
