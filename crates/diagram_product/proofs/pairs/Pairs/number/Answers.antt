use Rattle.std.proofs.Common.{arith, ap, length, refl, Contains}
use Rattle.std.proofs.lemmas.Grind.{common_steps}
use Rattle.letter_diagram.proofs.SetNumbers.{Contains-at}
use Rattle.diagram_product.proofs.pairs.Pairs.number.Goals as goal

pub returns-in-Some-clause-full : goal.returns-in-Some-clause-full
returns-in-Some-clause-full c = (λ e. cc, λ h. absurd (h.1 (Contains-at _ _ _ c.in-Some.ensures.some)))

pub returns-then-len-clause-full : goal.returns-then-len-clause-full
returns-then-len-clause-full c =
    let absent : Contains c.args.self.now (c.args.a, c.args.b) → ⊥ = c.find.ensures.none c.in_default.is in
    let same = ap length c.self.view_is in
    (λ e. (grind (arith, common_steps, same), absent), λ h. refl)
