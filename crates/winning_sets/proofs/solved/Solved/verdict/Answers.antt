use Rattle.std.proofs.Common.{◌↔◌, IsTrue, refl, ap, subst, sym, ◌∙◌}
use Rattle.game_rules.specs.Game.{Position}
use Rattle.winning_sets.specs.Claimed.{IsValid}
use Rattle.winning_sets.specs.Solve.{IsKeptIn}
use Rattle.winning_sets.proofs.ValidLemmas.{claimed_value, plan_value}
use Rattle.winning_sets.proofs.solved.Solved.verdict.Goals as goal

pub returns-in-Plan-clause-mates : goal.returns-in-Plan-clause-mates
returns-in-Plan-clause-mates c =
    let s = c.args.self.now in
    let keeps : IsTrue c.keeps.result ↔ IsKeptIn s 0 s.position =
    subst (λ (p : Position). IsTrue c.keeps.result ↔ IsKeptIn s 0 p) (ap (λ t. t.position) c.self.view_is) c.keeps.ensures.keeps in
    let value = plan_value s c.keeps.ensures.valid (sym (ap (λ t. t.origin) c.self.view_is) ∙ c.in-Plan.is) in
    (λ h. value.0 (keeps.0 h), λ h. keeps.1 (value.1 h))

pub returns-in-Claim-clause-mates : goal.returns-in-Claim-clause-mates
returns-in-Claim-clause-mates c =
    let s = c.args.self.now in
    let valid : IsValid s = subst IsValid c.self.view_is c.self.invariant.0 in
    let value = claimed_value s valid (sym (ap (λ t. t.origin) c.self.view_is) ∙ c.in-Claim.is) in
    (λ h. value, λ h. refl)
