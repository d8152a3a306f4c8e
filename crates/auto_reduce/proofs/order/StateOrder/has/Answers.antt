use Rattle.std.proofs.Common.{sym, subst, Contains, IsTrue, ◌∙◌, ◌↔◌}
use Rattle.std.proofs.lemmas.Bool.Decides.{Decides-eqb}
use Rattle.std.proofs.lemmas.Map.Made.{is_member-Decides}
use Rattle.auto_reduce.proofs.order.StateOrder.has.Goals as goal

pub returns : goal.returns
returns c =
    let d = is_member-Decides Decides-eqb c.self.inside.seen.keys c.args.state in
    let at_end : IsTrue c.contains.result ↔ Contains c.self.inside.seen.keys c.args.state = (λ said. d.0 (sym c.contains.ensures ∙ said), λ there. c.contains.ensures ∙ d.1 there) in
    subst (λ l. IsTrue c.contains.result ↔ Contains l c.args.state) c.self.view_is at_end
