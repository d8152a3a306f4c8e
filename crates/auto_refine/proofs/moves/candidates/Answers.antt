use Rattle.std.proofs.Common.{rules, ◌≡◌, ◌<◌, ◌∙◌, length, subst}
use Rattle.std.specs.List.{All}
use Rattle.auto_refine.proofs.Listings.{AreCandidates-once}
use Rattle.auto_refine.proofs.moves.candidates.Goals as goal

pub returns-clause-candidates : goal.returns-clause-candidates
returns-clause-candidates c =
    let size : c.args.partition.now.classes.len ≡ length c.args.partition.now.classes.items = search rules in
    let all = rw c.as_slice.ensures.value at c.in_ok-once.ensures.all in
    AreCandidates-once c.in_ok-once.once.items c.in_ok-found.ensures.candidates
    (subst (λ n. All (λ state. state < n) c.in_ok-once.once.items) (c.len.ensures ∙ size) c.in_ok-once.ensures.within) all
