use Rattle.chess_game.proofs.WayLemmas.{far_reach, near_reach}
use Rattle.chess_game.proofs.way.reach.Goals as goal

pub returns-then-ray-clause-span : goal.returns-then-ray-clause-span
returns-then-ray-clause-span c =
    λ t.
    let same = far_reach c.args.ray c.args.from c.args.frame t c.if-ray.true in
    let span = c.slide_span.ensures.span t in
    (λ h. same.0 (span.0 h), λ h. span.1 (same.1 h))

pub returns-else-ray-clause-span : goal.returns-else-ray-clause-span
returns-else-ray-clause-span c =
    λ t.
    let same = near_reach c.args.ray c.args.from c.args.frame t c.if-ray.false in
    let span = c.leap_span.ensures.span t in
    (λ h. same.0 (span.0 h), λ h. span.1 (same.1 h))
