use Rattle.std.proofs.Common.{◌≤◌, ℕ, length, arith}
use Rattle.chess_game.specs.Along.{IsNearest}
use Rattle.chess_game.specs.Way.{IsFreeFrom}
use Rattle.chess_game.proofs.WayLemmas.{few_hits, free_from, from_free, hits_none, hits_some}
use Rattle.chess_game.proofs.way.way_from.Goals as goal
use Rattle.chess_game.proofs.way.way_from.Goals.{After-number_within-hits}

-- the first man on the ray, among the men of the board
nearest : (c : After-number_within-hits) → IsNearest c.args.board.now.men (length c.args.board.now.men) c.args.from c.args.ray c.first_on_ray-hit.result
nearest c = rw c.men.ensures.men at c.first_on_ray-hit.ensures

-- a distance up to the last before the hit is free
free : (c : After-number_within-hits) (t : ℕ) → c.reach-span.result.first ≤ t → t ≤ c.last_before-far.result → IsFreeFrom c.args.board.now c.args.from c.args.ray c.args.frame t
free c t near far =
    let last = (c.last_before-far.ensures.last t).0 far in
    free_from c.args.board.now c.args.from c.args.ray c.args.frame c.first_on_ray-hit.result (nearest c) t ((c.reach-span.ensures.span t).0 (near, last.0)) last.1

-- a free distance is one of these
not_free : (c : After-number_within-hits) {t : ℕ} → IsFreeFrom c.args.board.now c.args.from c.args.ray c.args.frame t → (c.reach-span.result.first ≤ t) × (t ≤ c.last_before-far.result)
not_free c {t} h =
    let w = from_free c.args.board.now c.args.from c.args.ray c.args.frame c.first_on_ray-hit.result (nearest c) h in
    let span = (c.reach-span.ensures.span t).1 w.0 in
    (span.0, (c.last_before-far.ensures.last t).1 (span.1, w.1))

pub number_within-hits-requires : goal.number_within-hits-requires
number_within-hits-requires c = few_hits c.men.result.now c.args.from c.args.ray c.first_on_ray-hit.result c.men.ensures.few c.first_on_ray-hit.ensures

pub returns-then-span-far-clause-distances : goal.returns-then-span-far-clause-distances
returns-then-span-far-clause-distances c =
    λ t. (
      λ h. free ((goal.at.returns-then-span-far-clause-distances c).After-number_within-hits) t h.0 h.1,
      λ h. not_free ((goal.at.returns-then-span-far-clause-distances c).After-number_within-hits) h,
    )

pub returns-then-span-far-clause-none : goal.returns-then-span-far-clause-none
returns-then-span-far-clause-none c =
    λ none. absurd
    (none c.reach-span.result.first
    (free ((goal.at.returns-then-span-far-clause-none c).After-number_within-hits) c.reach-span.result.first (omega arith)
    c.if-span-far.true))

pub returns-then-span-far-clause-hit : goal.returns-then-span-far-clause-hit
returns-then-span-far-clause-hit c =
    hits_some c.args.board.now c.args.from c.args.ray c.args.frame c.reach-span.result (λ t. (c.reach-span.ensures.span t).0)
    c.first_on_ray-hit.result (nearest ((goal.at.returns-then-span-far-clause-hit c).After-number_within-hits)) c.number_within-hits.result
    c.number_within-hits.ensures.some

pub returns-then-span-far-clause-no_hit : goal.returns-then-span-far-clause-no_hit
returns-then-span-far-clause-no_hit c =
    hits_none c.args.board.now c.args.from c.args.ray c.args.frame c.reach-span.result (λ t. (c.reach-span.ensures.span t).1)
    c.first_on_ray-hit.result (nearest ((goal.at.returns-then-span-far-clause-no_hit c).After-number_within-hits)) c.number_within-hits.result
    c.number_within-hits.ensures.none

pub returns-clause-distances : goal.returns-clause-distances
returns-clause-distances c =
    λ t. (
      λ h. absurd (omega (arith, h.0, h.1)),
      λ h. let w = not_free ((goal.at.returns-clause-distances c).After-number_within-hits) h in absurd (omega (arith, w.0, w.1)),
    )

pub returns-clause-hit : goal.returns-clause-hit
returns-clause-hit c =
    hits_some c.args.board.now c.args.from c.args.ray c.args.frame c.reach-span.result (λ t. (c.reach-span.ensures.span t).0)
    c.first_on_ray-hit.result (nearest ((goal.at.returns-clause-hit c).After-number_within-hits)) c.number_within-hits.result
    c.number_within-hits.ensures.some

pub returns-clause-no_hit : goal.returns-clause-no_hit
returns-clause-no_hit c =
    hits_none c.args.board.now c.args.from c.args.ray c.args.frame c.reach-span.result (λ t. (c.reach-span.ensures.span t).1)
    c.first_on_ray-hit.result (nearest ((goal.at.returns-clause-no_hit c).After-number_within-hits)) c.number_within-hits.result
    c.number_within-hits.ensures.none
