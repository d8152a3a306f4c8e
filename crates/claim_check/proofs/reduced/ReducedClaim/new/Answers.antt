use Rattle.std.proofs.Common.{refl, ◌∙◌, subst, List, ℕ, map}
use Rattle.strategy_file.specs.Claims.{claim_of, set_of}
use Rattle.winning_sets.specs.Claimed.{sets_from}
use Rattle.winning_sets.specs.declared.claimed.ClaimedSets.{ClaimedSets}
use Rattle.claim_check.specs.Reduced.{AreReduced}
use Rattle.claim_check.proofs.ReadyClaim.{places_here, ready_claim, same_claim}
use Rattle.claim_check.proofs.reduced.ReducedClaim.new.Goals as goal

pub reduced_plies-requires-clause-places : goal.reduced_plies-requires-clause-places
reduced_plies-requires-clause-places c =
    let plies = c.losers_plies-losers.result in
    let masks = c.as_slice.ensures.value ∙ c.in_ok-all.ensures.list in
    places_here c.args.claim c.requires.file plies.first plies.count c.as_slice.result.now masks
    (rw c.turn.ensures at c.losers_plies-losers.ensures.plies)

pub returns-clause-same : goal.returns-clause-same
returns-clause-same c =
    let masks = c.as_slice.ensures.value ∙ c.in_ok-all.ensures.list in
    let Over : List ℕ → Type 0 = λ l. AreReduced (map set_of c.args.claim.sets.items) (sets_from 0 l c.in_ok-plies.plies.items) in
    let s : ClaimedSets = record {
      position = c.args.claim.position;
      winner = c.args.claim.winner;
      moves = c.args.claim.moves;
      masks = c.in_ok-all.all;
      plies = c.in_ok-plies.plies;
    } in
    same_claim (claim_of c.args.claim) s c.requires.file refl refl refl c.in_ok-all.ensures.list (subst Over masks c.in_ok-plies.ensures)

pub returns-clause-ready : goal.returns-clause-ready
returns-clause-ready c =
    let masks = c.as_slice.ensures.value ∙ c.in_ok-all.ensures.list in
    let Over : List ℕ → Type 0 = λ l. AreReduced (map set_of c.args.claim.sets.items) (sets_from 0 l c.in_ok-plies.plies.items) in
    let s : ClaimedSets = record {
      position = c.args.claim.position;
      winner = c.args.claim.winner;
      moves = c.args.claim.moves;
      masks = c.in_ok-all.all;
      plies = c.in_ok-plies.plies;
    } in
    ready_claim (claim_of c.args.claim) s c.requires.file refl refl refl c.in_ok-all.ensures.list (subst Over masks c.in_ok-plies.ensures)

pub invariant_of-result : goal.invariant_of-result
invariant_of-result c =
    let masks = c.as_slice.ensures.value ∙ c.in_ok-all.ensures.list in
    let Over : List ℕ → Type 0 = λ l. AreReduced (map set_of c.args.claim.sets.items) (sets_from 0 l c.in_ok-plies.plies.items) in
    let s : ClaimedSets = record {
      position = c.args.claim.position;
      winner = c.args.claim.winner;
      moves = c.args.claim.moves;
      masks = c.in_ok-all.all;
      plies = c.in_ok-plies.plies;
    } in
    ready_claim (claim_of c.args.claim) s c.requires.file refl refl refl c.in_ok-all.ensures.list (subst Over masks c.in_ok-plies.ensures)
