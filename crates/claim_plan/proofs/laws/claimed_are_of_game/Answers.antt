use Rattle.claim_plan.proofs.ClaimLemmas.{claimed_are_of_game}
use Rattle.claim_plan.proofs.laws.claimed_are_of_game.Goals as goal

pub returns : goal.returns
returns c = claimed_are_of_game
