-- The parts of the plan of a claim, one after another.
use Rattle.std.proofs.Common.{◌≡◌, ℕ, List, sym, ap, ◌∙◌, subst}
use Rattle.game_rules.specs.Game.{Position}
use Rattle.game_rules.specs.declared.men.Side.{Side}
use Rattle.set_plan.proofs.Composition.{LeadsTo, LeadsTo-self}
use Rattle.mate_plan.specs.Claim.{Claim, losers_plies}
use Rattle.mate_plan.specs.Turns.{plies_before_turn}
use Rattle.claim_plan.specs.CheckPlan.{and_then, check_first, check_plan, check_ply, check_sets, for_each}

-- the plies of the loser, as they were listed
pub plies_are : (c : Claim) {p : Position} {winner first : Side} {moves : ℕ} {plies : List ℕ} → p ≡ c.position → winner ≡ c.winner → first ≡ p.turn
    → moves ≡ c.moves → plies ≡ losers_plies winner first moves → plies ≡ losers_plies c.winner c.position.turn c.moves
plies_are c {p} {winner} {first} {moves} at winner_is turn moves_are listed =
    let there : first ≡ c.position.turn = turn ∙ ap (λ (q : Position). q.turn) at in
    listed
    ∙ (ap (λ (s : Side). losers_plies s first moves) winner_is
    ∙ (ap (λ (s : Side). losers_plies c.winner s moves) there ∙ ap (losers_plies c.winner c.position.turn) moves_are))

pub plan_leads : (c : Claim) (budget : ℕ) (plies : List ℕ) → plies ≡ losers_plies c.winner c.position.turn c.moves
    → LeadsTo (and_then (for_each plies (check_sets c)) (and_then (check_first c (plies_before_turn c.winner c.position.turn)) (for_each plies (check_ply c)))) (check_plan c) budget
plan_leads c budget plies are =
    let Over : List ℕ → Type 0 = λ l. LeadsTo (and_then (for_each l (check_sets c)) (and_then (check_first c (plies_before_turn c.winner c.position.turn)) (for_each l (check_ply c)))) (check_plan c) budget in
    subst Over (sym are) (LeadsTo-self (check_plan c) budget)
