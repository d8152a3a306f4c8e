-- The rule of the start, by the side that moves first.
use Rattle.std.proofs.Common.{◌≡◌, ◌≢◌, ℕ, zero, suc, Result, refl, sym, ap, ◌∙◌, subst}
use Rattle.game_rules.specs.Game.{Position}
use Rattle.game_rules.specs.declared.men.Side.{Side}
use Rattle.mask_sets.specs.Stock.{mask_of}
use Rattle.mask_sets.specs.Tuple.{tuple_of}
use Rattle.set_plan.specs.declared.stop.PlanError.{PlanError}
use Rattle.mate_plan.specs.Claim.{Claim, claimed_level}
use Rattle.mate_plan.specs.Plan.{Level, Program}
use Rattle.mate_plan.specs.PlanOf.{rules_of}
use Rattle.mate_plan.specs.Turns.{plies_before_turn}
use Rattle.mate_plan.specs.declared.names.PartName.{PartName}
use Rattle.claim_plan.specs.CheckPlan.{Finding, check_first, check_move, check_moving, check_waiting}
use Rattle.claim_check.specs.Finds.{Finds}

module _ (c : Claim) where
  -- how long the winner waits for his turn, as it was asked
  pub waits_is : {p : Position} {w s : Side} {plies : ℕ} → p ≡ c.position → w ≡ c.winner → s ≡ p.turn → plies ≡ plies_before_turn w s → plies_before_turn c.winner c.position.turn ≡ plies
  waits_is {w} {s} at winner turn is =
      let there : s ≡ c.position.turn = turn ∙ ap (λ (q : Position). q.turn) at in
      sym (is ∙ (ap (λ (side : Side). plies_before_turn side s) winner ∙ ap (plies_before_turn c.winner) there))

  pub first_waiting : (plies : ℕ) → plies ≢ 0 → check_first c plies ≡ check_waiting c
  first_waiting zero some = absurd (some refl)
  first_waiting (suc plies) some = refl

  module _ (budget : ℕ) where
    pub moving_finds : (moves : ℕ) (r : Result Finding (PlanError PartName)) → moves ≢ 0 → c.position.turn ≡ c.winner
        → (level : Level) → level ≡ claimed_level c 1
        → Finds (check_move (rules_of c.position) c.position.turn (mask_of c.position) (tuple_of c.position) level) budget r
        → Finds (check_moving c moves) budget r
    moving_finds zero r some turn level is h = absurd (some refl)
    moving_finds (suc moves) r some turn level is h =
        let moved : Side → Level → Program Finding = λ s l. check_move (rules_of c.position) s (mask_of c.position) (tuple_of c.position) l in
        let By : Side → Type 0 = λ s. Finds (moved s level) budget r in
        let Into : Level → Type 0 = λ l. Finds (moved c.winner l) budget r in
        subst Into is (subst By turn h)
