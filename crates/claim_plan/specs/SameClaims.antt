-- The same claims are checked alike.
use Rattle.std.specs.Prelude.{◌↔◌, ℕ}
use Rattle.game_rules.specs.Game.{Position}
use Rattle.set_plan.specs.Outcome.{Ends, Stops}
use Rattle.set_plan.specs.declared.stop.PartStep.{PartStep}
use Rattle.mate_plan.specs.Claim.{Claim, IsClaim, IsClaimed}
use Rattle.mate_plan.specs.SameClaim.{IsSameClaim}
use Rattle.mate_plan.specs.Won.{Won}
use Rattle.mate_plan.specs.declared.names.PartName.{PartName}
use Rattle.claim_plan.specs.CheckPlan.{Finding, check_plan}

-- the same positions are claimed; both or neither are claims; both or neither are won; within each budget both plans
-- have the same ends and stop at the same steps
pub record AreCheckedAlike (c d : Claim) : Type 0 where
  pub positions : (ply : ℕ) (q : Position) → IsClaimed c ply q ↔ IsClaimed d ply q
  pub claims : IsClaim c ↔ IsClaim d
  pub won : Won c ↔ Won d
  pub ends : (budget : ℕ) (found : Finding) → Ends (check_plan c) budget found ↔ Ends (check_plan d) budget found
  pub stops : (budget : ℕ) (x : PartStep PartName) → Stops (check_plan c) budget x ↔ Stops (check_plan d) budget x

abbrev pub SameClaimsAreCheckedAlike : Type 0
SameClaimsAreCheckedAlike = (c d : Claim) → IsSameClaim c d → AreCheckedAlike c d
