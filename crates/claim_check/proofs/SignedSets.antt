-- After the rules of the claimed sets each of them is known to decide a set of integers.
use Rattle.std.proofs.Common.{ℕ, None}
use Rattle.set_plan.specs.Outcome.{Ends}
use Rattle.rule_formula.specs.Mean.{RulesMean}
use Rattle.mate_plan.specs.Claim.{Claim, IsClaim, losers_plies}
use Rattle.winning_sets.proofs.MeaningLaws.{mean}
use Rattle.claim_plan.specs.CheckPlan.{check_sets, for_each}
use Rattle.claim_plan.specs.Checked.{KeepsRule, set_rules}
use Rattle.claim_plan.proofs.CheckMeans.{signed, sets-checks}
use Rattle.claim_plan.proofs.Findings.{for_each-checks, none_failing}
use Rattle.claim_check.specs.Ready.{AreSigned}

module _ (c : Claim) (is : IsClaim c) where
  means : RulesMean c.position
  means = mean is.sound is.few

  pub signed_sets : {budget : ℕ} → Ends (for_each (losers_plies c.winner c.position.turn c.moves) (check_sets c)) budget None → AreSigned c
  signed_sets h =
      let plies = losers_plies c.winner c.position.turn c.moves in
      let first = for_each-checks (KeepsRule c) (set_rules c) (check_sets c) plies (λ ply i. sets-checks c is means ply) h.entries None h.takes in
      signed c is means (none_failing (KeepsRule c) _ first)
