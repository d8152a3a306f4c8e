-- The laws of the plan of a claim.
use Rattle.std.proofs.Common.{None, refl, subst}
use Rattle.set_plan.specs.Outcome.{Ends}
use Rattle.claim_plan.specs.CheckPlan.{Finding, check_plan}
use Rattle.rule_formula.specs.Mean.{RulesMean}
use Rattle.winning_sets.proofs.MeaningLaws.{mean, some_point}
use Rattle.mate_plan.specs.Claim.{Claim, IsClaim}
use Rattle.claim_plan.specs.CheckLaws.{CheckFindsFirst, EndsWhereWon, NoneFailsWhereWon, OneIsFirst}
use Rattle.claim_plan.specs.WonLaws.{KeptClaimIsWon}
use Rattle.claim_plan.specs.Checked.{KeepsRule, rules_in_order}
use Rattle.claim_plan.proofs.Findings.{first_one}
use Rattle.claim_plan.proofs.KeptClaims.{kept_claim_won}
use Rattle.claim_plan.proofs.CheckMeans.{none_fails, plan-checks}

mean_of : {c : Claim} → IsClaim c → RulesMean c.position
mean_of is = mean is.sound is.few

pub check_finds_first : CheckFindsFirst
check_finds_first = λ c entries found is t.
    plan-checks c is (mean_of is) (some_point is.sound) entries found t

pub none_fails_where_won : NoneFailsWhereWon
none_fails_where_won = λ c found is first. none_fails c is (mean_of is) found first

pub one_is_first : OneIsFirst
one_is_first = λ c a b h k. first_one (KeepsRule c) (rules_in_order c) a b h k

pub kept_claim_is_won : KeptClaimIsWon
kept_claim_is_won = λ c is kept value. kept_claim_won c is (mean_of is) (some_point is.sound) kept value

pub ends_where_won : EndsWhereWon
ends_where_won = λ c budget is. (
  λ h. ((none_fails_where_won c None is (check_finds_first c h.entries None is h.takes)).0 refl, record { value = None; ends = h }),
  λ (won, within).
      let ends = within.ends in
      let none = (none_fails_where_won c within.value is (check_finds_first c ends.entries within.value is ends.takes)).1 won in
      subst (λ (o : Finding). Ends (check_plan c) budget o) none ends,
)
