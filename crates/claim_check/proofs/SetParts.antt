-- The rules of one claimed set, one after another.
use Rattle.std.proofs.Common.{◌≡◌, ℕ, Bool, true, false, Option, Some, None, Result, Ok, refl, sym, subst}
use Rattle.std.specs.Option.{is_some}
use Rattle.std.specs.Prelude.{IsTrue}
use Rattle.auto_core.specs.Automaton.{Automaton}
use Rattle.auto_core.specs.Integers.{DecidesIntegers}
use Rattle.game_rules.specs.Game.{other}
use Rattle.lin_formula.specs.SetOf.{SetOf, Table, as_set}
use Rattle.set_plan.specs.Outcome.{Ends}
use Rattle.set_plan.specs.Program.{Ask, Give, Stable}
use Rattle.set_plan.specs.declared.stop.PlanError.{PlanError}
use Rattle.set_plan.proofs.Composition.{LeadsTo, LeadsTo-self}
use Rattle.mate_plan.specs.Claim.{Claim, claimed_at}
use Rattle.mate_plan.specs.Plan.{Program}
use Rattle.mate_plan.specs.PlanOf.{rules_of}
use Rattle.mate_plan.specs.Questions.{are_on_distinct_squares}
use Rattle.mate_plan.specs.declared.names.PartName.{PartName}
use Rattle.claim_plan.specs.CheckPlan.{Finding, and_then, check_guard, check_set, check_sign, holds_by, failed_rule, rule_at}
use Rattle.claim_plan.specs.declared.names.Rule.TheVariants as rule
use Rattle.claim_plan.specs.declared.names.RuleAt.{RuleAt}
use Rattle.claim_plan.proofs.CheckAnswers.{holds_by-ends}
use Rattle.claim_check.proofs.FindLemmas.{asked_ends}

abbrev found : Finding → Result Finding (PlanError PartName)
found f = Ok f

pub none_told : (f : Finding) → is_some f ≡ false → found f ≡ found None
none_told None none = refl
none_told (Some f) none = absurd (cc)

-- what is known where a rule is kept
pub kept_tells : (f : RuleAt) (b : Bool) (P : Type 0) → (IsTrue b → P) → found (failed_rule f b) ≡ found None → P
kept_tells f true P h e = h refl
kept_tells f false P h e = absurd (cc)

pub sign_ends : (budget ply mask : ℕ) (a : Automaton) (b : Bool) → (IsTrue b → DecidesIntegers a) × (DecidesIntegers a → IsTrue b)
    → Ends (check_sign ply mask (Some a)) budget (failed_rule (rule_at ply mask rule.Sign) b)
sign_ends budget ply mask a b same =
    holds_by-ends budget (rule_at ply mask rule.Sign) (Ask (Stable a) (Give true) (Give false)) b
    (asked_ends budget (Stable a) (DecidesIntegers a) b same (λ h. h) (λ h. h))

module _ (c : Claim) (ply mask : ℕ) where
  abbrev pub same_of : SetOf → Program Finding
  same_of s = holds_by (rule_at ply mask rule.Same) (are_on_distinct_squares c.position ply mask s)

  abbrev pub guard_of : SetOf → Program Finding
  guard_of s = check_guard (rules_of c.position) (other c.winner) ply mask s

  -- over the set that is claimed, in whatever way it is said
  pub set_leads : (budget : ℕ) (a : Automaton) (s : SetOf) → claimed_at c ply mask ≡ Some a → s ≡ Table a
      → LeadsTo (and_then (check_sign ply mask (Some a)) (and_then (same_of s) (guard_of s))) (check_set c ply mask) budget
  set_leads budget a s is set =
      let Whole : Option Automaton → Type 0 = λ o. LeadsTo (and_then (check_sign ply mask o) (and_then (same_of (as_set o)) (guard_of (as_set o)))) (check_set c ply mask) budget in
      let Over : SetOf → Type 0 = λ t. LeadsTo (and_then (check_sign ply mask (Some a)) (and_then (same_of t) (guard_of t))) (check_set c ply mask) budget in
      subst Over (sym set) (subst Whole is (LeadsTo-self (check_set c ply mask) budget))
