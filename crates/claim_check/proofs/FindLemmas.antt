-- How the parts of a program that finds the first rule that fails make up the whole.
use Rattle.std.proofs.Common.{◌≡◌, ◌↔◌, ℕ, Bool, true, false, Some, None, Result, Ok, Err, refl, subst}
use Rattle.std.specs.Option.{is_some}
use Rattle.std.specs.Prelude.{IfOk, IsTrue}
use Rattle.set_plan.specs.Outcome.{Ends, IsPlanError}
use Rattle.set_plan.specs.Program.{Ask, Give, IsNo, IsYes, Question}
use Rattle.set_plan.specs.declared.stop.PlanError.{PlanError}
use Rattle.set_plan.proofs.Composition.{Ends-ask_no, Ends-ask_yes, Ends-give, LeadsTo, LeadsTo-error}
use Rattle.mate_plan.specs.Plan.{Program}
use Rattle.mate_plan.specs.declared.names.PartName.{PartName}
use Rattle.claim_plan.specs.CheckPlan.{Finding, and_then, go_on}
use Rattle.claim_plan.proofs.CheckAnswers.{found-ends, next-leads, stop-errs}
use Rattle.claim_check.specs.Finds.{Finds}

-- a question that is answered without a step
pub asked_ends : (budget : ℕ) (q : Question) (P : Type 0) (b : Bool) → IsTrue b ↔ P → (P → IsYes q)
    → ((P → ⊥) → IsNo q) → Ends {P = PartName} (Ask q (Give true) (Give false)) budget b
asked_ends budget q P true same some none = Ends-ask_yes q (Give true) (Give false) budget (some (same.0 refl)) (Ends-give budget true)
asked_ends budget q P false same some none = Ends-ask_no q (Give true) (Give false) budget false (none (λ h. let t = same.1 h in absurd (cc))) (Ends-give budget false)

pub none_found : {m : Program Finding} (budget : ℕ) {now : ℕ} → now ≡ budget → {found : Finding} → is_some found ≡ false → Ends m now found → Ends m budget None
none_found {m} budget same {found = None} none h = subst (λ (b : ℕ). Ends m b None) same h
none_found budget same {found = Some f} none h = absurd (cc)

-- a part is gone through only where nothing was found before
pub goes_past : (m : Program Finding) (budget : ℕ) (found : Finding) → is_some found ≡ true → Ends (go_on m found) budget found
goes_past m budget None some = absurd (cc)
goes_past m budget (Some f) some = Ends-give budget (Some f)

pub goes_into : (m : Program Finding) (budget : ℕ) (found : Finding) (r : Result Finding (PlanError PartName)) → is_some found ≡ false → Finds m budget r → Finds (go_on m found) budget r
goes_into m budget None r none h = h
goes_into m budget (Some f) r none h = absurd (cc)

pub if_ok : {T E : Type 0} (r : Result T E) (P : T → Type 0) → ((value : T) → P value) → IfOk r P
if_ok (Ok value) P holds = holds value
if_ok (Err e) P holds = tt

-- what is left is gone through, and with it the whole
pub left_finds : {left whole : Program Finding} {budget : ℕ} (now : ℕ) → now ≡ budget → LeadsTo left whole budget
    → (r : Result Finding (PlanError PartName)) → Finds left now r → Finds whole budget r
left_finds {left} now same leads (Ok found) h = leads.ends found (subst (λ (b : ℕ). Ends left b found) same h)
left_finds {left} now same leads (Err e) h = LeadsTo-error leads e (subst (λ (b : ℕ). IsPlanError left b e) same h)

module _ (m n whole : Program Finding) (budget now : ℕ) (same : now ≡ budget) (leads : LeadsTo (and_then m n) whole budget) where
  -- nothing is found, and the next part is left
  pub left_after : (found : Finding) → is_some found ≡ false → Ends m now found → LeadsTo n whole budget
  left_after found none h = next-leads budget m n whole leads (none_found budget same none h)

  -- a rule fails
  pub found_in : (found : Finding) → is_some found ≡ true → Ends m now found → Ends whole budget found
  found_in None some h = absurd (cc)
  found_in (Some f) some h = found-ends budget m n whole leads f (subst (λ (b : ℕ). Ends m b (Some f)) same h)

  -- a step passes the budget, or memory runs out
  pub stopped_in : (e : PlanError PartName) → IsPlanError m now e → IsPlanError whole budget e
  stopped_in e h = stop-errs budget m n whole leads e (subst (λ (b : ℕ). IsPlanError m b e) same h)
