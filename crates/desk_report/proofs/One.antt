-- What is reported is one report, and has not the status of words that are no order: how it is so of what is built of
-- parts of which it is. Crates above cite these lemmas.
use Rattle.std.proofs.Common.{◌≡◌, ◌≢◌, ◌⊎◌, ℕ, List, false, inl, inr, sym, ◌∙◌, ap, subst}
use Rattle.desk_base.specs.Files.{Files}
use Rattle.desk_report.specs.Outcome.{FirstOver, Report, done_with, refusal_as}
use Rattle.desk_report.specs.declared.status.Status.TheVariants as is

abbrev pub IsNotUsage : Report → Type 0
IsNotUsage report = report.status ≢ is.Usage

pub record IsOne (says : Report → Type 0) : Type 0 where
  pub not_usage : (report : Report) → says report → IsNotUsage report
  pub once : (one other : Report) → says one → says other → one ≡ other

other_status : (report due : Report) → report ≡ due → IsNotUsage due → IsNotUsage report
other_status report due is not same = not (sym (ap (λ r. r.status) is) ∙ same)

-- it is this report
pub due_row : (due : Report) → IsNotUsage due → IsOne (λ report. report ≡ due)
due_row due not = record { not_usage = λ report is'. other_status report due is' not; once = λ one other i j. i ∙ sym j }

-- it is that of something of which this holds
module _ {A : Type 0} (Of : A → Type 0) (due : A → Report) where
  abbrev pub IsDueOf : Report → Type 0
  IsDueOf report = (x : A) × Of x × (report ≡ due x)

  due_status : ((x : A) → IsNotUsage (due x)) → (report : Report) → IsDueOf report → IsNotUsage report
  due_status not report (x, right, is') = other_status report (due x) is' (not x)

  due_once : ((x y : A) → Of x → Of y → due x ≡ due y) → (one other : Report) → IsDueOf one → IsDueOf other → one ≡ other
  due_once once one other (x, a, i) (y, b, j) = i ∙ once x y a b ∙ sym j

  pub due_of_row : ((x : A) → IsNotUsage (due x)) → ((x y : A) → Of x → Of y → due x ≡ due y) → IsOne IsDueOf
  due_of_row not once = record { not_usage = due_status not; once = due_once once }

-- it is done with the line of something of which this holds
pub line_row : {A : Type 0} (Of : A → Type 0) (line : A → List ℕ) (files : Files) → ((x y : A) → Of x → Of y → line x ≡ line y)
    → IsOne (IsDueOf Of (λ x. done_with files (line x)))
line_row Of line files once = due_of_row Of (λ x. done_with files (line x)) (λ x e. absurd (cc)) (λ x y a b. ap (done_with files) (once x y a b))

-- something else holds too
pub and_row : (Holds : Type 0) {says : Report → Type 0} → IsOne says → IsOne (λ report. Holds × says report)
and_row Holds one = record { not_usage = λ report right. one.not_usage report right.1; once = λ first other a b. one.once first other a.1 b.1 }

-- it is what is said of the one thing of which this holds
module _ {A : Type 0} (Of : A → Type 0) (says : A → Report → Type 0) where
  abbrev pub IsSaidOf : Report → Type 0
  IsSaidOf report = (x : A) × Of x × says x report

  said_status : ((x : A) → IsOne (says x)) → (report : Report) → IsSaidOf report → IsNotUsage report
  said_status one report (x, is', right) = (one x).not_usage report right

  said_once : ((x y : A) → Of x → Of y → x ≡ y) → ((x : A) → IsOne (says x)) → (first other : Report) → IsSaidOf first → IsSaidOf other → first ≡ other
  said_once same one first other (x, a, p) (y, b, q) = (one x).once first other p (subst (λ z. says z other) (sym (same x y a b)) q)

  pub said_row : ((x y : A) → Of x → Of y → x ≡ y) → ((x : A) → IsOne (says x)) → IsOne IsSaidOf
  said_row same one = record { not_usage = said_status one; once = said_once same one }

-- it is one of two that exclude each other
module _ {left right : Report → Type 0} where
  either_status : IsOne left → IsOne right → (report : Report) → left report ⊎ right report → IsNotUsage report
  either_status one other report (inl a) = one.not_usage report a
  either_status one other report (inr b) = other.not_usage report b

  either_once : ((r s : Report) → left r → right s → ⊥) → IsOne left → IsOne right → (r s : Report) → left r ⊎ right r → left s ⊎ right s → r ≡ s
  either_once not_both one other r s (inl a) (inl b) = one.once r s a b
  either_once not_both one other r s (inl a) (inr b) = absurd (not_both r s a b)
  either_once not_both one other r s (inr a) (inl b) = absurd (not_both s r b a)
  either_once not_both one other r s (inr a) (inr b) = other.once r s a b

  pub either_row : IsOne left → IsOne right → ((r s : Report) → left r → right s → ⊥) → IsOne (λ report. left report ⊎ right report)
  either_row one other not_both = record { not_usage = either_status one other; once = either_once not_both one other }

-- the first step that exceeds the budget is named, or what else is reported
pub over_row : {Step : Type 0} (line_of : Step → List ℕ) (Exceeds : Step → Type 0) {rest : Report → Type 0} (files : Files) → IsOne rest
    → ((s t : Step) → Exceeds s → Exceeds t → line_of s ≡ line_of t) → ((step : Step) (report : Report) → Exceeds step → rest report → ⊥)
    → IsOne (FirstOver line_of Exceeds rest files)
over_row {Step} line_of Exceeds {rest} files one one_line not_both =
    let due : Step → Report = λ step. refusal_as files is.Budget (line_of step) false in
    either_row {left = IsDueOf Exceeds due} {right = rest}
    (due_of_row Exceeds due (λ step e. absurd (cc)) (λ s t a b. ap (λ line. refusal_as files is.Budget line false) (one_line s t a b)))
    one (λ r s over right. not_both over.0 s over.1 right)
