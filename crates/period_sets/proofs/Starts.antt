-- Periods and where they begin, by the last number at which the set does not repeat.
use Rattle.std.proofs.Common.{◌≡◌, ◌⊎◌, ℕ, zero, suc, ◌+◌, ◌*◌, ◌^◌, ◌<◌, ◌≤◌, List, [], ◌∷◌, length, Some, None, length-append, add-one, arith, inl, inr, refl, ap, subst}
use Rattle.std.proofs.lemmas.Bool.{cases_lt}
use Rattle.auto_core.specs.Automaton.{Automaton}
use Rattle.lin_formula.specs.Tree.{Tree, steps}
use Rattle.lin_formula.specs.Holds.{Sets}
use Rattle.lin_formula.specs.SetOf.{tables}
use Rattle.formula_auto.specs.Step.{FirstOver}
use Rattle.formula_auto.specs.Compiled.{IsCompileError}
use Rattle.formula_auto.specs.declared.errors.CompileError.TheVariants as compile_error
use Rattle.formula_auto.proofs.FirstOvers.{FirstOver-append, FirstOver-from, none_some}
use Rattle.formula_auto.proofs.NoSets.{FirstOver-number}
use Rattle.auto_numbers.specs.Numbers.{Has, IsGreatestOf, IsFar, IsEndless}
use Rattle.period_sets.specs.Period.{Repeats, IsPeriod, IsLeastPeriod, IsLeastStart}
use Rattle.period_sets.specs.Question.{differs, questions, named, StaysWithin, IsFirstPast}
use Rattle.period_sets.specs.Description.{IsPeriodError, IsTooFar, IsFound}
use Rattle.period_sets.specs.declared.periodic.PeriodStart.{PeriodStart}
use Rattle.period_sets.specs.declared.errors.PeriodError.{PeriodError}
use Rattle.period_sets.specs.Finding.{IsDifference, IsRunsError, Repeating}
use Rattle.period_sets.proofs.Differences.{eight-steps}

module _ (S : ℕ → Type 0) (q : ℕ) where
  -- where it repeats, there is no difference
  no-difference : (from t : ℕ) → Repeats S q from → from ≤ t → IsDifference S q t → ⊥
  no-difference from t repeats past difference = elim difference.1 [
    | inl leaves ↦ leaves.1 ((repeats t past).0 leaves.0)
    | inr enters ↦ enters.0 ((repeats t past).1 enters.1)
  ]

  pub no-period : IsEndless (IsDifference S q) → IsPeriod S q → ⊥
  no-period endless is = let h = endless is.from in no-difference is.from h.0 is.repeats h.1 h.2

  -- where there is no difference any more, it repeats
  repeats-past : ((t : ℕ) → S t ⊎ (¬ S t)) → (from : ℕ) → 1 ≤ from → ((t : ℕ) → from ≤ t → IsDifference S q t → ⊥) → Repeats S q from
  repeats-past decided from some none t past = (to, back)
    where
      to : S t → S (t + q)
      to here = elim (decided (t + q)) [
        | inl later ↦ later
        | inr never ↦ absurd (none t past (omega (arith, some, past), inl (here, never)))
      ]

      back : S (t + q) → S t
      back later = elim (decided t) [
        | inl here ↦ here
        | inr never ↦ absurd (none t past (omega (arith, some, past), inr (never, later)))
      ]

  pub starts-at-1 : ((t : ℕ) → S t ⊎ (¬ S t)) → ((t : ℕ) → 1 ≤ t → IsDifference S q t → ⊥) → IsLeastStart S q 1
  starts-at-1 decided none = record {
    positive = omega arith;
    repeats = repeats-past decided 1 (omega arith) none;
    least = λ m some repeats. some;
  }

  pub starts-behind : ((t : ℕ) → S t ⊎ (¬ S t)) → (last : ℕ) → IsGreatestOf (IsDifference S q) last → IsLeastStart S q (last + 1)
  starts-behind decided last greatest = record {
    positive = omega arith;
    repeats = repeats-past decided (last + 1) (omega arith) (λ t past difference. let h = greatest.most t difference in omega (arith, h, past));
    least = λ m some repeats. elim (cases_lt last m) [
      | inl past ↦ omega (arith, past)
      | inr before ↦ absurd (no-difference m last repeats (omega (arith, before)) greatest.holds)
    ];
  }

  pub period-of : (from : ℕ) → 1 ≤ q → IsLeastStart S q from → IsPeriod S q
  period-of from some start = record { some = some; from = from; positive = start.positive; repeats = start.repeats }

  pub far-period : ((t : ℕ) → S t ⊎ (¬ S t)) → 1 ≤ q → IsFar (IsDifference S q) → IsPeriod S q
  far-period decided some far = record {
    some = some;
    from = far.bound + 1;
    positive = omega arith;
    repeats = repeats-past decided (far.bound + 1) (omega arith) (λ t past difference. let h = far.bounded t difference in omega (arith, h, past));
  }

  pub far-start : IsFar (IsDifference S q) → (from : ℕ) → 1 ≤ from → Repeats S q from → 2 ^ 100 < from
  far-start far from some repeats = elim (cases_lt far.far from) [
    | inl past ↦ let h = far.large in omega (arith, h, past)
    | inr before ↦ absurd (no-difference from far.far repeats (omega (arith, before)) far.holds)
  ]

pub least-of : (S : ℕ → Type 0) (before : ℕ) → before < 60 → ((q : ℕ) → q ≤ before → IsPeriod S q → ⊥) → IsPeriod S (before + 1) → IsLeastPeriod S (before + 1)
least-of S before few none is = record {
  is = is;
  small = omega (arith, few);
  least = λ r period. elim (cases_lt before r) [
    | inl past ↦ omega (arith, past)
    | inr small ↦ absurd (none r (omega (arith, small)) period)
  ];
}

-- steps counted on
FirstOver-later : (xs : List Tree) (e : Sets) (budget from k d : ℕ) → FirstOver xs e budget from (Some k) → FirstOver xs e budget (from + d) (Some (k + d))
FirstOver-later [] e budget from k d h = none_some h
FirstOver-later (x ∷ xs) e budget from k d h = elim h [
  | inl (over, is) ↦ inl (over, (let same : k ≡ from = cc in ap (λ n. Some (n + d)) same))
  | inr (within, rest) ↦ inr (
    within,
    (let more : from + 1 + d ≡ from + d + 1 = omega arith in
        subst (λ n. FirstOver xs e budget n (Some (k + d))) more (FirstOver-later xs e budget (from + 1) k d rest)),
  )
]

questions-length : (n : ℕ) → length (questions n) ≡ 8 * n
questions-length zero = refl
questions-length (suc n) =
    let h = questions-length n in
    let l = length-append (questions n) (steps (differs (suc n))) in
    let e = eight-steps (suc n) in
    omega (arith, h, l, e)

module _ (a : Automaton) (budget : ℕ) where
  pub within-more : (before : ℕ) → StaysWithin a budget before → FirstOver (steps (differs (before + 1))) (named a) budget 1 None → StaysWithin a budget (before + 1)
  within-more before within next =
      let e = add-one before in
      rw e
      (FirstOver-append (questions before) (steps (differs (suc before))) (named a) budget 1 None within
      (FirstOver-from (steps (differs (suc before))) (named a) budget 1 (1 + length (questions before)) (rw e at next)))

  pub few-steps : (before step : ℕ) → IsCompileError (differs (before + 1)) (tables (a ∷ [])) 0 budget (compile_error.Over step) → step ≤ 8
  few-steps before step past =
      let high = (FirstOver-number (steps (differs (before + 1))) (named a) budget 1 step past).1 in
      let eight = eight-steps (before + 1) in
      omega (arith, high, eight)

  pub past-at : (before : ℕ) → before < 60 → ((q : ℕ) → q ≤ before → IsPeriod (Has a) q → ⊥) → StaysWithin a budget before → (step : ℕ)
      → IsCompileError (differs (before + 1)) (tables (a ∷ [])) 0 budget (compile_error.Over step) → IsFirstPast (Has a) a budget (step + 8 * before)
  past-at before few none within step past =
      let e = add-one before in
      let count = questions-length before in
      let from : 1 + 8 * before ≡ 1 + length (questions before) = omega (arith, count) in
      record {
        last = suc before;
        few = omega (arith, few);
        none = λ q less. none q (omega (arith, less));
        past =
            FirstOver-append (questions before) (steps (differs (suc before))) (named a) budget 1 (Some (step + 8 * before)) within
            (subst (λ n. FirstOver (steps (differs (suc before))) (named a) budget n (Some (step + 8 * before))) from
            (FirstOver-later (steps (differs (suc before))) (named a) budget 1 step (8 * before) (rw e at past)));
      }

pub none-more : (S : ℕ → Type 0) (before : ℕ) → ((q : ℕ) → q ≤ before → IsPeriod S q → ⊥) → (IsPeriod S (before + 1) → ⊥) → (q : ℕ) → q ≤ before + 1 → IsPeriod S q → ⊥
none-more S before none next q le is = elim (cases_lt before q) [
  | inl past ↦ let e : q ≡ before + 1 = omega (arith, past, le) in next (subst (IsPeriod S) e is)
  | inr small ↦ none q (omega (arith, small)) is
]

pub none-at-0 : (S : ℕ → Type 0) (q : ℕ) → q ≤ 0 → IsPeriod S q → ⊥
none-at-0 S q le is = let some = is.some in absurd (omega (arith, le, some))

-- what is found of the next period
module _ (a : Automaton) (budget before : ℕ) (few : before < 60) (decided : (t : ℕ) → Has a t ⊎ (¬ Has a t))
    (none : (q : ℕ) → q ≤ before → IsPeriod (Has a) q → ⊥) (within : StaysWithin a budget before)
    (next : FirstOver (steps (differs (before + 1))) (named a) budget 1 None) where
  pub too-far : IsFar (IsDifference (Has a) (before + 1)) → IsTooFar (Has a) a budget
  too-far far = record {
    period = before + 1;
    is_least = least-of (Has a) before few none (far-period (Has a) (before + 1) decided (omega arith) far);
    far = far-start (Has a) (before + 1) far;
    within = within-more a budget before within next;
  }

  pub found-at : (from : ℕ) → from ≤ 2 ^ 100 → IsLeastStart (Has a) (before + 1) from → IsFound (Has a) a budget (record { from = from; period = before + 1 })
  found-at from near start = record {
    period = least-of (Has a) before few none (period-of (Has a) (before + 1) from (omega arith) start);
    from = start;
    near = near;
    within = within-more a budget before within next;
  }

-- the whole description
module _ (a : Automaton) (budget : ℕ) (start : PeriodStart) (found : IsFound (Has a) a budget start) where
  pub repeating-of : Repeating (Has a) start
  repeating-of = record {
    some = found.period.is.some;
    small = found.period.small;
    near = found.near;
    repeats = found.from.repeats;
  }

  pub runs-error : (why : PeriodError) → IsRunsError (Has a) 1 start.from 100 why → IsPeriodError a budget why
  runs-error why (inl (is, more)) = rw is (record { start = start; found = found; many = more })
  runs-error why (inr is) = rw is tt
