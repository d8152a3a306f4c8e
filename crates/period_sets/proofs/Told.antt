-- A description tells each positive member of its set.
use Rattle.std.proofs.Common.{◌↔◌, ℕ, ◌+◌, ◌<◌, ◌≤◌, List, [], ◌∷◌, arith, inl, inr}
use Rattle.std.proofs.lemmas.Bool.{cases_lt}
use Rattle.period_sets.specs.declared.periodic.Run.{Run}
use Rattle.period_sets.specs.declared.periodic.Periodic.{Periodic}
use Rattle.period_sets.specs.Period.{AreRuns, IsPeriodic}
use Rattle.period_sets.specs.Laws.{IsInRuns, IsTold}

module _ (S : ℕ → Type 0) (end t : ℕ) where
  member-run : (from : ℕ) (runs : List Run) → AreRuns S from end runs → from ≤ t → t < end → S t → IsInRuns runs t
  member-run from [] none past below member = absurd (none t past below member)
  member-run from (x ∷ xs) are past below member = elim (cases_lt t x.low) [
    | inl before ↦ absurd (are.0.before t past before member)
    | inr begun ↦ elim (cases_lt x.high t) [
      | inl behind ↦ inr (member-run (x.high + 1) xs are.1 (omega (arith, behind)) below member)
      | inr inside ↦ inl (omega (arith, begun), omega (arith, inside))
    ]
  ]

  run-member : (from : ℕ) (runs : List Run) → AreRuns S from end runs → IsInRuns runs t → S t
  run-member from [] none never = absurd never
  run-member from (x ∷ xs) are (inl inside) = are.0.inside t inside.0 inside.1
  run-member from (x ∷ xs) are (inr later) = run-member (x.high + 1) xs are.1 later

pub told : (S : ℕ → Type 0) (p : Periodic) (t : ℕ) → IsPeriodic S p → 1 ≤ t → S t ↔ IsTold p t
told S p t is some = (to, back)
  where
    to : S t → IsTold p t
    to member = elim (cases_lt t p.from) [
      | inl before ↦ inl (before, member-run S p.from t 1 p.runs.items is.runs.0 some before member)
      | inr past ↦ let le : p.from ≤ t = omega (arith, past) in inr (le, (is.rests.tells t le).0 member)
    ]

    back : IsTold p t → S t
    back (inl run) = run-member S p.from t 1 p.runs.items is.runs.0 run.1
    back (inr rest) = (is.rests.tells t rest.0).1 rest.1
