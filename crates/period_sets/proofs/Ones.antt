-- A set has one description.
use Rattle.std.proofs.Common.{◌≡◌, ◌≢◌, ℕ, ◌+◌, ◌*◌, ◌%◌, ◌<◌, ◌≤◌, List, [], ◌∷◌, length, arith, inl, inr, refl, sym, ap, ◌∙◌, subst}
use Rattle.std.specs.Int.{bit_at}
use Rattle.std.proofs.lemmas.Bool.{cases_lt, cases_eq}
use Rattle.std.proofs.lemmas.Nat.{mod-mul-add}
use Rattle.std.proofs.lemmas.Nat.Bits.{bit_at-lt, same_from_bits_below}
use Rattle.std.proofs.Math.Nat.{mul-le-mul_left}
use Rattle.period_sets.specs.declared.periodic.Run.{Run}
use Rattle.period_sets.specs.declared.periodic.Periodic.{Periodic}
use Rattle.period_sets.specs.Period.{IsLeastPeriod, IsLeastStart, IsFirstRun, AreRuns, AreRests, IsPeriodic}
use Rattle.period_sets.specs.Laws.{SaysTheSame}

pub one-period : (S : ℕ → Type 0) (q r : ℕ) → IsLeastPeriod S q → IsLeastPeriod S r → q ≡ r
one-period S q r one other = let h = one.least r other.is in let k = other.least q one.is in omega (arith, h, k)

pub one-start : (S : ℕ → Type 0) (q m n : ℕ) → IsLeastStart S q m → IsLeastStart S q n → m ≡ n
one-start S q m n one other =
    let h = one.least n other.positive other.repeats in let k = other.least m one.positive one.repeats in omega (arith, h, k)

module _ (S : ℕ → Type 0) where
  low-le : (from end stop : ℕ) (x y : Run) → IsFirstRun S from end x → IsFirstRun S from stop y → x.low ≤ y.low
  low-le from end stop x y one other = elim (cases_lt y.low x.low) [
    | inl less ↦ absurd (one.before y.low other.first less (other.inside y.low (omega arith) other.order))
    | inr le ↦ omega (arith, le)
  ]

  same-low : (from end stop : ℕ) (x y : Run) → IsFirstRun S from end x → IsFirstRun S from stop y → x.low ≡ y.low
  same-low from end stop x y one other =
      let le = low-le from end stop x y one other in
      let ge = low-le from stop end y x other one in
      omega (arith, le, ge)

  -- below an earlier end a run is no longer
  high-le : (from end stop : ℕ) (x y : Run) → stop ≤ end → x.low ≡ y.low → IsFirstRun S from end x → IsFirstRun S from stop y → y.high ≤ x.high
  high-le from end stop x y earlier same one other = elim (cases_lt x.high y.high) [
    | inl less ↦
        let b = other.below in
        let o = one.order in
        absurd (one.after (omega (arith, less, b, earlier)) (other.inside (x.high + 1) (omega (arith, same, o)) (omega (arith, less))))
    | inr le ↦ omega (arith, le)
  ]

  same-run : (from end : ℕ) (x y : Run) → IsFirstRun S from end x → IsFirstRun S from end y → x ≡ y
  same-run from end x y one other =
      let low = same-low from end end x y one other in
      let h = high-le from end end x y (omega arith) low one other in
      let h' = high-le from end end y x (omega arith) (sym low) other one in
      let high : x.high ≡ y.high = omega (arith, h, h') in
      ap (λ n. record { low = n; high = x.high }) low ∙ ap (λ n. record { low = y.low; high = n }) high

  pub same-runs : (from end : ℕ) (xs ys : List Run) → AreRuns S from end xs → AreRuns S from end ys → xs ≡ ys
  same-runs from end [] [] one other = refl
  same-runs from end [] (y ∷ ys) one other =
      let o = other.0.order in
      let b = other.0.below in
      absurd (one y.low other.0.first (omega (arith, o, b)) (other.0.inside y.low (omega arith) o))
  same-runs from end (x ∷ xs) [] one other =
      let o = one.0.order in
      let b = one.0.below in
      absurd (other x.low one.0.first (omega (arith, o, b)) (one.0.inside x.low (omega arith) o))
  same-runs from end (x ∷ xs) (y ∷ ys) one other =
      let e = same-run from end x y one.0 other.0 in
      let rest = same-runs (y.high + 1) end xs ys (subst (λ (r : Run). AreRuns S (r.high + 1) end xs) e one.1) other.1 in
      ap (λ r. r ∷ xs) e ∙ ap (λ rs. y ∷ rs) rest

  none-behind : (from stop : ℕ) (runs : List Run) → stop ≤ from → AreRuns S from stop runs → length runs ≡ 0
  none-behind from stop [] past are = refl
  none-behind from stop (x ∷ xs) past are =
      let f = are.0.first in
      let o = are.0.order in
      let b = are.0.below in
      absurd (omega (arith, past, f, o, b))

  -- below an earlier end there are no more runs
  pub fewer-runs : (from stop end : ℕ) (xs ys : List Run) → stop ≤ end → AreRuns S from stop xs → AreRuns S from end ys → length xs ≤ length ys
  fewer-runs from stop end [] ys earlier one other = omega arith
  fewer-runs from stop end (x ∷ xs) [] earlier one other =
      let o = one.0.order in
      let b = one.0.below in
      absurd (other x.low one.0.first (omega (arith, o, b, earlier)) (one.0.inside x.low (omega arith) o))
  fewer-runs from stop end (x ∷ xs) (y ∷ ys) earlier one other =
      let low = same-low from stop end x y one.0 other.0 in
      let le = high-le from end stop y x earlier (sym low) other.0 one.0 in
      elim (cases_eq x.high y.high) [
        | inl same ↦
            let rest = fewer-runs (y.high + 1) stop end xs ys earlier (subst (λ n. AreRuns S (n + 1) stop xs) same one.1) other.1 in
            omega (arith, rest)
        | inr apart ↦
            let last = ends-run x.low y.low x.high y.high stop low le apart one.0.order other.0.inside one.0.after in
            let none = none-behind (x.high + 1) stop xs last one.1 in
            omega (arith, none)
      ]
    where
      -- a run that goes on was cut by the earlier end
      ends-run : (l l' h h' stop : ℕ) → l ≡ l' → h ≤ h' → h ≢ h' → l ≤ h → ((t : ℕ) → l' ≤ t → t ≤ h' → S t) → (h + 1 < stop → ¬ S (h + 1)) → stop ≤ h + 1
      ends-run l l' h h' stop low le apart order inside after = elim (cases_lt (h + 1) stop) [
        | inl before ↦ absurd (after before (inside (h + 1) (omega (arith, low, order)) (omega (arith, le, apart))))
        | inr past ↦ omega (arith, past)
      ]

  pub same-rests : (from q r s : ℕ) → 1 ≤ q → AreRests S from q r → AreRests S from q s → r ≡ s
  same-rests from q r s some one other = same_from_bits_below q r s one.small other.small bits
    where
      bits : (i : ℕ) → i < q → bit_at r i ≡ bit_at s i
      bits i small =
          let t = from * q + i in
          let is : (from * q + i) % q ≡ i = mod-mul-add from q i small in
          let m : from * 1 ≤ from * q = mul-le-mul_left from some in
          let past : from ≤ from * q + i = omega (arith, m) in
          let a = rw is at (one.tells (from * q + i) past) in
          let b = rw is at (other.tells (from * q + i) past) in
          alike (bit_at r i) (bit_at s i) (bit_at-lt r i) (bit_at-lt s i) (λ h. b.0 (a.1 h)) (λ h. a.0 (b.1 h))
        where
          alike : (m n : ℕ) → m < 2 → n < 2 → (m ≡ 1 → n ≡ 1) → (n ≡ 1 → m ≡ 1) → m ≡ n
          alike m n small small' to back = elim (cases_eq m 1) [
            | inl is ↦ is ∙ sym (to is)
            | inr other ↦ elim (cases_eq n 1) [
              | inl is ↦ absurd (other (back is))
              | inr other' ↦ omega (arith, small, small', other, other')
            ]
          ]

  pub one-description : (p q : Periodic) → IsPeriodic S p → IsPeriodic S q → SaysTheSame p q
  one-description p q one other =
      let period : p.period ≡ q.period = one-period S p.period q.period one.period other.period in
      let from : p.from ≡ q.from = one-start S q.period p.from q.from (subst (λ n. IsLeastStart S n p.from) period one.from) other.from in
      record {
        runs = same-runs 1 q.from p.runs.items q.runs.items (subst (λ n. AreRuns S 1 n p.runs.items) from one.runs.0) other.runs.0;
        from = from;
        period = period;
        rests =
            same-rests q.from q.period p.rests q.rests other.period.is.some
            (subst (λ n. AreRests S n q.period p.rests) from (subst (λ n. AreRests S p.from n p.rests) period one.rests)) other.rests;
      }
