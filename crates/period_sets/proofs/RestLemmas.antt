-- Numbers of one rest are in a set that repeats, or none of them is.
use Rattle.std.proofs.Common.{◌≡◌, ◌↔◌, ℕ, zero, suc, ◌+◌, ◌-◌, ◌*◌, ◌/◌, ◌%◌, ◌^◌, ◌<◌, ◌≤◌, arith, inl, inr, sym, ap, ◌∙◌}
use Rattle.std.specs.Int.{bit_at}
use Rattle.std.proofs.lemmas.Bool.{cases_lt, cases_eq}
use Rattle.std.proofs.lemmas.Nat.{mod-mul-add, pow_pos}
use Rattle.std.proofs.lemmas.Nat.Bits.{bit_at-suc, bit_at_lowest}
use Rattle.std.proofs.Math.Nat.{mul-le-mul_left}
use Rattle.period_sets.specs.declared.periodic.PeriodStart.{PeriodStart}
use Rattle.period_sets.specs.Period.{Repeats, AreRests}
use Rattle.period_sets.specs.Finding.{AreRestsFrom, Repeating}

module _ (S : ℕ → Type 0) (q from : ℕ) (repeats : Repeats S q from) where
  -- so many periods later
  pub times-later : (k t : ℕ) → from ≤ t → S t ↔ S (t + q * k)
  times-later zero t past = let e : t + q * 0 ≡ t = omega arith in rw e ((λ h. h), (λ h. h))
  times-later (suc k) t past =
      let before = times-later k t past in
      let one = repeats (t + q * k) (omega (arith, past)) in
      let e : t + q * suc k ≡ t + q * k + q = omega arith in
      rw e ((λ h. one.0 (before.0 h)), (λ h. before.1 (one.1 h)))

  pub same-rest : (n t : ℕ) → 1 ≤ q → from ≤ n → n < from + q → from ≤ t → n % q ≡ t % q → S n ↔ S t
  same-rest n t some low near past same =
      elim (cases_lt (t / q) (n / q)) [
        | inl less ↦
            let m : q * suc (t / q) ≤ q * (n / q) = mul-le-mul_left q less in
            let tq : q * (t / q) + t % q ≡ t = omega (arith, some) in
            let nq : q * (n / q) + n % q ≡ n = omega (arith, some) in
            absurd (omega (arith, m, tq, nq, same, near, past))
        | inr more ↦
            let k = t / q - n / q in
            let e : t / q ≡ n / q + k = omega (arith, more) in
            let m = ap (λ x. q * x) e in
            let tq : q * (t / q) + t % q ≡ t = omega (arith, some) in
            let nq : q * (n / q) + n % q ≡ n = omega (arith, some) in
            let is : n + q * k ≡ t = omega (arith, m, tq, nq, same) in
            rw is at (times-later k n low)
      ]

pub rest-here : (q from rest : ℕ) → rest < q → from % q ≤ rest → (from + (rest - from % q)) % q ≡ rest
rest-here q from rest small le =
    let e : from + (rest - from % q) ≡ from / q * q + rest = omega (arith, small, le) in
    rw e (mod-mul-add (from / q) q rest small)

pub rest-next : (q from rest : ℕ) → rest < q → rest < from % q → (from + (q + rest - from % q)) % q ≡ rest
rest-next q from rest small less =
    let below : from % q < q = omega (arith, small) in
    let e : from + (q + rest - from % q) ≡ suc (from / q) * q + rest = omega (arith, small, less, below) in
    rw e (mod-mul-add (suc (from / q)) q rest small)

power-one : (n : ℕ) → 2 ^ suc n ≡ 2 * 2 ^ n
power-one n = omega arith

module _ (S : ℕ → Type 0) (start : PeriodStart) (repeating : Repeating S start) where
  pub rests-end : (rest : ℕ) → rest ≡ start.period → AreRestsFrom S start rest 0
  rests-end rest is = record {
    small = pow_pos (start.period - rest);
    tells = λ t past le. let some = repeating.some in let h : t % start.period < start.period = omega (arith, some) in absurd (omega (arith, h, le, is));
  }

  pub rests-more : (rest number own later : ℕ) → rest < start.period → start.from ≤ number → number < start.from + start.period → number % start.period ≡ rest
      → own < 2 → ((own ≡ 1) ↔ S number) → AreRestsFrom S start (rest + 1) later → AreRestsFrom S start rest (own + 2 * later)
  rests-more rest number own later below low near is bit own-is are = record {
    small =
        let h = are.small in
        let e : start.period - rest ≡ suc (start.period - (rest + 1)) = omega (arith, below) in
        let p = power-one (start.period - (rest + 1)) in
        rw e (omega (arith, h, p, bit));
    tells = λ t past le. elim (cases_eq (t % start.period) rest) [
      | inl same ↦
          let z : t % start.period - rest ≡ 0 = omega (arith, same) in
          let b : bit_at (own + 2 * later) 0 ≡ own = bit_at_lowest (own + 2 * later) ∙ omega (arith, bit) in
          let of = same-rest S start.period start.from repeating.repeats number t repeating.some low near past (is ∙ sym same) in
          rw (z, b) ((λ member. own-is.1 (of.1 member)), (λ set. of.0 (own-is.0 set)))
      | inr other ↦
          let z : t % start.period - rest ≡ suc (t % start.period - (rest + 1)) = omega (arith, le, other) in
          let half : (own + 2 * later) / 2 ≡ later = omega (arith, bit) in
          let b : bit_at (own + 2 * later) (suc (t % start.period - (rest + 1))) ≡ bit_at later (t % start.period - (rest + 1)) =
          bit_at-suc (own + 2 * later) (t % start.period - (rest + 1)) ∙ ap (λ n. bit_at n (t % start.period - (rest + 1))) half in
          rw (z, b) (are.tells t past (omega (arith, le, other)))
    ];
  }

  pub rests-whole : (rests : ℕ) → AreRestsFrom S start 0 rests → AreRests S start.from start.period rests
  rests-whole rests are = record {
    small = let z : start.period - 0 ≡ start.period = omega arith in rw z at are.small;
    tells = λ t past. let z : t % start.period - 0 ≡ t % start.period = omega arith in rw z at (are.tells t past (omega arith));
  }
