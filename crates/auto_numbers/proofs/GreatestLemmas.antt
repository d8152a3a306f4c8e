-- What the state behind a first bit 1 tells of the positive numbers in the set.
use Rattle.std.proofs.Common.{◌≡◌, ℕ, zero, suc, ◌+◌, ◌*◌, ◌^◌, ◌<◌, ◌≤◌, true, List, length, arith, get_or, inl, inr, sym, ap, subst}
use Rattle.std.proofs.lemmas.Bool.{cases_lt, cases_eq}
use Rattle.std.proofs.Math.Nat.{pow-le-pow_right}
use Rattle.track_word.specs.Word.{BitsSpell, RepeatKeepsValues, EqualValuesEqualWords}
use Rattle.auto_core.specs.Automaton.{Automaton, IsAutomaton, width, first_state, next_state}
use Rattle.auto_core.specs.Integers.{DecidesIntegers}
use Rattle.auto_numbers.specs.Numbers.{Has, IsGreatestOf, IsFar, IsEndless}
use Rattle.auto_numbers.specs.Reading.{Leads, LeadsNone, LeadsSome}
use Rattle.auto_numbers.specs.declared.length.Length.{Length}
use Rattle.auto_numbers.specs.declared.length.Length.TheVariants.{Unknown}
use Rattle.auto_numbers.specs.Lengths.{IsWithin, IsLongest, IsLong, AreLengths, IsSettled, IsGreatestAfterOne}
use Rattle.auto_numbers.proofs.Readings.{led-high, leads-high, begins_0, begins_1, split, doubled, below-power}
use Rattle.auto_numbers.proofs.Sides.{has-led, led-has}
use Rattle.auto_numbers.proofs.LengthLemmas.{some-next}

pow_le : (m n : ℕ) → m ≤ n → 2 ^ m ≤ 2 ^ n
pow_le m n h = pow-le-pow_right {n = 2} (omega arith) {i = m} {j = n} h

-- the first bit of a positive number, and the others
pub record Headed (t : ℕ) : Type 0 where
  pub bits : ℕ
  pub rest : ℕ
  pub small : rest < 2 ^ bits
  pub is : t ≡ 2 ^ bits + rest

headed-below : (n t : ℕ) → 1 ≤ t → t < 2 ^ n → Headed t
headed-below zero t some small = absurd (omega (arith, some, small))
headed-below (suc n) t some small = elim (split n t small) [
  | begins_0 below ↦ headed-below n t some below
  | begins_1 rest below is ↦ record { bits = n; rest = rest; small = below; is = is }
]

pub headed : (t : ℕ) → 1 ≤ t → Headed t
headed t some = headed-below t t some (below-power t)

module _ (a : Automaton) (valid : IsAutomaton a) (one : length a.tracks ≡ 1) (decides : DecidesIntegers a) (spell : BitsSpell) (keeps : RepeatKeepsValues)
    (equal : EqualValuesEqualWords) where
  pub has-rest : (bits rest : ℕ) → rest < 2 ^ bits → Has a (2 ^ bits + rest) → Leads a true (next_state a (first_state a 0) 1) bits rest
  has-rest bits rest small has =
      let e = doubled bits in
      led-high a true (first_state a 0) bits rest small
      (has-led a valid one decides spell keeps equal (suc bits) (2 ^ bits + rest) (omega (arith, e, small)) has)

  pub rest-has : (bits rest : ℕ) → rest < 2 ^ bits → Leads a true (next_state a (first_state a 0) 1) bits rest → Has a (2 ^ bits + rest)
  rest-has bits rest small leads =
      let e = doubled bits in
      led-has a valid one decides spell keeps equal (suc bits) (2 ^ bits + rest) (omega (arith, e, small))
      (leads-high a true (first_state a 0) bits rest small leads)

  headed-led : (t : ℕ) (head : Headed t) → Has a t → Leads a true (next_state a (first_state a 0) 1) head.bits head.rest
  headed-led t head has = has-rest head.bits head.rest head.small (subst (Has a) head.is has)

  pub no-number : ((bits : ℕ) → LeadsNone a true (next_state a (first_state a 0) 1) bits 0) → (t : ℕ) → 1 ≤ t → Has a t → ⊥
  no-number none t some has =
      let head = headed t some in
      none head.bits head.rest (omega arith) head.small (headed-led t head has)

  -- no number of the set has more bits than these
  few-bits : (most : ℕ) → IsWithin a (next_state a (first_state a 0) 1) most → (t : ℕ) → (head : Headed t) → Has a t → head.bits ≤ most
  few-bits most within t head has = elim (cases_lt most head.bits) [
    | inl past ↦ absurd (within head.bits past head.rest (omega arith) head.small (headed-led t head has))
    | inr few ↦ omega (arith, few)
  ]

  bounded : (most : ℕ) → IsWithin a (next_state a (first_state a 0) 1) most → (t : ℕ) → Has a t → t < 2 ^ suc most
  bounded most within t has = elim (cases_eq t 0) [
    | inl none ↦ let h = below-power (suc most) in omega (arith, none, h)
    | inr some ↦
        let head = headed t (omega (arith, some)) in
        let few = few-bits most within t head has in
        let p = pow_le head.bits most few in
        let e = doubled most in
        let s = head.small in
        let i = head.is in
        omega (arith, p, e, s, i)
  ]

  pub is-far : IsLong a (next_state a (first_state a 0) 1) → IsFar (Has a)
  is-far long = record {
    bound = 2 ^ suc long.most;
    bounded = λ t has. let h = bounded long.most long.within t has in omega (arith, h);
    far = 2 ^ long.bits + long.some.number;
    holds = rest-has long.bits long.some.number long.some.small long.some.leads;
    large = let many = long.many in let p = pow_le 100 long.bits (omega (arith, many)) in omega (arith, p);
  }

  pub is-greatest : (most found : ℕ) → most ≤ 99 → IsLongest a (next_state a (first_state a 0) 1) most
      → IsGreatestAfterOne a (next_state a (first_state a 0) 1) most found → (1 ≤ found) × (found < 2 ^ 100) × IsGreatestOf (Has a) found
  is-greatest most found few longest greatest = (some, small, record { holds = holds; most = above })
    where
      is : found ≡ 2 ^ most + greatest.rest
      is = greatest.is

      some : 1 ≤ found
      some = let h = below-power most in let i = is in omega (arith, i, h)

      small : found < 2 ^ 100
      small =
          let p = pow_le (suc most) 100 (omega (arith, few)) in
          let e = doubled most in
          let s = greatest.most.small in
          let i = is in
          omega (arith, p, e, s, i)

      holds : Has a found
      holds = rw is (rest-has most greatest.rest greatest.most.small greatest.most.leads)

      above : (t : ℕ) → Has a t → t ≤ found
      above t has = elim (cases_eq t 0) [
        | inl none ↦ omega (arith, none)
        | inr positive ↦
            let head = headed t (omega (arith, positive)) in
            let within = few-bits most longest.within t head has in
            let i = is in
            let j = head.is in
            let s = head.small in
            elim (cases_eq head.bits most) [
              | inl same ↦
                  let leads = subst (λ n. Leads a true (next_state a (first_state a 0) 1) n head.rest) same (headed-led t head has) in
                  let h = greatest.most.most head.rest (subst (λ n. head.rest < 2 ^ n) same s) leads in
                  let e = ap (λ n. 2 ^ n) same in
                  omega (arith, i, j, h, e)
              | inr less ↦
                  let p = pow_le (suc head.bits) most (omega (arith, within, less)) in
                  let e = doubled head.bits in
                  omega (arith, i, j, s, p, e)
            ]
      ]

  -- where a state goes on without end, so many bits and more lead from it to acceptance
  goes-on : {lengths : List Length} → AreLengths a lengths → IsSettled a lengths → (n state : ℕ) → state < length a.accept
      → get_or lengths state Unknown ≡ Unknown → (bits : ℕ) × (n ≤ bits) × LeadsSome a true state bits
  goes-on are settled zero state known unknown =
      let alive = rw unknown at (are.each state known) in
      (alive.0, omega arith, alive.1)
  goes-on are settled (suc n) state known unknown =
      let on = settled.on state known unknown in
      let inside : next_state a state on.bit < length a.accept = next-within state on.bit known on.is_bit in
      let later = goes-on are settled n (next_state a state on.bit) inside on.unknown in
      (suc later.0, (let h = later.1 in omega (arith, h)), some-next a state on.bit later.0 on.is_bit later.2)
    where
      next-within : (state bit : ℕ) → state < length a.accept → bit < 2 → next_state a state bit < length a.accept
      next-within state bit known is =
          let two : 2 ≡ width a = sym (ap (λ n. 2 ^ n) one) in
          let before : state * width a + bit < length a.accept * width a =
          subst (λ n. state * n + bit < length a.accept * n) two (omega (arith, known, is)) in
          let size = valid.next_size in
          valid.next_within (state * width a + bit) 0 (omega (arith, before, size))

  pub endless : {lengths : List Length} → AreLengths a lengths → IsSettled a lengths → next_state a (first_state a 0) 1 < length a.accept
      → get_or lengths (next_state a (first_state a 0) 1) Unknown ≡ Unknown → IsEndless (Has a)
  endless are settled known unknown bound =
      let on = goes-on are settled bound (next_state a (first_state a 0) 1) known unknown in
      let p = pow_le bound on.0 on.1 in
      let h = below-power bound in
      let some = on.2 in
      (2 ^ on.0 + some.number, omega (arith, p, h), rest-has on.0 some.number some.small some.leads)
