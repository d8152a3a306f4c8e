-- By how many bits a state leads to acceptance, from how many its two next states do.
use Rattle.std.proofs.Common.{◌≡◌, ◌≢◌, ℕ, zero, suc, max, ◌+◌, ◌^◌, ◌<◌, ◌≤◌, Bool, true, false, cond, nat_lt, List, [], ◌∷◌, length, All, add-one, arith, inl, inr, refl, sym, ap}
use Rattle.std.proofs.lemmas.Bool.{cases_lt, cases_eq}
use Rattle.std.proofs.lemmas.Bool.Decides.{nat_tests}
use Rattle.auto_core.specs.Automaton.{Automaton, width, next_state, run, is_final}
use Rattle.auto_core.specs.Reduced.{ToldApart, IsReduced}
use Rattle.auto_numbers.specs.declared.length.Length.{Length}
use Rattle.auto_numbers.specs.declared.length.Length.TheVariants.{Unknown, Nothing, UpTo, Long}
use Rattle.auto_numbers.specs.Reading.{LeadsNone, LeadsSome}
use Rattle.auto_numbers.specs.Lengths.{IsAlive, IsWithin, IsLongest, IsLength, longer_of, after_one, with_flag}
use Rattle.auto_numbers.proofs.Searches.{some-zero, some-low, some-high, none-zero, none-both}

module _ (a : Automaton) where
  -- letters are the bits of a number
  some-letters : (letters : List ℕ) → All (λ letter. letter < 2) letters → (state : ℕ) → is_final a (run a state letters) ≡ true
      → LeadsSome a true state (length letters)
  some-letters [] small state is = some-zero a true state is
  some-letters (letter ∷ letters) small state is = elim (cases_eq letter 0) [
    | inl e ↦ some-low a true state (length letters) (some-letters letters rest (next_state a state 0) (rw e at is))
    | inr ne ↦
        let first : letter < 2 = small 0 0 (omega arith) in
        let e : letter ≡ 1 = omega (arith, ne, first) in
        some-high a true state (length letters) (some-letters letters rest (next_state a state 1) (rw e at is))
  ]
    where
      rest : All (λ letter. letter < 2) letters
      rest k d inside = small (suc k) d (omega (arith, inside))

  pub some-next : (state bit bits : ℕ) → bit < 2 → LeadsSome a true (next_state a state bit) bits → LeadsSome a true state (suc bits)
  some-next state bit bits is some = elim (cases_eq bit 0) [
    | inl e ↦ some-low a true state bits (rw e at some)
    | inr ne ↦ let e : bit ≡ 1 = omega (arith, ne, is) in some-high a true state bits (rw e at some)
  ]

  -- what is told apart from a state to which it leads, or leads to acceptance itself, leads to acceptance
  pub alive-apart : IsReduced a → length a.tracks ≡ 1 → (state bit : ℕ) → bit < 2 → state < length a.accept → next_state a state bit < length a.accept
      → next_state a state bit ≢ state → IsAlive a state
  alive-apart reduced one state bit is known inside other =
      go (is_final a (run a state letters)) refl
    where
      apart : ToldApart a state (next_state a state bit)
      apart = reduced.apart state (next_state a state bit) known inside (λ e. other (sym e))

      letters : List ℕ
      letters = apart.letters

      wide : width a ≡ 2
      wide = ap (λ n. 2 ^ n) one

      small : All (λ letter. letter < 2) letters
      small k d h = rw wide at (apart.are_letters k d h)

      differ : is_final a (run a state letters) ≢ is_final a (run a (next_state a state bit) letters)
      differ = apart.differ

      true-or : (b c : Bool) → b ≡ false → (b ≡ c → ⊥) → c ≡ true
      true-or b true e not = refl
      true-or b false e not = absurd (not e)

      go : (flag : Bool) → is_final a (run a state letters) ≡ flag → IsAlive a state
      go true e = (length letters, some-letters letters small state e)
      go false e = (
        suc (length letters),
        some-next state bit (length letters) is
            (some-letters letters small (next_state a state bit)
            (true-or (is_final a (run a state letters)) (is_final a (run a (next_state a state bit) letters)) e differ)),
      )

  pub alive-final : (state : ℕ) → is_final a state ≡ true → IsAlive a state
  alive-final state is = (0, some-zero a true state is)

  -- from where each bit leads back nothing leads to acceptance
  pub none-back : (state : ℕ) → next_state a state 0 ≡ state → next_state a state 1 ≡ state → (is_final a state ≡ true → ⊥) → (bits : ℕ) → LeadsNone a true state bits 0
  none-back state low high not zero = none-zero a true state 0 not
  none-back state low high not (suc bits) =
      let before = none-back state low high not bits in
      none-both a true state refl 0 (rw low before) (rw high before)

  within-more : (state m n : ℕ) → m ≤ n → IsWithin a state m → IsWithin a state n
  within-more state m n le within bits past = within bits (omega (arith, past, le))

  within-both : (state m : ℕ) → IsWithin a (next_state a state 0) m → IsWithin a (next_state a state 1) m → IsWithin a state (suc m)
  within-both state m low high zero past = absurd (omega (arith, past))
  within-both state m low high (suc bits) past =
      none-both a true state refl 0 (low bits (omega (arith, past))) (high bits (omega (arith, past)))

  none-within : (state m : ℕ) → ((bits : ℕ) → LeadsNone a true state bits 0) → IsWithin a state m
  none-within state m none bits past = none bits

  -- the length of a state that has one bit more than so many
  up : (state n : ℕ) (flag : Bool) → n ≤ 99 → LeadsSome a true state (suc n) → IsWithin a state (suc n) → IsLength a state (with_flag flag (after_one (UpTo n)))
  up state n flag few some within = go (nat_lt n 99) refl flag
    where
      longest : IsLongest a state (n + 1)
      longest = rw (add-one n) (record { some = some; within = within })

      go : (test : Bool) → nat_lt n 99 ≡ test → (flag : Bool) → IsLength a state (with_flag flag (cond test (UpTo (n + 1)) Long))
      go true e true = (grind (arith, nat_tests, e), longest)
      go true e false = (grind (arith, nat_tests, e), longest)
      go false e true = record { bits = suc n; many = grind (arith, nat_tests, e); some = some; most = suc n; within = within }
      go false e false = record { bits = suc n; many = grind (arith, nat_tests, e); some = some; most = suc n; within = within }

  long : (state bits m : ℕ) (flag : Bool) → 99 < bits → LeadsSome a true state bits → IsWithin a state m → IsLength a state (with_flag flag Long)
  long state bits m true many some within = record { bits = bits; many = many; some = some; most = m; within = within }
  long state bits m false many some within = record { bits = bits; many = many; some = some; most = m; within = within }

  unknown : (state : ℕ) (flag : Bool) → IsAlive a state → IsLength a state (with_flag flag Unknown)
  unknown state true alive = alive
  unknown state false alive = alive

  nothing : (state : ℕ) (flag : Bool) → is_final a state ≡ flag → ((bits : ℕ) → LeadsNone a true (next_state a state 0) bits 0)
      → ((bits : ℕ) → LeadsNone a true (next_state a state 1) bits 0) → IsLength a state (with_flag flag Nothing)
  nothing state true is low high = (
    omega arith,
    record {
      some = some-zero a true state is;
      within = λ bits past. at bits past;
    },
  )
    where
      at : (bits : ℕ) → 0 < bits → LeadsNone a true state bits 0
      at zero past = absurd (omega (arith, past))
      at (suc bits) past = none-both a true state refl 0 (low bits) (high bits)
  nothing state false is low high = at
    where
      at : (bits : ℕ) → LeadsNone a true state bits 0
      at zero = none-zero a true state 0 (λ e. cc)
      at (suc bits) = none-both a true state refl 0 (low bits) (high bits)

  pub later-length : (state : ℕ) (flag : Bool) → is_final a state ≡ flag → (low high : Length) → IsLength a (next_state a state 0) low
      → IsLength a (next_state a state 1) high → IsAlive a state → IsLength a state (with_flag flag (after_one (longer_of low high)))
  later-length state flag is Unknown high l h alive = unknown state flag alive
  later-length state flag is Nothing Unknown l h alive = unknown state flag alive
  later-length state flag is (UpTo m) Unknown l h alive = unknown state flag alive
  later-length state flag is Long Unknown l h alive = unknown state flag alive
  later-length state flag is Nothing Nothing l h alive = nothing state flag is l h
  later-length state flag is Nothing (UpTo n) l h alive =
      up state n flag h.0 (some-high a true state n h.1.some) (within-both state n (none-within (next_state a state 0) n l) h.1.within)
  later-length state flag is Nothing Long l h alive =
      long state (suc h.bits) (suc h.most) flag (let m = h.many in omega (arith, m)) (some-high a true state h.bits h.some)
      (within-both state h.most (none-within (next_state a state 0) h.most l) h.within)
  later-length state flag is (UpTo m) Nothing l h alive =
      up state m flag l.0 (some-low a true state m l.1.some) (within-both state m l.1.within (none-within (next_state a state 1) m h))
  later-length state flag is (UpTo m) (UpTo n) l h alive = elim (cases_lt m n) [
    | inl less ↦
        let e : max m n ≡ n = omega (arith, less) in
        rw e (up state n flag h.0 (some-high a true state n h.1.some) (within-both state n (within-more (next_state a state 0) m n (omega (arith, less)) l.1.within) h.1.within))
    | inr more ↦
        let e : max m n ≡ m = omega (arith, more) in
        rw e (up state m flag l.0 (some-low a true state m l.1.some) (within-both state m l.1.within (within-more (next_state a state 1) n m (omega (arith, more)) h.1.within)))
  ]
  later-length state flag is (UpTo m) Long l h alive =
      long state (suc h.bits) (suc (m + h.most)) flag (let b = h.many in omega (arith, b)) (some-high a true state h.bits h.some)
      (within-both state (m + h.most) (within-more (next_state a state 0) m (m + h.most) (omega arith) l.1.within)
      (within-more (next_state a state 1) h.most (m + h.most) (omega arith) h.within))
  later-length state flag is Long Nothing l h alive =
      long state (suc l.bits) (suc l.most) flag (let m = l.many in omega (arith, m)) (some-low a true state l.bits l.some)
      (within-both state l.most l.within (none-within (next_state a state 1) l.most h))
  later-length state flag is Long (UpTo n) l h alive =
      long state (suc l.bits) (suc (n + l.most)) flag (let b = l.many in omega (arith, b)) (some-low a true state l.bits l.some)
      (within-both state (n + l.most) (within-more (next_state a state 0) l.most (n + l.most) (omega arith) l.within)
      (within-more (next_state a state 1) n (n + l.most) (omega arith) h.1.within))
  later-length state flag is Long Long l h alive =
      long state (suc l.bits) (suc (h.most + l.most)) flag (let b = l.many in omega (arith, b)) (some-low a true state l.bits l.some)
      (within-both state (h.most + l.most) (within-more (next_state a state 0) l.most (h.most + l.most) (omega arith) l.within)
      (within-more (next_state a state 1) h.most (h.most + l.most) (omega arith) h.within))
