-- Reading a number from the state behind its sign tells whether it is in the set.
use Rattle.std.proofs.Common.{◌≡◌, ◌↔◌, ℕ, zero, suc, pos, ◌^◌, ◌<◌, Bool, true, false, nat_eq, [], ◌∷◌, length, All, Option, Some, None, IsTrue, arith, inl, inr, refl, sym, ap, ◌∙◌, subst}
use Rattle.std.proofs.lemmas.Bool.{cases_lt, cases_Bool}
use Rattle.std.proofs.lemmas.Bool.Decides.{nat_tests}
use Rattle.std.proofs.lemmas.Nat.Bits.{bit_at_above}
use Rattle.track_word.specs.Word.{letters_below, letter_of, spelled, FitsBelow, BitsSpell, RepeatKeepsValues, EqualValuesEqualWords}
use Rattle.auto_core.specs.Automaton.{Automaton, IsAutomaton, Accepts, first_state, run, is_final}
use Rattle.auto_core.specs.Integers.{DecidesIntegers}
use Rattle.auto_core.proofs.Members.{accepted-spelled}
use Rattle.auto_numbers.specs.declared.bits.TheConstants.{MOST_BITS}
use Rattle.auto_numbers.specs.Numbers.{Has, IsInOrNot, IsNext, IsNextFound}
use Rattle.auto_numbers.specs.Outlook.{IsSide}
use Rattle.auto_numbers.specs.Reading.{after, Leads, LeadsLeastOrNone}
use Rattle.auto_numbers.proofs.Readings.{letter-is, below-power}

false-or : (b : Bool) → (b ≡ true → ⊥) → b ≡ false
false-or true not = absurd (not refl)
false-or false not = refl

all-one : {X : Type 0} (P : X → Type 0) (x : X) → P x → All P (x ∷ [])
all-one P x p zero d inside = p
all-one P x p (suc k) d inside = absurd (omega (arith, inside))

module _ (a : Automaton) (valid : IsAutomaton a) (one : length a.tracks ≡ 1) (decides : DecidesIntegers a) (spell : BitsSpell) (keeps : RepeatKeepsValues)
    (equal : EqualValuesEqualWords) where
  start : ℕ
  start = first_state a 0

  fits : (bits t : ℕ) → t < 2 ^ bits → All (FitsBelow bits) (pos t ∷ [])
  fits bits t small = all-one (FitsBelow bits) (pos t) small

  sign : (bits t : ℕ) → t < 2 ^ bits → letter_of (pos t ∷ []) bits ≡ 0
  sign bits t small = letter-is t bits ∙ bit_at_above t bits bits small (omega arith)

  is-word : (bits t : ℕ) → t < 2 ^ bits → Accepts a (spelled (pos t ∷ []) bits) ≡ IsTrue (is_final a (after a start bits t))
  unfolding start after
  is-word bits t small = ap (λ letter. IsTrue (is_final a (run a (first_state a letter) (letters_below (pos t ∷ []) bits)))) (sign bits t small)

  pub has-led : (bits t : ℕ) → t < 2 ^ bits → Has a t → Leads a true (first_state a 0) bits t
  unfolding start
  has-led bits t small has =
      subst (λ (T : Type 0). T) (is-word bits t small) ((accepted-spelled a (pos t ∷ []) bits valid (sym one) decides (fits bits t small) spell keeps equal).1 has)

  pub led-has : (bits t : ℕ) → t < 2 ^ bits → Leads a true (first_state a 0) bits t → Has a t
  unfolding start
  led-has bits t small leads =
      (accepted-spelled a (pos t ∷ []) bits valid (sym one) decides (fits bits t small) spell keeps equal).0
      (subst (λ (T : Type 0). T) (sym (is-word bits t small)) leads)

  pub side-led : (flag : Bool) (bits t : ℕ) → t < 2 ^ bits → IsSide a flag t → Leads a flag (first_state a 0) bits t
  side-led true bits t small is = has-led bits t small is
  side-led false bits t small is = false-or (is_final a (after a (first_state a 0) bits t)) (λ e. is (led-has bits t small e))

  pub led-side : (flag : Bool) (bits t : ℕ) → t < 2 ^ bits → Leads a flag (first_state a 0) bits t → IsSide a flag t
  led-side true bits t small leads = led-has bits t small leads
  led-side false bits t small leads = λ has. let other = has-led bits t small has in cc

  pub next-found : (flag : Bool) (low : ℕ) (found : Option ℕ) → LeadsLeastOrNone a flag (first_state a 0) MOST_BITS low found
      → IsNextFound (IsSide a flag) low found
  next-found flag low None none = λ t from small is. none t from small (side-led flag MOST_BITS t small is)
  next-found flag low (Some found) least = record {
    from = least.from;
    small = least.small;
    holds = led-side flag MOST_BITS found least.small least.leads;
    least = λ t from is. elim (cases_lt t (2 ^ MOST_BITS)) [
      | inl small ↦ least.least t from small (side-led flag MOST_BITS t small is)
      | inr large ↦ let h = least.small in omega (arith, h, large)
    ];
  }

  pub in-or-not : (t : ℕ) → IsInOrNot a t
  in-or-not t = elim (cases_Bool (is_final a (after a (first_state a 0) t t))) [
    | inl is ↦ inl (led-has t t (below-power t) is)
    | inr other ↦ inr (led-side false t t (below-power t) other)
  ]

-- where the automaton and the flag are known
pub next-member : (a b : Automaton) (flag : Bool) → b ≡ a → flag ≡ true → (low : ℕ) (found : Option ℕ) → IsNextFound (IsSide b flag) low found
    → IsNextFound (Has a) low found
next-member a b flag same is low found next = rw is at (subst (λ x. IsNextFound (IsSide x flag) low found) same next)

pub next-other : (a b : Automaton) (flag : Bool) → b ≡ a → flag ≡ false → (low : ℕ) (found : Option ℕ) → IsNextFound (IsSide b flag) low found
    → IsNextFound (λ t. ¬ Has a t) low found
next-other a b flag same is low found next = rw is at (subst (λ x. IsNextFound (IsSide x flag) low found) same next)

-- a number is in the set where the next one from it on is it
pub has-next : (a : Automaton) (number found : ℕ) → IsNext (Has a) number found → IsTrue (nat_eq found number) ↔ Has a number
has-next a number found next = (
  λ test. let e : found ≡ number = grind (arith, nat_tests, test) in subst (Has a) e next.holds,
  λ member.
      let h = next.least number (omega arith) member in
      let l = next.from in
      let e : found ≡ number = omega (arith, h, l) in
      grind (arith, nat_tests, e),
)
