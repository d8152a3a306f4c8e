-- The numbers of states of sets, and the greatest of them.
use Rattle.std.proofs.Common.{◌≡◌, ℕ, ◌+◌, ◌<◌, ◌≤◌, max, List, length, get_or, Option, Some, None, IfSome, inl, inr, refl, sym, subst, arith}
use Rattle.std.specs.Borrow.{Bor}
use Rattle.std.specs.List.{Contains}
use Rattle.std.specs.Prelude.{option_copied}
use Rattle.std.proofs.lemmas.Bool.{cases_lt}
use Rattle.std.proofs.lemmas.List.Elements.{at_from_Contains}
use Rattle.limits.specs.declared.numbers.TheConstants.{MOST_STATES}
use Rattle.auto_core.specs.Automaton.{Automaton}
use Rattle.rule_formula.specs.Fits.{masks_of}
use Rattle.rule_formula.proofs.MasksTheorem.{masks_are}
use Rattle.winning_sets.specs.Claimed.{IsValid}
use Rattle.winning_sets.specs.Solve.{IsMostStates, Solution, end_of, kept_at, reach_at, states_of}
use Rattle.winning_sets.proofs.ValidLemmas.{valid_formed, valid_only, valid_reached}

-- the greater of the number so far and one more is at least each number that is gone through
pub within_more : (f : ℕ → ℕ) (n most number next : ℕ) → ((j : ℕ) → j < n → f j ≤ most) → f n ≤ number → next ≡ max most number → (j : ℕ) → j < n + 1 → f j ≤ next
within_more f n most number next so_far here is j less =
    elim (cases_lt j n) [
      | inl before ↦ let old = so_far j before in omega (arith, old, is)
      | inr last ↦
          let at : n ≡ j = omega (arith, last, less) in
          subst (λ k. f k ≤ next) at (omega (arith, here, is))
    ]

-- a number that is at least the states of the set, if there is one, is at least the states where there may be none
pub states_within : (o : Option Automaton) (n : ℕ) → ((a : Automaton) → o ≡ Some a → length a.accept ≤ n) → states_of o ≤ n
states_within None n each = omega arith
states_within (Some a) n each = each a refl

-- each set of a ply is the set of one of the masks of the position
pub ply_within : (s : Solution) → IsValid s → (masks : List ℕ) → masks ≡ masks_of s.position → (ply most : ℕ)
    → ((j : ℕ) → j < length masks → states_of (kept_at s ply (get_or masks j 0)) ≤ most) → (mask : ℕ) → states_of (kept_at s ply mask) ≤ most
ply_within s valid masks is ply most each mask =
    states_within (kept_at s ply mask) most (λ a some.
    let game = (valid_only s valid ply mask a some).1 in
    let among = at_from_Contains masks mask (subst (λ l. Contains l mask) (sym is) ((masks_are s.position mask).1 game)) in
    let found = subst (λ m. states_of (kept_at s ply m) ≤ most) (among.2 0) (each among.0 among.1) in
    subst (λ (o : Option Automaton). states_of o ≤ most) some found)

-- each kept set is one of a ply up to the last
pub most_is : (s : Solution) → IsValid s → (count : ℕ) → ((i : ℕ) → i < end_of s + 1 → (mask : ℕ) → states_of (kept_at s i mask) ≤ count)
    → ((n : ℕ) → ((ply mask : ℕ) → states_of (kept_at s ply mask) ≤ n) → count ≤ n) → IsMostStates s count
most_is s valid count within least = record {
  within = λ ply mask a some.
      let high = (valid_only s valid ply mask a some).0 in
      subst (λ (o : Option Automaton). states_of o ≤ count) some (within ply (omega (arith, high)) mask);
  least = λ n each. least n (λ ply mask. states_within (kept_at s ply mask) n (each ply mask));
}

-- each set has few states, and so has the one that has most
pub most_few : {s : Solution} → IsValid s → {count : ℕ} → IsMostStates s count → count ≤ MOST_STATES
most_few {s} valid most = most.least MOST_STATES (λ ply mask a some. (valid_formed s valid ply mask a some).few)

pub kept_few : (s : Solution) → IsValid s → (ply mask : ℕ) (o : Option (Bor Automaton)) → option_copied o ≡ kept_at s ply mask → IfSome o (λ a. length a.now.accept ≤ MOST_STATES)
kept_few s valid ply mask None is = tt
kept_few s valid ply mask (Some a) is = (valid_formed s valid ply mask a.now (sym is)).few

pub reached_few : (s : Solution) → IsValid s → (ply mask : ℕ) (o : Option (Bor Automaton)) → option_copied o ≡ reach_at s ply mask → IfSome o (λ a. length a.now.accept ≤ MOST_STATES)
reached_few s valid ply mask None is = tt
reached_few s valid ply mask (Some a) is = valid_reached s valid ply mask a.now (sym is)
