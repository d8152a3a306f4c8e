-- The least and the greatest number of one bit more.
use Rattle.std.proofs.Common.{◌≡◌, ◌≢◌, ◌⊎◌, ℕ, suc, ◌+◌, ◌-◌, ◌^◌, ◌<◌, ◌≤◌, Bool, true, false, arith, inl, inr, refl, subst, Option, Some, None}
use Rattle.auto_core.specs.Automaton.{Automaton, next_state, is_final}
use Rattle.auto_numbers.specs.Reading.{Leads, LeadsNone, LeadsSome, LeadsLeast, LeadsMost, LeadsMostOrNone}
use Rattle.auto_numbers.proofs.Readings.{after-zero, leads-low, led-low, leads-high, led-high, Split, begins_0, begins_1, split, doubled}

same-or-not : (b c : Bool) → (b ≡ c) ⊎ (b ≢ c)
same-or-not true true = inl refl
same-or-not false false = inl refl
same-or-not true false = inr (λ e. cc)
same-or-not false true = inr (λ e. cc)

module _ (a : Automaton) (flag : Bool) (state : ℕ) where
  -- no bit is left
  pub leads-zero : (t : ℕ) → is_final a state ≡ flag → Leads a flag state 0 t
  leads-zero t is = rw (after-zero a state t) is

  pub led-zero : (t : ℕ) → Leads a flag state 0 t → is_final a state ≡ flag
  led-zero t leads = rw (after-zero a state t) at leads

  pub some-zero : is_final a state ≡ flag → LeadsSome a flag state 0
  some-zero is = record { number = 0; small = omega arith; leads = leads-zero 0 is }

  pub least-zero : (low : ℕ) → low < 2 ^ 0 → is_final a state ≡ flag → LeadsLeast a flag state 0 low 0
  least-zero low small is = record { small = omega arith; from = omega (arith, small); leads = leads-zero 0 is; least = λ u from h leads. omega arith }

  pub most-zero : is_final a state ≡ flag → LeadsMost a flag state 0 0
  most-zero is = record { small = omega arith; leads = leads-zero 0 is; most = λ u h leads. omega (arith, h) }

  pub none-zero : (low : ℕ) → (is_final a state ≡ flag → ⊥) → LeadsNone a flag state 0 low
  none-zero low not t from small leads = not (led-zero t leads)

  pub none-zero-not : is_final a state ≡ flag → LeadsNone a flag state 0 0 → ⊥
  none-zero-not is none = none 0 (omega arith) (omega arith) (leads-zero 0 is)

  pub not-none-zero : (LeadsNone a flag state 0 0 → ⊥) → is_final a state ≡ flag
  not-none-zero not = elim (same-or-not (is_final a state) flag) [
    | inl is ↦ is
    | inr other ↦ absurd (not (none-zero 0 other))
  ]

  -- one bit more
  pub some-low : (bits : ℕ) → LeadsSome a flag (next_state a state 0) bits → LeadsSome a flag state (suc bits)
  some-low bits some = record {
    number = some.number;
    small = let h = some.small in let e = doubled bits in omega (arith, h, e);
    leads = leads-low a flag state bits some.number some.small some.leads;
  }

  pub some-high : (bits : ℕ) → LeadsSome a flag (next_state a state 1) bits → LeadsSome a flag state (suc bits)
  some-high bits some = record {
    number = 2 ^ bits + some.number;
    small = let h = some.small in let e = doubled bits in omega (arith, h, e);
    leads = leads-high a flag state bits some.number some.small some.leads;
  }

  pub none-behind-0 : (bits : ℕ) → LeadsNone a flag state (suc bits) 0 → LeadsNone a flag (next_state a state 0) bits 0
  none-behind-0 bits none t from small leads = none t from (let e = doubled bits in omega (arith, small, e)) (leads-low a flag state bits t small leads)

  pub none-behind-1 : (bits : ℕ) → LeadsNone a flag state (suc bits) 0 → LeadsNone a flag (next_state a state 1) bits 0
  none-behind-1 bits none t from small leads =
      none (2 ^ bits + t) (omega arith) (let e = doubled bits in omega (arith, small, e)) (leads-high a flag state bits t small leads)

module _ (a : Automaton) (flag : Bool) (state : ℕ) {n bits : ℕ} (more : n ≡ suc bits) where
  pub least-high : (from found : ℕ) → 2 ^ bits ≤ from → LeadsLeast a flag (next_state a state 1) bits (from - 2 ^ bits) found
      → LeadsLeast a flag state n from (2 ^ bits + found)
  least-high from found past is = rw more (record {
    small = let h = is.small in let e = doubled bits in omega (arith, h, e);
    from = let h = is.from in omega (arith, h, past);
    leads = leads-high a flag state bits found is.small is.leads;
    least = λ u above small leads. at u above leads (split bits u small);
  })
    where
      at : (u : ℕ) → from ≤ u → Leads a flag state (suc bits) u → Split bits u → 2 ^ bits + found ≤ u
      at u above leads (begins_0 below) = absurd (omega (arith, above, below, past))
      at u above leads (begins_1 rest below is') =
          let h = is.least rest (omega (arith, above, is', past)) below (led-high a flag state bits rest below (subst (Leads a flag state (suc bits)) is' leads)) in
          omega (arith, h, is')

  pub none-high : (from : ℕ) → 2 ^ bits ≤ from → LeadsNone a flag (next_state a state 1) bits (from - 2 ^ bits) → LeadsNone a flag state n from
  none-high from past none = rw more (λ u above small leads. at u above leads (split bits u small))
    where
      at : (u : ℕ) → from ≤ u → Leads a flag state (suc bits) u → Split bits u → ⊥
      at u above leads (begins_0 below) = absurd (omega (arith, above, below, past))
      at u above leads (begins_1 rest below is') =
          none rest (omega (arith, above, is', past)) below (led-high a flag state bits rest below (subst (Leads a flag state (suc bits)) is' leads))

  pub least-low : (from found : ℕ) → LeadsLeast a flag (next_state a state 0) bits from found → LeadsLeast a flag state n from found
  least-low from found is = rw more (record {
    small = let h = is.small in let e = doubled bits in omega (arith, h, e);
    from = is.from;
    leads = leads-low a flag state bits found is.small is.leads;
    least = λ u above small leads. at u above leads (split bits u small);
  })
    where
      at : (u : ℕ) → from ≤ u → Leads a flag state (suc bits) u → Split bits u → found ≤ u
      at u above leads (begins_0 below) = is.least u above below (led-low a flag state bits u below leads)
      at u above leads (begins_1 rest below is') = let h = is.small in omega (arith, h, is')

  pub least-across : (from found : ℕ) → from < 2 ^ bits → LeadsNone a flag (next_state a state 0) bits from
      → LeadsLeast a flag (next_state a state 1) bits 0 found → LeadsLeast a flag state n from (2 ^ bits + found)
  least-across from found under none is = rw more (record {
    small = let h = is.small in let e = doubled bits in omega (arith, h, e);
    from = omega (arith, under);
    leads = leads-high a flag state bits found is.small is.leads;
    least = λ u above small leads. at u above leads (split bits u small);
  })
    where
      at : (u : ℕ) → from ≤ u → Leads a flag state (suc bits) u → Split bits u → 2 ^ bits + found ≤ u
      at u above leads (begins_0 below) = absurd (none u above below (led-low a flag state bits u below leads))
      at u above leads (begins_1 rest below is') =
          let h = is.least rest (omega arith) below (led-high a flag state bits rest below (subst (Leads a flag state (suc bits)) is' leads)) in
          omega (arith, h, is')

  pub none-both : (from : ℕ) → LeadsNone a flag (next_state a state 0) bits from → LeadsNone a flag (next_state a state 1) bits 0
      → LeadsNone a flag state n from
  none-both from none none' = rw more (λ u above small leads. at u above leads (split bits u small))
    where
      at : (u : ℕ) → from ≤ u → Leads a flag state (suc bits) u → Split bits u → ⊥
      at u above leads (begins_0 below) = none u above below (led-low a flag state bits u below leads)
      at u above leads (begins_1 rest below is') = none' rest (omega arith) below (led-high a flag state bits rest below (subst (Leads a flag state (suc bits)) is' leads))

  pub most-high : (found : ℕ) → LeadsMost a flag (next_state a state 1) bits found → LeadsMost a flag state n (2 ^ bits + found)
  most-high found is = rw more (record {
    small = let h = is.small in let e = doubled bits in omega (arith, h, e);
    leads = leads-high a flag state bits found is.small is.leads;
    most = λ u small leads. at u leads (split bits u small);
  })
    where
      at : (u : ℕ) → Leads a flag state (suc bits) u → Split bits u → u ≤ 2 ^ bits + found
      at u leads (begins_0 below) = omega (arith, below)
      at u leads (begins_1 rest below is') =
          let h = is.most rest below (led-high a flag state bits rest below (subst (Leads a flag state (suc bits)) is' leads)) in omega (arith, h, is')

  pub most-low : (found : ℕ) → LeadsNone a flag (next_state a state 1) bits 0 → LeadsMost a flag (next_state a state 0) bits found → LeadsMost a flag state n found
  most-low found none is = rw more (record {
    small = let h = is.small in let e = doubled bits in omega (arith, h, e);
    leads = leads-low a flag state bits found is.small is.leads;
    most = λ u small leads. at u leads (split bits u small);
  })
    where
      at : (u : ℕ) → Leads a flag state (suc bits) u → Split bits u → u ≤ found
      at u leads (begins_0 below) = is.most u below (led-low a flag state bits u below leads)
      at u leads (begins_1 rest below is') = absurd (none rest (omega arith) below (led-high a flag state bits rest below (subst (Leads a flag state (suc bits)) is' leads)))

  pub most-rest : (found : Option ℕ) → LeadsNone a flag (next_state a state 1) bits 0 → LeadsMostOrNone a flag (next_state a state 0) bits found
      → LeadsMostOrNone a flag state n found
  most-rest (Some found) none is = most-low found none is
  most-rest None none is = none-both 0 is none
