-- The least number with a property that is decided, where numbers with it are bounded. It belongs beside `below` in game_laws.
use Rattle.std.proofs.Common.{◌⊎◌, inl, inr, ℕ, zero, suc, ◌<◌, subst, arith}
use Rattle.game_laws.proofs.DecideLemmas.{Decided, number_same}

-- the least number with the property
pub record IsFirstWith (P : ℕ → Type 0) : Type 0 where
  pub number : ℕ
  pub has : P number
  pub least : (k : ℕ) → k < number → P k → ⊥

NoneBelow : (ℕ → Type 0) → ℕ → Type 0
NoneBelow P n = (k : ℕ) → k < n → P k → ⊥

one_more : (P : ℕ → Type 0) (n : ℕ) → NoneBelow P n → (P n → ⊥) → NoneBelow P (suc n)
unfolding NoneBelow
one_more P n none off k low h = elim (number_same k n) [ inl e ↦ off (subst P e h) | inr ne ↦ none k (omega (arith, ne, low)) h ]

next : (P : ℕ → Type 0) (n : ℕ) → IsFirstWith P ⊎ NoneBelow P n → Decided (P n) → IsFirstWith P ⊎ NoneBelow P (suc n)
unfolding NoneBelow
next P n (inl h) d = inl h
next P n (inr none) (inl h) = inl (record { number = n; has = h; least = none })
next P n (inr none) (inr off) = inr (one_more P n none off)

first_below : (P : ℕ → Type 0) → ((k : ℕ) → Decided (P k)) → (n : ℕ) → IsFirstWith P ⊎ NoneBelow P n
unfolding NoneBelow
first_below P d zero = inr (λ k low h. omega (arith, low))
first_below P d (suc n) = next P n (first_below P d n) (d n)

-- where each number with the property is below a bound, there is a least, or there is none
pub first_with : (P : ℕ → Type 0) → ((k : ℕ) → Decided (P k)) → (bound : ℕ) → ((k : ℕ) → P k → k < bound) → IsFirstWith P ⊎ ((k : ℕ) → P k → ⊥)
unfolding NoneBelow
first_with P d bound low = elim (first_below P d bound) [ inl h ↦ inl h | inr none ↦ inr (λ k h. none k (low k h) h) ]

-- so it is decided whether there is one
pub some_with : (P : ℕ → Type 0) → ((k : ℕ) → Decided (P k)) → (bound : ℕ) → ((k : ℕ) → P k → k < bound) → Decided ((k : ℕ) × P k)
some_with P d bound low = elim (first_with P d bound low) [ inl h ↦ inl (h.number, h.has) | inr none ↦ inr (λ h. none h.0 h.1) ]
