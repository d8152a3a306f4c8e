-- Filtered lists, and ascending lists by their elements. Other crates cite these lemmas.
use Rattle.std.proofs.Common.{◌≡◌, ◌≢◌, ◌⊎◌, ℕ, zero, suc, ◌<◌, ◌≤◌, ◌+◌, Bool, true, false, cond, List, [], ◌∷◌, length, get_or, Contains, AllPairs, arith, refl, sym, ap, ◌∙◌, subst, inl, inr}
use Rattle.std.specs.List.{filter, range_with_len}
use Rattle.std.specs.List.Sorted.{IsStrictlyIncreasing}
use Rattle.std.proofs.lemmas.Bool.{cases_eq}
use Rattle.std.proofs.lemmas.Bool.Decides.{Decides-eqb}
use Rattle.std.proofs.lemmas.Cmp.{nat_eq_equiv}
use Rattle.std.proofs.lemmas.List.FromFn.{length-range_with_len, get_or-range_with_len}
use Rattle.std.proofs.lemmas.List.Elements.{All-filter, All-contains, All-contains_itself, filter_passes}
use Rattle.std.proofs.lemmas.List.Kept.{AllPairs-from_increasing, AllPairs-cons}
use Rattle.std.proofs.lemmas.Map.Made.{is_member-Decides, length-le_from_is_member, IsDistinct-from_AllPairs}

pub Contains-cons : {X : Type 0} (x : X) (xs : List X) (t : X) → Contains xs t → Contains (x ∷ xs) t
Contains-cons x xs t c = (suc c.0, let h = c.1 in omega arith, c.2)

pub Contains-cases : {X : Type 0} (x : X) (xs : List X) (t : X) → Contains (x ∷ xs) t → (x ≡ t) ⊎ Contains xs t
Contains-cases x xs t (zero, h, e) = inl e
Contains-cases x xs t (suc k, h, e) = inr (k, omega arith, e)

pub Contains-head : {X : Type 0} (x : X) (xs : List X) → Contains (x ∷ xs) x
Contains-head x xs = (0, omega arith, refl)

-- a list with no element, and one with some
pub no-element : (set : List ℕ) (element : ℕ) → set ≡ [] → Contains set element → ⊥
no-element set element none c = let there = subst (λ l. Contains l element) none c in let h = there.1 in omega arith

pub some-element : (set : List ℕ) → set ≢ [] → (element : ℕ) × Contains set element
some-element [] some = absurd (some refl)
some-element (element ∷ set) some = (element, Contains-head element set)

module _ {X : Type 0} (p : X → Bool) where
  kept : (b : Bool) (x : X) (ys : List X) (t : X) → Contains ys t → Contains (cond b (x ∷ ys) ys) t
  kept true x ys t c = Contains-cons x ys t c
  kept false x ys t c = c

  -- what is in a list and passes is in the filtered list, and nothing else
  pub Contains-filter : (xs : List X) (t : X) → Contains xs t → p t ≡ true → Contains (filter p xs) t
  Contains-filter [] t c passes = let h = c.1 in absurd (omega arith)
  Contains-filter (x ∷ xs) t c passes = elim (Contains-cases x xs t c) [
    | inl e ↦ subst (λ b. Contains (cond b (x ∷ filter p xs) (filter p xs)) t) (sym (ap p e ∙ passes)) (subst (Contains (x ∷ filter p xs)) e (Contains-head x (filter p xs)))
    | inr rest ↦ kept (p x) x (filter p xs) t (Contains-filter xs t rest passes)
  ]

  pub Contains-from_filter : (xs : List X) (t : X) → Contains (filter p xs) t → Contains xs t × (p t ≡ true)
  Contains-from_filter xs t c = (
    All-contains (Contains xs) (filter p xs) t (All-filter p (Contains xs) xs (All-contains_itself xs)) c,
    All-contains (λ x. p x ≡ true) (filter p xs) t (filter_passes p xs) c,
  )

  fewer : (b : Bool) (x : X) (ys : List X) (n : ℕ) → length ys ≤ n → length (cond b (x ∷ ys) ys) ≤ suc n
  fewer true x ys n h = omega arith
  fewer false x ys n h = omega arith

  pub length-filter_le : (xs : List X) → length (filter p xs) ≤ length xs
  length-filter_le [] = omega arith
  length-filter_le (x ∷ xs) = fewer (p x) x (filter p xs) (length xs) (length-filter_le xs)

  -- where something does not pass, fewer are left
  pub length-filter_less : (xs : List X) (k : ℕ) (d : X) → k < length xs → p (get_or xs k d) ≡ false → length (filter p xs) < length xs
  length-filter_less [] k d h fails = absurd (omega arith)
  length-filter_less (x ∷ xs) zero d h fails =
      subst (λ b. length (cond b (x ∷ filter p xs) (filter p xs)) < suc (length xs)) (sym fails) (let l = length-filter_le xs in omega arith)
  length-filter_less (x ∷ xs) (suc k) d h fails =
      let rest = length-filter_less xs k d (omega arith) fails in
      let l = fewer (p x) x (filter p xs) (length (filter p xs)) (omega arith) in
      omega (arith, rest, l)

-- numbers from 0 on
pub Contains-range : (n t : ℕ) → t < n → Contains (range_with_len 0 n) t
Contains-range n t h = (t, let l = length-range_with_len 0 n in omega (arith, l), get_or-range_with_len 0 n t t h ∙ (let e : 0 + t ≡ t = omega arith in e))

shifted : (a b k : ℕ) → a + k ≡ b → (n : ℕ) → (t : ℕ) → Contains (range_with_len b n) t → (a + k ≤ t) × (t < b + n)
shifted a b k e zero t c = let h = c.1 in absurd (omega arith)
shifted a b k e (suc n) t c = elim (Contains-cases b (range_with_len (b + 1) n) t c) [
  | inl here ↦ (omega arith, omega arith)
  | inr rest ↦ let r = shifted a (b + 1) (k + 1) (omega arith) n t rest in let low = r.0 in let high = r.1 in (omega arith, omega arith)
]

pub Contains-from_range : (n t : ℕ) → Contains (range_with_len 0 n) t → t < n
Contains-from_range n t c = let h = (shifted 0 0 0 refl n t c).1 in omega arith

pub increasing-range : (n : ℕ) → IsStrictlyIncreasing (range_with_len 0 n)
increasing-range n k h =
    let l = length-range_with_len 0 n in
    let low = get_or-range_with_len 0 n k 0 (omega (arith, l, h)) in
    let high = get_or-range_with_len 0 n (k + 1) 0 (omega (arith, l, h)) in
    omega (arith, low, high)

-- each number is below all later ones
Ascends : List ℕ → Type 0
Ascends [] = Unit {0}
Ascends (x ∷ xs) = ((t : ℕ) → Contains xs t → x < t) × Ascends xs

Ascends-from : (xs : List ℕ) → AllPairs (λ x y. x < y) xs → Ascends xs
unfolding Ascends
Ascends-from [] pairs = tt
Ascends-from (x ∷ xs) pairs = (
  (λ t c. subst (λ n. x < n) c.2 (pairs 0 (suc c.0) t (omega arith) (let h = c.1 in omega arith))),
  Ascends-from xs (λ i j d less h. pairs (suc i) (suc j) d (omega arith) (omega arith)),
)

same_lists : (xs ys : List ℕ) → Ascends xs → Ascends ys → ((t : ℕ) → Contains xs t → Contains ys t) → ((t : ℕ) → Contains ys t → Contains xs t) → xs ≡ ys
unfolding Ascends
same_lists [] [] a b f g = refl
same_lists [] (y ∷ ys) a b f g = let h = (g y (Contains-head y ys)).1 in absurd (omega arith)
same_lists (x ∷ xs) [] a b f g = let h = (f x (Contains-head x xs)).1 in absurd (omega arith)
same_lists (x ∷ xs) (y ∷ ys) a b f g =
    let heads : x ≡ y = elim (Contains-cases y ys x (f x (Contains-head x xs))) [
      | inl e ↦ sym e
      | inr later ↦ elim (Contains-cases x xs y (g y (Contains-head y ys))) [
        | inl e ↦ e
        | inr other ↦ let l = b.0 x later in let m = a.0 y other in absurd (omega arith)
      ]
    ] in
    let tails : xs ≡ ys = same_lists xs ys a.1 b.1
    (λ t c. elim (Contains-cases y ys t (f t (Contains-cons x xs t c))) [ inl e ↦ let l = a.0 t c in absurd (omega arith) | inr rest ↦ rest ])
    (λ t c. elim (Contains-cases x xs t (g t (Contains-cons y ys t c))) [ inl e ↦ let l = b.0 t c in absurd (omega arith) | inr rest ↦ rest ]) in
    λ i. heads i ∷ tails i

-- ascending lists with the same elements are equal
pub same_sets : (xs ys : List ℕ) → IsStrictlyIncreasing xs → IsStrictlyIncreasing ys → ((t : ℕ) → Contains xs t → Contains ys t)
    → ((t : ℕ) → Contains ys t → Contains xs t) → xs ≡ ys
same_sets xs ys a b f g = same_lists xs ys (Ascends-from xs (AllPairs-from_increasing xs a)) (Ascends-from ys (AllPairs-from_increasing ys b)) f g

different : (xs : List ℕ) → IsStrictlyIncreasing xs → AllPairs (λ x y. x ≢ y) xs
different xs a i j d less h e = let l = AllPairs-from_increasing xs a i j d less h in omega (arith, l, e)

at_most : (xs ys : List ℕ) → AllPairs (λ x y. x ≢ y) xs → ((t : ℕ) → Contains xs t → Contains ys t) → length xs ≤ length ys
at_most xs ys apart among =
    length-le_from_is_member nat_eq_equiv xs ys (IsDistinct-from_AllPairs Decides-eqb xs apart)
    (λ q h. (is_member-Decides Decides-eqb ys q).1 (among q ((is_member-Decides Decides-eqb xs q).0 h)))

-- a list that has more is longer
pub length-wider : (xs ys : List ℕ) (t : ℕ) → IsStrictlyIncreasing xs → ((s : ℕ) → Contains xs s → Contains ys s) → Contains ys t → (Contains xs t → ⊥) → length xs < length ys
length-wider xs ys t a among there new =
    let apart : AllPairs (λ x y. x ≢ y) (t ∷ xs) = AllPairs-cons (λ (x y : ℕ). x ≢ y) t xs (λ i d h e. new (i, h, fixed i d h e)) (different xs a) in
    let most = at_most (t ∷ xs) ys apart (λ s c. elim (Contains-cases t xs s c) [ inl e ↦ subst (Contains ys) e there | inr rest ↦ among s rest ]) in
    omega (arith, most)
  where
    fixed : (i d : ℕ) → i < length xs → t ≡ get_or xs i d → get_or xs i t ≡ t
    fixed i d h e = same_default xs i t d h ∙ sym e
      where
        same_default : (xs : List ℕ) (i d e : ℕ) → i < length xs → get_or xs i d ≡ get_or xs i e
        same_default [] i d e h = absurd (omega arith)
        same_default (x ∷ xs) zero d e h = refl
        same_default (x ∷ xs) (suc i) d e h = same_default xs i d e (omega arith)

-- whether a number is in a list
pub in_or_not : (xs : List ℕ) (t : ℕ) → Contains xs t ⊎ (Contains xs t → ⊥)
in_or_not [] t = inr (λ c. let h = c.1 in omega arith)
in_or_not (x ∷ xs) t = elim (cases_eq x t) [
  | inl e ↦ inl (subst (Contains (x ∷ xs)) e (Contains-head x xs))
  | inr ne ↦ elim (in_or_not xs t) [
    | inl c ↦ inl (Contains-cons x xs t c)
    | inr none ↦ inr (λ c. elim (Contains-cases x xs t c) [ inl e ↦ ne e | inr rest ↦ none rest ])
  ]
]

-- an element that is not in the other list, or none
pub all_in_or_one_not : (ys xs : List ℕ) → ((t : ℕ) → Contains ys t → Contains xs t) ⊎ ((t : ℕ) × Contains ys t × (Contains xs t → ⊥))
all_in_or_one_not [] xs = inl (λ t c. let h = c.1 in absurd (omega arith))
all_in_or_one_not (y ∷ ys) xs = elim (in_or_not xs y) [
  | inr new ↦ inr (y, Contains-head y ys, new)
  | inl old ↦ elim (all_in_or_one_not ys xs) [
    | inl all ↦ inl (λ t c. elim (Contains-cases y ys t c) [ inl e ↦ subst (Contains xs) e old | inr rest ↦ all t rest ])
    | inr one ↦ inr (one.0, Contains-cons y ys one.0 one.1, one.2)
  ]
]
