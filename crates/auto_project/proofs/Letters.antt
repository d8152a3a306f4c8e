-- Letters over tracks, and over all of them but one.
use Rattle.std.proofs.Common.{◌≡◌, ◌≢◌, ◌⊎◌, ℕ, zero, suc, ◌<◌, ◌≤◌, ◌+◌, ◌-◌, ◌*◌, ◌%◌, ◌^◌, Bool, true, false, true≢false, not, nat_eq, cond, List, [], ◌∷◌, length, map, get_or, Contains, arith, refl, sym, ap, ◌∙◌, subst, inl, inr}
use Rattle.std.specs.Int.{bit_at}
use Rattle.std.specs.List.{All, filter, position_or_len}
use Rattle.std.specs.List.Sorted.{IsStrictlyIncreasing}
use Rattle.std.proofs.lemmas.Bool.{cases_eq, cases_lt, ne_eqb, eq-eqb}
use Rattle.std.proofs.lemmas.List.Elements.{Contains-get_or}
use Rattle.std.proofs.lemmas.List.Kept.{IsStrictlyIncreasing-filter}
use Rattle.std.proofs.lemmas.List.Sums.{position_or_len_is, fails_before_first}
use Rattle.std.proofs.lemmas.Nat.Bits.{bit_at-lt, bit_at-suc, bit_at_lowest, bit_at_above, bit_at_cat_low, bit_at_cat_high, same_from_bits_below}
use Rattle.track_word.specs.declared.tracks.Var.{Var}
use Rattle.track_word.specs.Tracks.{IsAscending, without_var, place, restrict}
use Rattle.track_word.proofs.LetterBits.{bit_cases, half, lowest}
use Rattle.letter_diagram.specs.Merged.{IsWithBit}
use Rattle.auto_core.proofs.Inverses.{place-has}
use Rattle.auto_core.proofs.Ascents.{place-at}
use Rattle.auto_core.proofs.Restricted.{restrict-below}
use Rattle.auto_project.specs.Lifted.{ReadsAs}
use Rattle.auto_project.specs.Subsets.{lengthened}
use Rattle.auto_project.proofs.Lists.{Contains-filter, Contains-from_filter, length-filter_less, length-filter_le}

-- the bits of a letter over some tracks
pub bit_at-restrict : (all some : List Var) (letter i : ℕ) (d : Var) → i < length some → bit_at (restrict all some letter) i ≡ bit_at letter (place all (get_or some i d))
bit_at-restrict all [] letter i d h = absurd (omega arith)
bit_at-restrict all (v ∷ vs) letter zero d h = bit_at_lowest (restrict all (v ∷ vs) letter) ∙ lowest (bit_at letter (place all v)) (restrict all vs letter) (bit_at-lt letter (place all v))
bit_at-restrict all (v ∷ vs) letter (suc i) d h =
    bit_at-suc (restrict all (v ∷ vs) letter) i ∙ ap (λ n. bit_at n i) (half (bit_at letter (place all v)) (restrict all vs letter) (bit_at-lt letter (place all v)))
    ∙ bit_at-restrict all vs letter i d (omega arith)

-- letters that agree up to the tracks that are read are read alike
pub restrict-agree : (all some : List Var) (bound x y : ℕ) → All (λ track. place all track < bound) some
    → ((k : ℕ) → k < bound → bit_at x k ≡ bit_at y k) → restrict all some x ≡ restrict all some y
restrict-agree all [] bound x y within agree = refl
restrict-agree all (v ∷ vs) bound x y within agree =
    let bit = agree (place all v) (within 0 v (omega arith)) in
    let more = restrict-agree all vs bound x y (λ i d h. within (suc i) d (omega arith)) agree in
    λ i. bit i + 2 * more i

-- where a track stands
pub place-below : (all : List Var) (v d : Var) (i : ℕ) → i < length all → (get_or all i d).0 ≡ v.0 → place all v < length all
place-below all v d i h e = elim (cases_lt (place all v) (length all)) [
  | inl less ↦ less
  | inr more ↦ absurd (true≢false (sym (eq-eqb (get_or all i d).0 v.0 e) ∙ fails_before_first (λ other. nat_eq other.0 v.0) all i d (omega arith)))
]

pub place-same : (all : List Var) (v w : Var) → v.0 ≡ w.0 → place all v ≡ place all w
place-same all v w e = ap (λ n. position_or_len (λ (other : Var). nat_eq other.0 n) all) e

-- a track that has no place comes after all
pub place-none : (all : List Var) (v : Var) → ((i : ℕ) (d : Var) → i < length all → (get_or all i d).0 ≢ v.0) → place all v ≡ length all
place-none all v none = position_or_len_is (λ other. nat_eq other.0 v.0) all (length all) v (omega arith)
    (λ k less. ne_eqb (get_or all k v).0 v.0 (none k v less)) (λ h. absurd (omega arith))

module _ (all : List Var) (x : Var) (up : IsAscending all) where
  other : Var → Bool
  other y = not (nat_eq y.0 x.0)

  names-filter : (ys : List Var) → map (λ (v : Var). v.0) (filter (λ (y : Var). not (nat_eq y.0 x.0)) ys) ≡ filter (λ n. not (nat_eq n x.0)) (map (λ (v : Var). v.0) ys)
  names-filter [] = refl
  names-filter (y ∷ ys) = by (not (nat_eq y.0 x.0)) (names-filter ys)
    where
      by : (b : Bool) → map (λ (v : Var). v.0) (filter (λ (z : Var). not (nat_eq z.0 x.0)) ys) ≡ filter (λ n. not (nat_eq n x.0)) (map (λ (v : Var). v.0) ys)
          → map (λ (v : Var). v.0) (cond b (y ∷ filter (λ (z : Var). not (nat_eq z.0 x.0)) ys) (filter (λ (z : Var). not (nat_eq z.0 x.0)) ys)) ≡ cond
          b (y.0 ∷ filter (λ n. not (nat_eq n x.0)) (map (λ (v : Var). v.0) ys)) (filter (λ n. not (nat_eq n x.0)) (map (λ (v : Var). v.0) ys))
      by true e = ap (λ l. y.0 ∷ l) e
      by false e = e

  pub ascending-without : IsAscending (without_var x all)
  ascending-without = subst IsStrictlyIncreasing (sym (names-filter all)) (IsStrictlyIncreasing-filter (λ n. not (nat_eq n x.0)) (map (λ (v : Var). v.0) all) up)

  negated : (b : Bool) → not b ≡ true → b ≡ false
  negated true h = absurd (true≢false (sym h))
  negated false h = refl

  -- a track that is left is one of all, and another one
  left-is : (i : ℕ) (d : Var) → i < length (without_var x all) → Contains all (get_or (without_var x all) i d) × ((get_or (without_var x all) i d).0 ≢ x.0)
  left-is i d h =
      let c = Contains-from_filter (λ (y : Var). not (nat_eq y.0 x.0)) all (get_or (without_var x all) i d) (Contains-get_or (without_var x all) i d h) in
      (c.0, λ e. true≢false (sym (eq-eqb (get_or (without_var x all) i d).0 x.0 e) ∙ negated (nat_eq (get_or (without_var x all) i d).0 x.0) c.1))

  -- another track is left
  is-left : (j : ℕ) (d : Var) → j < length all → (get_or all j d).0 ≢ x.0 → place (without_var x all) (get_or all j d) < length (without_var x all)
  is-left j d h ne =
      let v = get_or all j d in
      let c = Contains-filter (λ (y : Var). not (nat_eq y.0 x.0)) all (get_or all j d) (Contains-get_or all j d h) (ap not (ne_eqb (get_or all j d).0 x.0 ne)) in
      place-below (without_var x all) (get_or all j d) (get_or all j d) c.0 c.1 (ap (λ (u : Var). u.0) c.2)

  pub place-lost : (v : Var) → v.0 ≡ x.0 → place (without_var x all) v ≡ length (without_var x all)
  place-lost v e = place-none (without_var x all) v (λ i d h same. (left-is i d h).1 (same ∙ e))

  -- fewer tracks are left just if the variable is one of them
  pub length-without : length (without_var x all) ≤ length all
  length-without = length-filter_le (λ (y : Var). not (nat_eq y.0 x.0)) all

  pub lost-fewer : (j : ℕ) (d : Var) → j < length all → (get_or all j d).0 ≡ x.0 → length (without_var x all) < length all
  lost-fewer j d h e = length-filter_less (λ (y : Var). not (nat_eq y.0 x.0)) all j d h (ap not (eq-eqb (get_or all j d).0 x.0 e))

  -- all tracks stand among those that are left or right after
  pub places-left : All (λ track. place (without_var x all) track < length (without_var x all) + 1) all
  places-left i d h = elim (cases_eq (get_or all i d).0 x.0) [
    | inl e ↦ let p = place-lost (get_or all i d) e in omega (arith, p)
    | inr ne ↦ let p = is-left i d h ne in omega (arith, p)
  ]

  pub places-fit : length all ≤ 20 → All (λ track. place (without_var x all) track < 20) all
  places-fit few i d h = elim (cases_eq (get_or all i d).0 x.0) [
    | inl e ↦ let p = place-lost (get_or all i d) e in let l = lost-fewer i d h e in omega (arith, p, l)
    | inr ne ↦ let p = is-left i d h ne in let l = length-without in omega (arith, p, l)
  ]

  low_bit : (letter bit i : ℕ) → i < length (without_var x all) → bit_at (letter + bit * 2 ^ length (without_var x all)) i ≡ bit_at letter i
  low_bit letter bit i h =
      ap (λ n. bit_at n i) (let e : letter + bit * 2 ^ length (without_var x all) ≡ bit * 2 ^ length (without_var x all) + letter = omega arith in e)
      ∙ bit_at_cat_low bit (length (without_var x all)) letter i h

  lost_bit : (letter bit : ℕ) → letter < 2 ^ length (without_var x all) → bit < 2 → bit_at (letter + bit * 2 ^ length (without_var x all)) (length (without_var x all)) ≡ bit
  lost_bit letter bit h small =
      ap (λ n. bit_at n (length (without_var x all))) (let e : letter + bit * 2 ^ length (without_var x all) ≡ bit * 2 ^ length (without_var x all) + letter = omega arith in e)
      ∙ bit_at_cat_high bit (length (without_var x all)) letter (length (without_var x all)) h (omega arith)
      ∙ ap (bit_at bit) (let e : length (without_var x all) - length (without_var x all) ≡ 0 = omega arith in e) ∙ bit_at_lowest bit ∙ (let e : bit % 2 ≡ bit = omega arith in e)

  -- a letter with a bit on the lost track is read as the longer letter
  pub lengthened-with : {letter : ℕ} (bit : ℕ) {longer : ℕ} → letter < 2 ^ length (without_var x all) → bit < 2 → IsWithBit longer letter (length (without_var x all)) bit
      → restrict (without_var x all) all longer ≡ lengthened all (without_var x all) bit letter
  lengthened-with {letter} bit {longer} h small is =
      restrict-agree (without_var x all) all (length (without_var x all) + 1) longer (letter + bit * 2 ^ length (without_var x all)) places-left
      (λ k below. elim (cases_eq k (length (without_var x all))) [
        | inl e ↦ ap (bit_at longer) e ∙ is.at ∙ sym (lost_bit letter bit h small) ∙ ap (bit_at (letter + bit * 2 ^ length (without_var x all))) (sym e)
        | inr ne ↦ is.same k ne ∙ sym (low_bit letter bit k (less k (length (without_var x all)) ne below))
      ])
    where
      less : (k n : ℕ) → k ≢ n → k < n + 1 → k < n
      less k n ne h = elim (cases_lt k n) [ inl l ↦ l | inr past ↦ absurd (ne (let e : k ≡ n = omega arith in e)) ]

  -- where no track is lost, all tracks are left
  pub places-only : length (without_var x all) ≡ length all → All (λ track. place (without_var x all) track < length (without_var x all)) all
  places-only same i d h = elim (cases_eq (get_or all i d).0 x.0) [
    | inl e ↦ let l = lost-fewer i d h e in absurd (omega (arith, l, same))
    | inr ne ↦ is-left i d h ne
  ]

  -- with whatever bit, the longer letter reads as the letter
  pub ReadsAs-lengthened : (letter bit : ℕ) → letter < 2 ^ length (without_var x all) → ReadsAs all (without_var x all) letter (lengthened all (without_var x all) bit letter)
  ReadsAs-lengthened letter bit h = record {
    below = restrict-below (without_var x all) all (letter + bit * 2 ^ length (without_var x all));
    reads = same_from_bits_below (length (without_var x all)) _ letter (restrict-below all (without_var x all) (lengthened all (without_var x all) bit letter)) h (λ i below.
        let v = get_or (without_var x all) i x in
        let c = (left-is i x below).0 in
        let there = place-below all (get_or (without_var x all) i x) (get_or (without_var x all) i x) c.0 c.1 (ap (λ (u : Var). u.0) c.2) in
        let name = place-has all (get_or (without_var x all) i x) x there in
        bit_at-restrict all (without_var x all) (lengthened all (without_var x all) bit letter) i x below
        ∙ bit_at-restrict (without_var x all) all (letter + bit * 2 ^ length (without_var x all)) (place all (get_or (without_var x all) i x)) x there
        ∙ ap (bit_at (letter + bit * 2 ^ length (without_var x all)))
        (place-same (without_var x all) (get_or all (place all (get_or (without_var x all) i x)) x) (get_or (without_var x all) i x) name
        ∙ place-at (without_var x all) i x ascending-without below)
        ∙ low_bit letter bit i below);
  }

  -- a letter that reads as the letter is it with some bit
  reads-lengthened : {letter longer : ℕ} → ReadsAs all (without_var x all) letter longer → longer ≡ lengthened all (without_var x all) (bit_at longer (place all x)) letter
  reads-lengthened {letter} {longer} is =
      let bit = bit_at longer (place all x) in
      let small = subst (λ n. n < 2 ^ length (without_var x all)) is.reads (restrict-below all (without_var x all) longer) in
      same_from_bits_below (length all) longer _ is.below (restrict-below (without_var x all) all (letter + bit_at longer (place all x) * 2 ^ length (without_var x all))) (λ j below.
      let read = bit_at-restrict (without_var x all) all (letter + bit_at longer (place all x) * 2 ^ length (without_var x all)) j x below in
      let own = place-at all j x up below in
      elim (cases_eq (get_or all j x).0 x.0) [
        | inl e ↦
            let here = sym own ∙ place-same all (get_or all j x) x e in
            ap (bit_at longer) here
            ∙ sym
            (read ∙ ap (bit_at (letter + bit_at longer (place all x) * 2 ^ length (without_var x all))) (place-lost (get_or all j x) e)
            ∙ lost_bit letter (bit_at longer (place all x)) small (bit_at-lt longer (place all x)))
        | inr ne ↦
            let i_below = is-left j x below ne in
            let name = place-has (without_var x all) (get_or all j x) x i_below in
            let i = place (without_var x all) (get_or all j x) in
            sym (read ∙ low_bit letter (bit_at longer (place all x)) (place (without_var x all) (get_or all j x)) i_below
            ∙ ap (λ n. bit_at n (place (without_var x all) (get_or all j x))) (sym is.reads)
            ∙ bit_at-restrict all (without_var x all) longer (place (without_var x all) (get_or all j x)) x i_below
            ∙ ap (bit_at longer) (place-same all (get_or (without_var x all) (place (without_var x all) (get_or all j x)) x) (get_or all j x) name ∙ own))
      ])

  pub lengthened-or : {letter longer : ℕ} → ReadsAs all (without_var x all) letter longer
      → (longer ≡ lengthened all (without_var x all) 0 letter) ⊎ (longer ≡ lengthened all (without_var x all) 1 letter)
  lengthened-or {letter} {longer} is = elim (bit_cases longer (place all x)) [
    | inl z ↦ inl (reads-lengthened is ∙ ap (λ b. lengthened all (without_var x all) b letter) z)
    | inr o ↦ inr (reads-lengthened is ∙ ap (λ b. lengthened all (without_var x all) b letter) o)
  ]

  -- where no track is lost there is one such letter
  pub lengthened-only : length (without_var x all) ≡ length all → {letter longer : ℕ} → ReadsAs all (without_var x all) letter longer → longer ≡ lengthened all (without_var x all) 0 letter
  lengthened-only same {letter} {longer} is =
      let none = place-none all x (λ i d h e. let l = lost-fewer i d h e in omega (arith, l, same)) in
      reads-lengthened is ∙ ap (λ b. lengthened all (without_var x all) b letter) (ap (bit_at longer) none ∙ bit_at_above longer (length all) (length all) is.below (omega arith))
