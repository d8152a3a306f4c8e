-- Where the places are different, each letter is read from some letter over the tracks.
use Rattle.std.proofs.Common.{◌≡◌, ◌≢◌, ℕ, suc, ◌/◌, ◌^◌, ◌<◌, true, false, List, [], ◌∷◌, length, map, All, AllPairs, get_or, nat_eq, arith, refl, sym, ap, ◌∙◌, subst}
use Rattle.std.specs.List.{range_with_len, position_or_len}
use Rattle.std.specs.Int.{bit_at}
use Rattle.std.proofs.lemmas.Grind.{common_steps}
use Rattle.std.proofs.lemmas.List.{length-map, get_or-map}
use Rattle.std.proofs.lemmas.List.FromFn.{length-map-range_with_len, get_or-map-range_with_len}
use Rattle.std.proofs.lemmas.List.Sums.{position_or_len_is, passes_at_first}
use Rattle.std.proofs.lemmas.Nat.Bits.{bit_at-suc, bit_at_lowest}
use Rattle.track_word.specs.declared.tracks.Var.{Var}
use Rattle.track_word.specs.Tracks.{place}
use Rattle.letter_diagram.specs.Relabelled.{relabelled}
use Rattle.letter_diagram.proofs.Narrow.{bit_at-relabelled, relabelled-below}

halved : (letter n : ℕ) → letter < 2 ^ suc n → letter / 2 < 2 ^ n
halved letter n small = omega (arith, small)

-- a letter is read where each of its bits stands at its place
relabelled-is : (places : List ℕ) (from letter : ℕ) → letter < 2 ^ length places
    → ((i : ℕ) → i < length places → bit_at from (get_or places i 0) ≡ bit_at letter i) → relabelled places from ≡ letter
relabelled-is [] from letter small bits = omega (arith, small)
relabelled-is (p ∷ places) from letter small bits =
    let low = bits 0 (omega arith) in
    let rest = relabelled-is places from (letter / 2) (halved letter (length places) small) (λ i h. bits (suc i) (omega (arith, h)) ∙ bit_at-suc letter i) in
    let even = bit_at_lowest letter in
    omega (arith, low, rest, even)

same-number : (m n : ℕ) → m ≡ n → nat_eq m n ≡ true
same-number m n e = grind (arith, common_steps, e)

other-number : (m n : ℕ) → m ≢ n → nat_eq m n ≡ false
other-number m n ne = grind (arith, common_steps, ne)

number-is : (m n : ℕ) → nat_eq m n ≡ true → m ≡ n
number-is m n e = grind (arith, common_steps, e)

-- the place of a track among the places
index_of : List ℕ → ℕ → ℕ
index_of places track = position_or_len (λ p. nat_eq p track) places

index_of-place : (places : List ℕ) (i : ℕ) → AllPairs (λ p q. p ≢ q) places → i < length places → index_of places (get_or places i 0) ≡ i
unfolding index_of
index_of-place places i different within =
    position_or_len_is (λ p. nat_eq p (get_or places i 0)) places i 0 (omega (arith, within))
    (λ k before. other-number (get_or places k 0) (get_or places i 0) (different k i 0 before within))
    (λ _. same-number (get_or places i 0) (get_or places i 0) refl)

pub covered : (places : List ℕ) (tracks letter : ℕ) → AllPairs (λ p q. p ≢ q) places → All (λ p. p < tracks) places → letter < 2 ^ length places
    → (from : ℕ) × (from < 2 ^ tracks) × (relabelled places from ≡ letter)
covered places tracks letter different below small =
    let inverse = map (index_of places) (range_with_len 0 tracks) in
    let size = length-map-range_with_len (index_of places) 0 tracks in (
      relabelled inverse letter,
      subst (λ n. relabelled inverse letter < 2 ^ n) size (relabelled-below inverse letter),
      relabelled-is places (relabelled inverse letter) letter small (λ i h.
          let track = get_or places i 0 in
          let within : track < tracks = below i 0 h in
          bit_at-relabelled inverse letter track 0 (subst (λ n. track < n) (sym size) within)
          ∙ ap (bit_at letter) (get_or-map-range_with_len (index_of places) 0 tracks track track 0 within (omega arith) ∙ index_of-place places i different h)),
    )

-- the variable at the place of a variable; auto_project cites this
pub place-has : (tracks : List Var) (v d : Var) → place tracks v < length tracks → (get_or tracks (place tracks v) d).0 ≡ v.0
place-has tracks v d within = number-is (get_or tracks (place tracks v) d).0 v.0 (passes_at_first (λ other. nat_eq other.0 v.0) tracks d within)

same-place : (tracks : List Var) (v w : Var) → place tracks v < length tracks → place tracks v ≡ place tracks w → v ≡ w
same-place tracks v w within e =
    let d : Var = record { 0 = 0 } in
    let number : v.0 ≡ w.0 = sym (place-has tracks v d within) ∙ ap (λ p. (get_or tracks p d).0) e ∙ place-has tracks w d (subst (λ p. p < length tracks) e within) in
    let var : ℕ → Var = λ n. record { 0 = n } in
    ap var number

-- different variables have different places
pub places-different : (tracks vars : List Var) → All (λ p. p < length tracks) (map (place tracks) vars) → AllPairs (λ x y. x ≢ y) vars → AllPairs (λ p q. p ≢ q) (map (place tracks) vars)
places-different tracks vars below different i j d before within e =
    let v : Var = record { 0 = 0 } in
    let size = length-map vars (place tracks) in
    let second : j < length vars = omega (arith, size, within) in
    let first : i < length vars = omega (arith, before, second) in
    let at = λ (k : ℕ) (h : k < length vars). get_or-map (place tracks) vars k v d h in
    different i j v before second (same-place tracks (get_or vars i v) (get_or vars j v)
    (subst (λ p. p < length tracks) (at i first) (below i d (omega (arith, size, first)))) (sym (at i first) ∙ e ∙ at j second))
