-- Which tracks a map looks at.
use Rattle.std.proofs.Common.{◌≡◌, ◌≢◌, ℕ, ◌<◌, ◌+◌, ◌*◌, ◌%◌, ◌/◌, ◌^◌, zero, suc, List, [], ◌∷◌, length, get_or, nat_eq, arith, refl, sym, ap, ◌∙◌, inl, inr, if◌then◌else◌}
use Rattle.std.specs.Int.{bit_at}
use Rattle.std.proofs.lemmas.Bool.{cases_eq, cases_lt}
use Rattle.std.proofs.lemmas.Nat.Bits.{bit_at-lt, bit_at-suc, bit_at_lowest}
use Rattle.track_word.proofs.LetterBits.{bit_cases}
use Rattle.letter_diagram.specs.declared.diagrams.Shape.{Shape}
use Rattle.letter_diagram.specs.declared.diagrams.Shape.TheVariants.{Test}
use Rattle.letter_diagram.specs.Diagram.{map_at, chosen, IsDiagram, IsTest, IsAt, Grows, LooksBelow}
use Rattle.letter_diagram.specs.Relabelled.{relabelled}
use Rattle.letter_diagram.specs.Carried.{KeepsLetters}
use Rattle.letter_diagram.proofs.Canonical.{flip, bit_at-flip_same, bit_at-flip_other, flipped, low_is, high_is, node-from_map}

module _ {shapes : List Shape} {node track low high : ℕ} (is : IsDiagram shapes) (at : IsAt shapes node (Test track low high)) (fits : IsTest shapes node track low high) where
  -- a side's value at a letter is the node's at a letter with that bit
  pub low_at : (letter : ℕ) → (l : ℕ) × (bit_at l track ≡ 0) × ((k : ℕ) → k ≢ track → bit_at l k ≡ bit_at letter k) × (map_at shapes low letter ≡ map_at shapes node l)
  low_at letter =
      let within = at.within in
      let before = fits.low_before in
      elim (bit_cases letter track) [
        | inl z ↦ (letter, z, (λ k ne. refl), sym (low_is shapes is node track low high letter at z))
        | inr o ↦
            let z = bit_at-flip_same letter track ∙ ap (λ n. (n + 1) % 2) o in (
              flip letter track,
              z,
              (λ k ne. bit_at-flip_other letter track k ne),
              flipped shapes is low track letter (omega arith) fits.low_above ∙ sym (low_is shapes is node track low high (flip letter track) at z),
            )
      ]

  pub high_at : (letter : ℕ) → (l : ℕ) × (bit_at l track ≡ 1) × ((k : ℕ) → k ≢ track → bit_at l k ≡ bit_at letter k) × (map_at shapes high letter ≡ map_at shapes node l)
  high_at letter =
      let within = at.within in
      let before = fits.high_before in
      elim (bit_cases letter track) [
        | inr o ↦ (letter, o, (λ k ne. refl), sym (high_is shapes is node track low high letter at o))
        | inl z ↦
            let o = bit_at-flip_same letter track ∙ ap (λ n. (n + 1) % 2) z in (
              flip letter track,
              o,
              (λ k ne. bit_at-flip_other letter track k ne),
              flipped shapes is high track letter (omega arith) fits.high_above ∙ sym (high_is shapes is node track low high (flip letter track) at o),
            )
      ]

  -- the sides look at no other tracks than the node
  pub LooksBelow-low : {bound : ℕ} → LooksBelow shapes node bound → LooksBelow shapes low bound
  LooksBelow-low narrow = record {
    same = λ a b agree.
        let p = low_at a in
        let q = low_at b in
        p.3 ∙ narrow.same p.0 q.0 (λ k below. elim (cases_eq k track) [
          | inl e ↦ ap (λ n. bit_at p.0 n) e ∙ p.1 ∙ sym q.1 ∙ ap (λ n. bit_at q.0 n) (sym e)
          | inr ne ↦ p.2 k ne ∙ agree k below ∙ sym (q.2 k ne)
        ]) ∙ sym q.3;
  }

  pub LooksBelow-high : {bound : ℕ} → LooksBelow shapes node bound → LooksBelow shapes high bound
  LooksBelow-high narrow = record {
    same = λ a b agree.
        let p = high_at a in
        let q = high_at b in
        p.3 ∙ narrow.same p.0 q.0 (λ k below. elim (cases_eq k track) [
          | inl e ↦ ap (λ n. bit_at p.0 n) e ∙ p.1 ∙ sym q.1 ∙ ap (λ n. bit_at q.0 n) (sym e)
          | inr ne ↦ p.2 k ne ∙ agree k below ∙ sym (q.2 k ne)
        ]) ∙ sym q.3;
  }

  -- a node looks at the track of its test
  pub track-below : {bound : ℕ} → LooksBelow shapes node bound → track < bound
  track-below {bound} narrow = elim (cases_lt track bound) [
    | inl lt ↦ lt
    | inr past ↦
        let within = at.within in
        let low_before = fits.low_before in
        let high_before = fits.high_before in
        absurd (fits.differ (node-from_map shapes is low high (omega arith) (omega arith) (λ letter.
        let p = low_at letter in
        let q = high_at letter in
        p.3 ∙ narrow.same p.0 q.0 (λ k below. let ne : k ≢ track = omega arith in p.2 k ne ∙ sym (q.2 k ne)) ∙ sym q.3)))
  ]

-- the bits of a relabelled letter
pub bit_at-relabelled : (tracks : List ℕ) (letter k d : ℕ) → k < length tracks → bit_at (relabelled tracks letter) k ≡ bit_at letter (get_or tracks k d)
bit_at-relabelled [] letter k d h = absurd (omega arith)
bit_at-relabelled (t ∷ tracks) letter zero d h = let small = bit_at-lt letter t in bit_at_lowest (bit_at letter t + 2 * relabelled tracks letter) ∙ grind (arith, small)
bit_at-relabelled (t ∷ tracks) letter (suc k) d h =
    let small = bit_at-lt letter t in
    let half : (bit_at letter t + 2 * relabelled tracks letter) / 2 ≡ relabelled tracks letter = omega (arith, small) in
    bit_at-suc (bit_at letter t + 2 * relabelled tracks letter) k ∙ ap (λ n. bit_at n k) half ∙ bit_at-relabelled tracks letter k d (omega arith)

pub LooksBelow-grows : {old new : List Shape} {node bound : ℕ} → node < length old → Grows old new → LooksBelow old node bound → LooksBelow new node bound
LooksBelow-grows {node} known grows narrow = record { same = λ a b agree. grows.map node a known ∙ narrow.same a b agree ∙ sym (grows.map node b known) }

-- a letter of so many tracks
pub relabelled-below : (tracks : List ℕ) (letter : ℕ) → relabelled tracks letter < 2 ^ length tracks
relabelled-below [] letter = omega arith
relabelled-below (t ∷ tracks) letter =
    let small = bit_at-lt letter t in
    let rest = relabelled-below tracks letter in
    doubled (bit_at letter t) (relabelled tracks letter) (length tracks) small rest
  where
    doubled : (b r n : ℕ) → b < 2 → r < 2 ^ n → b + 2 * r < 2 ^ suc n
    doubled b r n small rest = omega (arith, small, rest)

-- so some letter is not kept
pub relabelled-moves : (tracks : List ℕ) → KeepsLetters (relabelled tracks) → ⊥
relabelled-moves tracks keeps = let below = relabelled-below tracks (2 ^ length tracks) in let same = keeps (2 ^ length tracks) in omega (arith, below, same)

-- the choice by the track from which another takes its bit
pub chosen-relabelled : (shapes : List Shape) (tracks : List ℕ) (track low high letter : ℕ) → track < length tracks
    → chosen shapes (get_or tracks track 0) low high letter ≡ (if nat_eq (bit_at (relabelled tracks letter) track) 0 then map_at shapes low letter else map_at shapes high letter)
chosen-relabelled shapes tracks track low high letter within =
    let bit : bit_at letter (get_or tracks track 0) ≡ bit_at (relabelled tracks letter) track = sym (bit_at-relabelled tracks letter track 0 within) in
    λ i. if nat_eq (bit i) 0 then map_at shapes low letter else map_at shapes high letter
