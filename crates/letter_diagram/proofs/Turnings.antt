-- Letters with the other bit on one track, and the choice between two maps at them.
use Rattle.std.proofs.Common.{◌≡◌, ◌≢◌, ℕ, ◌<◌, ◌-◌, ◌%◌, ◌+◌, ◌^◌, List, nat_eq, if◌then◌else◌, arith, sym, ap, ◌∙◌, refl, subst, inl, inr}
use Rattle.std.specs.Int.{bit_at}
use Rattle.std.proofs.lemmas.Bool.{cases_eq}
use Rattle.std.proofs.lemmas.Nat.{xor_lt}
use Rattle.std.proofs.lemmas.Nat.Bits.{bit_at-lt}
use Rattle.std.proofs.Math.Pow.{pow-lt}
use Rattle.letter_diagram.specs.declared.diagrams.Shape.{Shape}
use Rattle.letter_diagram.specs.Diagram.{map_at, chosen}
use Rattle.letter_diagram.specs.Turned.{turned}
use Rattle.letter_diagram.specs.Carried.{KeepsLetters}
use Rattle.letter_diagram.proofs.Canonical.{flip, bit_at-flip_same, bit_at-flip_other}

turned-flip : (track letter : ℕ) → turned track letter ≡ flip letter track
unfolding turned flip
turned-flip track letter = refl

pub turned-other : (track letter k : ℕ) → k ≢ track → bit_at (turned track letter) k ≡ bit_at letter k
turned-other track letter k ne = ap (λ n. bit_at n k) (turned-flip track letter) ∙ bit_at-flip_other letter track k ne

pub turned-same : (track letter : ℕ) → bit_at (turned track letter) track ≡ 1 - bit_at letter track
turned-same track letter =
    let l = bit_at-lt letter track in
    let odd : (bit_at letter track + 1) % 2 ≡ 1 - bit_at letter track = omega (arith, l) in
    ap (λ n. bit_at n track) (turned-flip track letter) ∙ bit_at-flip_same letter track ∙ odd

pub turned-below : (track bound letter : ℕ) → track < bound → letter < 2 ^ bound → turned track letter < 2 ^ bound
unfolding turned
turned-below track bound letter within small = xor_lt bound letter (2 ^ track) small (pow-lt within)

-- so no letter is kept
pub turned-moves : (track : ℕ) → KeepsLetters (turned track) → ⊥
turned-moves track keeps =
    let l = bit_at-lt 0 track in
    let same : bit_at 0 track ≡ 1 - bit_at 0 track = sym (ap (λ n. bit_at n track) (keeps 0)) ∙ turned-same track 0 in
    omega (arith, l, same)

-- the choice by the track is the other choice at the letter with the other bit
pub chosen-turned : (shapes : List Shape) (track other low high letter : ℕ) → other ≡ track
    → chosen shapes other high low letter ≡ (if nat_eq (bit_at (turned track letter) other) 0 then map_at shapes low letter else map_at shapes high letter)
chosen-turned shapes track other low high letter e =
    subst (λ t. chosen shapes t high low letter ≡ (if nat_eq (bit_at (turned track letter) t) 0 then map_at shapes low letter else map_at shapes high letter)) (sym e)
    (by_bit track (turned-same track letter) (bit_at-lt letter track))
  where
    by_bit : (t : ℕ) → bit_at (turned track letter) t ≡ 1 - bit_at letter t → bit_at letter t < 2
        → chosen shapes t high low letter ≡ (if nat_eq (bit_at (turned track letter) t) 0 then map_at shapes low letter else map_at shapes high letter)
    by_bit t other small = elim (cases_eq (bit_at letter t) 0) [
      | inl z ↦ rw (other, z) refl
      | inr ne ↦ let o : bit_at letter t ≡ 1 = omega (arith, small, ne) in rw (other, o) refl
    ]

-- and by another track the same
pub chosen-kept : (shapes : List Shape) (track other low high letter : ℕ) → other ≢ track
    → chosen shapes other low high letter ≡ (if nat_eq (bit_at (turned track letter) other) 0 then map_at shapes low letter else map_at shapes high letter)
chosen-kept shapes track other low high letter ne = ap (λ n. if nat_eq n 0 then map_at shapes low letter else map_at shapes high letter) (sym (turned-other track letter other ne))
