-- Places of entries in a dense row.
use Rattle.std.proofs.Common.{◌≡◌, ℕ, ◌+◌, ◌-◌, ◌*◌, ◌/◌, ◌%◌, ◌^◌, ◌<◌, List, slice_index, nat_eq, arith, sym, ap, ◌∙◌, inl, inr, if◌then◌else◌}
use Rattle.std.specs.Int.{bit_at}
use Rattle.std.proofs.lemmas.Grind.{common_steps}
use Rattle.std.proofs.lemmas.Nat.{mod-pow-add, pow-add}
use Rattle.std.proofs.Math.Nat.{div-div-eq-div-mul}
use Rattle.track_word.proofs.LetterBits.{bit_cases}
use Rattle.letter_diagram.specs.declared.diagrams.Shape.{Shape}
use Rattle.letter_diagram.specs.Diagram.{map_at, chosen}
use Rattle.auto_core.specs.Dense.{place_of}

pub place_of-last : (tracks offset letter : ℕ) → place_of tracks tracks offset letter ≡ offset
unfolding place_of
place_of-last tracks offset letter = let z : tracks - tracks ≡ 0 = omega arith in ap (λ d. offset + letter / 2 ^ tracks % 2 ^ d * 2 ^ tracks) z ∙ grind (arith, common_steps)

pub place_of-first : (tracks letter : ℕ) → place_of tracks 0 0 letter ≡ letter % 2 ^ tracks
unfolding place_of
place_of-first tracks letter = grind (arith, common_steps)

halved : (letter track : ℕ) → letter / 2 ^ track / 2 ^ 1 ≡ letter / 2 ^ (track + 1)
halved letter track = div-div-eq-div-mul letter (2 ^ track) (2 ^ 1) ∙ ap (λ p. letter / p) (sym (pow-add 2 track 1))

regroup : (o a b p : ℕ) → o + (a * 2 ^ 1 + b) * p ≡ o + b * p + a * (p * 2 ^ 1)
regroup o a b p = omega arith

-- the place by one more bit
pub place_of-bit : (tracks track offset letter : ℕ) → track < tracks → place_of tracks track offset letter ≡ place_of tracks (track + 1) (offset + bit_at letter track * 2 ^ track) letter
unfolding place_of
place_of-bit tracks track offset letter within =
    let count : tracks - track ≡ tracks - (track + 1) + 1 = omega arith in
    let split = mod-pow-add (letter / 2 ^ track) (tracks - (track + 1)) 1 in
    let half = halved letter track in
    let double = pow-add 2 track 1 in
    ap (λ d. offset + letter / 2 ^ track % 2 ^ d * 2 ^ track) count ∙ ap (λ n. offset + n * 2 ^ track) split
    ∙ ap (λ h. offset + (h % 2 ^ (tracks - (track + 1)) * 2 ^ 1 + letter / 2 ^ track % 2 ^ 1) * 2 ^ track) half
    ∙ regroup offset (letter / 2 ^ (track + 1) % 2 ^ (tracks - (track + 1))) (bit_at letter track) (2 ^ track)
    ∙ ap (λ q. offset + bit_at letter track * 2 ^ track + letter / 2 ^ (track + 1) % 2 ^ (tracks - (track + 1)) * q) (sym double)

-- the entry by the bit of a track
pub chosen-place : (shapes : List Shape) (table : List ℕ) (tracks track offset past low high letter : ℕ) → track < tracks → past ≡ offset + 2 ^ track
    → map_at shapes low letter ≡ slice_index table (place_of tracks (track + 1) offset letter) → map_at shapes high letter ≡ slice_index table (place_of tracks (track + 1) past letter)
    → chosen shapes track low high letter ≡ slice_index table (place_of tracks track offset letter)
chosen-place shapes table tracks track offset past low high letter within is l h =
    let place = place_of-bit tracks track offset letter within in
    elim (bit_cases letter track) [
      | inl z ↦
          ap (λ n. if nat_eq n 0 then map_at shapes low letter else map_at shapes high letter) z ∙ l
          ∙ ap (λ k. slice_index table k)
          (ap (λ o. place_of tracks (track + 1) o letter)
          (let e : offset ≡ offset + 0 * 2 ^ track = omega arith in e ∙ ap (λ b. offset + b * 2 ^ track) (sym z))
          ∙ sym place)
      | inr o ↦
          ap (λ n. if nat_eq n 0 then map_at shapes low letter else map_at shapes high letter) o ∙ h
          ∙ ap (λ k. slice_index table k)
          (ap (λ o. place_of tracks (track + 1) o letter)
          (is ∙ (let e : offset + 2 ^ track ≡ offset + 1 * 2 ^ track = omega arith in e) ∙ ap (λ b. offset + b * 2 ^ track) (sym o))
          ∙ sym place)
    ]
