-- Lemmas on words with their first letter more than once. Other crates cite them.
use Rattle.std.proofs.Common.{◌≡◌, ◌≢◌, ℕ, zero, suc, pos, ◌-ℤ◌, ◌+◌, ◌*◌, ◌^◌, ◌<◌, List, [], ◌∷◌, length, All, arith, refl, ◌∙◌}
use Rattle.std.specs.Int.{bit_at}
use Rattle.std.proofs.lemmas.Int.{ints}
use Rattle.std.proofs.lemmas.List.Elements.{All-cons}
use Rattle.track_word.specs.Word.{IsWord, low_value, repeat_first, repeated, val}

doubled : (bit power low : ℕ) → pos (bit * power + low) -ℤ pos (bit * (2 * power)) ≡ pos low -ℤ pos (bit * power)
doubled bit power low = omega (arith, ints)

-- each track keeps its value
pub val-again : (word : List ℕ) (track : ℕ) → val (repeat_first word) track ≡ val word track
val-again [] track = refl
val-again (sign ∷ letters) track =
    let power : 2 ^ suc (length letters) ≡ 2 * 2 ^ length letters = omega arith in
    rw power (doubled (bit_at sign track) (2 ^ length letters) (low_value letters track))

pub val-repeated : (word : List ℕ) (track k : ℕ) → val (repeated k word) track ≡ val word track
val-repeated word track zero = refl
val-repeated word track (suc k) = val-again (repeated k word) track ∙ val-repeated word track k

again_some : (word : List ℕ) → word ≢ [] → (length (repeat_first word) ≡ suc (length word)) × (repeat_first word ≢ [])
again_some [] some = absurd (some refl)
again_some (sign ∷ letters) some = (refl, λ e. cc)

-- it is so many letters longer
pub repeated_some : (word : List ℕ) (k : ℕ) → word ≢ [] → (length (repeated k word) ≡ k + length word) × (repeated k word ≢ [])
repeated_some word zero some = (omega arith, some)
repeated_some word (suc k) some =
    let rest = repeated_some word k some in
    let more = again_some (repeated k word) rest.1 in
    (omega (arith, more.0, rest.0), more.1)

again-letters : (bound : ℕ) (word : List ℕ) → All (λ l. l < bound) word → All (λ l. l < bound) (repeat_first word)
again-letters bound [] h = h
again-letters bound (sign ∷ letters) h = All-cons (λ l. l < bound) sign (sign ∷ letters) (h 0 0 (omega arith)) h

pub repeated-letters : (bound : ℕ) (word : List ℕ) (k : ℕ) → All (λ l. l < bound) word → All (λ l. l < bound) (repeated k word)
repeated-letters bound word zero h = h
repeated-letters bound word (suc k) h = again-letters bound (repeated k word) (repeated-letters bound word k h)

-- it is a word of the same tracks
pub IsWord-repeated : {tracks : ℕ} {word : List ℕ} (k : ℕ) → IsWord tracks word → IsWord tracks (repeated k word)
IsWord-repeated {tracks} {word} k is = record { nonempty = (repeated_some word k is.nonempty).1; letters = repeated-letters (2 ^ tracks) word k is.letters }

pub IsWord-again : {tracks : ℕ} {word : List ℕ} → IsWord tracks word → IsWord tracks (repeat_first word)
IsWord-again is = IsWord-repeated 1 is
