-- Two words of one length that spell the same integers are one word.
use Rattle.std.proofs.Common.{◌≡◌, ◌↔◌, ℕ, zero, suc, ◌+◌, ◌*◌, ◌^◌, ◌<◌, List, [], ◌∷◌, length, pos, ◌-ℤ◌, refl, sym, ap, ◌∙◌, subst, arith, lit<}
use Rattle.std.specs.Int.{bit_at}
use Rattle.std.specs.List.{All}
use Rattle.std.proofs.lemmas.Int.{ints}
use Rattle.std.proofs.lemmas.List.Elements.{All-tail}
use Rattle.std.proofs.lemmas.Nat.Bits.{bit_at-lt, same_from_bits_below}
use Rattle.track_word.specs.Word.{IsWord, val, low_value, repeated}
use Rattle.track_word.proofs.Repeats.{val-repeated, repeated_some, IsWord-repeated}
use Rattle.auto_core.specs.Automaton.{Automaton, Accepts}
use Rattle.auto_core.specs.Integers.{DecidesIntegers}

top : (bit power low whole : ℕ) → bit < 2 → low < power → whole ≡ 2 * power → bit * power + low < whole
top zero power low whole less below is = omega arith
top (suc zero) power low whole less below is = omega arith
top (suc (suc bit)) power low whole less below is = absurd (omega arith)

low_value-below : (ls : List ℕ) (t : ℕ) → low_value ls t < 2 ^ length ls
low_value-below [] t = lit< tt
low_value-below (l ∷ ls) t =
    let two : 2 ^ suc (length ls) ≡ 2 * 2 ^ length ls = omega arith in
    top (bit_at l t) (2 ^ length ls) (low_value ls t) (2 ^ suc (length ls)) (bit_at-lt l t) (low_value-below ls t) two

split : (a b c d power : ℕ) → b < 2 → d < 2 → a < power → c < power → b * power + a ≡ d * power + c → (b ≡ d) × (a ≡ c)
split a zero c zero power b_bit d_bit a_low c_low e = (refl, omega arith)
split a zero c (suc zero) power b_bit d_bit a_low c_low e = absurd (omega arith)
split a zero c (suc (suc d)) power b_bit d_bit a_low c_low e = absurd (omega arith)
split a (suc zero) c zero power b_bit d_bit a_low c_low e = absurd (omega arith)
split a (suc zero) c (suc zero) power b_bit d_bit a_low c_low e = (refl, omega arith)
split a (suc zero) c (suc (suc d)) power b_bit d_bit a_low c_low e = absurd (omega arith)
split a (suc (suc b)) c d power b_bit d_bit a_low c_low e = absurd (omega arith)

split_signed : (a b c d power : ℕ) → b < 2 → d < 2 → a < power → c < power → pos a -ℤ pos (b * power) ≡ pos c -ℤ pos (d * power) → (b ≡ d) × (a ≡ c)
split_signed a zero c zero power b_bit d_bit a_low c_low e = (refl, omega (arith, ints, e))
split_signed a zero c (suc zero) power b_bit d_bit a_low c_low e = absurd (omega (arith, ints, e))
split_signed a zero c (suc (suc d)) power b_bit d_bit a_low c_low e = absurd (omega arith)
split_signed a (suc zero) c zero power b_bit d_bit a_low c_low e = absurd (omega (arith, ints, e))
split_signed a (suc zero) c (suc zero) power b_bit d_bit a_low c_low e = (refl, omega (arith, ints, e))
split_signed a (suc zero) c (suc (suc d)) power b_bit d_bit a_low c_low e = absurd (omega arith)
split_signed a (suc (suc b)) c d power b_bit d_bit a_low c_low e = absurd (omega arith)

power_is : (ls ms : List ℕ) → length ls ≡ length ms → 2 ^ length ls ≡ 2 ^ length ms
power_is ls ms size = ap (λ n. 2 ^ n) size

shorter : (l m : ℕ) (ls ms : List ℕ) → length (l ∷ ls) ≡ length (m ∷ ms) → length ls ≡ length ms
shorter l m ls ms size = omega arith

same_letters : (k : ℕ) (ps qs : List ℕ) → All (λ l. l < 2 ^ k) ps → All (λ l. l < 2 ^ k) qs
    → length ps ≡ length qs → ((t : ℕ) → t < k → low_value ps t ≡ low_value qs t) → ps ≡ qs
same_letters k [] [] p q size h = refl
same_letters k [] (m ∷ ms) p q size h = absurd (omega arith)
same_letters k (l ∷ ls) [] p q size h = absurd (omega arith)
same_letters k (l ∷ ls) (m ∷ ms) p q size h =
    let less = shorter l m ls ms size in
    let parts : (t : ℕ) → t < k → (bit_at l t ≡ bit_at m t) × (low_value ls t ≡ low_value ms t) = λ t within.
    split (low_value ls t) (bit_at l t) (low_value ms t) (bit_at m t) (2 ^ length ls) (bit_at-lt l t) (bit_at-lt m t) (low_value-below ls t) (rw (power_is ls ms less) (low_value-below ms t))
    (h t within ∙ ap (λ n. bit_at m t * n + low_value ms t) (sym (power_is ls ms less))) in
    let first : l ≡ m = same_from_bits_below k l m (p 0 0 (omega arith)) (q 0 0 (omega arith)) (λ t within. (parts t within).0) in
    let rest : ls ≡ ms = same_letters k ls ms (All-tail (λ l. l < 2 ^ k) l ls p) (All-tail (λ l. l < 2 ^ k) m ms q) less (λ t within. (parts t within).1) in
    ap (λ n. n ∷ ls) first ∙ ap (λ r. m ∷ r) rest

same_word : {k : ℕ} {ps qs : List ℕ} → IsWord k ps → IsWord k qs → length ps ≡ length qs → ((t : ℕ) → t < k → val ps t ≡ val qs t) → ps ≡ qs
same_word {ps = []} p q size h = absurd (p.nonempty refl)
same_word {ps = l ∷ ls} {qs = []} p q size h = absurd (q.nonempty refl)
same_word {k} {ps = l ∷ ls} {qs = m ∷ ms} p q size h =
    let less = shorter l m ls ms size in
    let parts : (t : ℕ) → t < k → (bit_at l t ≡ bit_at m t) × (low_value ls t ≡ low_value ms t) = λ t within.
    split_signed (low_value ls t) (bit_at l t) (low_value ms t) (bit_at m t) (2 ^ length ls) (bit_at-lt l t) (bit_at-lt m t) (low_value-below ls t) (rw (power_is ls ms less) (low_value-below ms t))
    (h t within ∙ ap (λ n. pos (low_value ms t) -ℤ pos (bit_at m t * n)) (sym (power_is ls ms less))) in
    let first : l ≡ m = same_from_bits_below k l m (p.letters 0 0 (omega arith)) (q.letters 0 0 (omega arith)) (λ t within. (parts t within).0) in
    let rest : ls ≡ ms = same_letters k ls ms (All-tail (λ l. l < 2 ^ k) l ls p.letters) (All-tail (λ l. l < 2 ^ k) m ms q.letters) less (λ t within. (parts t within).1) in
    ap (λ n. n ∷ ls) first ∙ ap (λ r. m ∷ r) rest

-- an automaton that decides a set of integers takes no heed of how often a first letter stands
accepts-repeated : {a : Automaton} {word : List ℕ} (n : ℕ) → DecidesIntegers a → IsWord (length a.tracks) word → Accepts a word ↔ Accepts a (repeated n word)
accepts-repeated zero integers is = (λ h. h, λ h. h)
accepts-repeated {word} (suc n) integers is =
    let rest = accepts-repeated n integers is in
    let more = integers.stable (repeated n word) (IsWord-repeated n is) in
    (λ h. more.0 (rest.0 h), λ h. rest.1 (more.1 h))

-- it accepts both or neither of two words that spell the same integers
pub accepts-same : {a : Automaton} {v w : List ℕ} → DecidesIntegers a → IsWord (length a.tracks) v → IsWord (length a.tracks) w
    → ((t : ℕ) → t < length a.tracks → val v t ≡ val w t) → Accepts a v → Accepts a w
accepts-same {a} {v} {w} integers is_v is_w values accepts =
    let long_v = repeated_some v (length w) is_v.nonempty in
    let long_w = repeated_some w (length v) is_w.nonempty in
    let one : repeated (length w) v ≡ repeated (length v) w =
    same_word (IsWord-repeated (length w) is_v) (IsWord-repeated (length v) is_w)
    (omega (arith, long_v.0, long_w.0)) (λ t within. val-repeated v t (length w) ∙ (values t within ∙ sym (val-repeated w t (length v)))) in
    (accepts-repeated (length v) integers is_w).1 (subst (Accepts a) one ((accepts-repeated (length w) integers is_v).0 accepts))
