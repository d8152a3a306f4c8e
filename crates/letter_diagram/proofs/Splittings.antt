-- Maps by the bit of a track, and two maps side by side, as nodes are added.
use Rattle.std.proofs.Common.{◌≡◌, ℕ, ◌<◌, ◌≤◌, ◌+◌, ◌-◌, ◌%◌, ◌^◌, min, List, length, nat_eq, suc, arith, sym, ap, ◌∙◌, subst, inl, inr, if◌then◌else◌}
use Rattle.std.specs.Int.{bit_at}
use Rattle.std.proofs.lemmas.Grind.{common_steps}
use Rattle.std.proofs.lemmas.Bool.{cases_lt}
use Rattle.std.proofs.Math.Pow.{pow_mono}
use Rattle.std.proofs.lemmas.Nat.{pow_pos}
use Rattle.track_word.proofs.LetterBits.{bit_cases}
use Rattle.letter_diagram.specs.declared.diagrams.Shape.{Shape}
use Rattle.letter_diagram.specs.Diagram.{map_at, top_track, chosen, IsDiagram, Grows}
use Rattle.letter_diagram.specs.Splits.{IsSplit, top_of_both, room_from, room_for}
use Rattle.letter_diagram.proofs.Canonical.{flip, bit_at-flip_same, flipped}

-- the least track of two stays as nodes are added, and so does the room
pub top_of_both-grows : {old new : List Shape} (a b : ℕ) → Grows old new → a < length old → b < length old → top_of_both new a b ≡ top_of_both old a b
top_of_both-grows a b grows ka kb = λ i. min (grows.top a ka i) (grows.top b kb i)

pub room_for-grows : {old new : List Shape} (a b : ℕ) → Grows old new → a < length old → b < length old → room_for new a b ≡ room_for old a b
room_for-grows a b grows ka kb = ap room_from (top_of_both-grows a b grows ka kb)

pub room_for-constant : (shapes : List Shape) (a b : ℕ) → top_of_both shapes a b ≡ 20 → room_for shapes a b ≡ 1
unfolding room_from
room_for-constant shapes a b e = ap (λ t. 2 ^ (20 - t)) e

pub room_from-some : (track : ℕ) → 1 ≤ room_from track
unfolding room_from
room_from-some track = let some = pow_pos (20 - track) in omega (arith, some)

pub room_from-le : (track : ℕ) → room_from track ≤ 2 ^ 20
unfolding room_from
room_from-le track = pow_mono {i = 20 - track} {j = 20} (omega arith)

pub room_for-le : (shapes : List Shape) (a b : ℕ) → room_for shapes a b ≤ 2 ^ 20
room_for-le shapes a b = room_from-le (top_of_both shapes a b)

-- nodes that look only at later tracks need no more room
pub room_for-below : (shapes : List Shape) (a low high : ℕ) → top_track shapes a ≤ top_track shapes low
    → top_track shapes a ≤ top_track shapes high → room_for shapes low high ≤ room_for shapes a a
unfolding room_from
room_for-below shapes a low high l h = pow_mono {i = 20 - top_of_both shapes low high} {j = 20 - top_of_both shapes a a} (omega arith)

-- the two sides of a pair need no more room than the pair
half : (track n m : ℕ) → track < 20 → track < n → track < m → 2 ^ (20 - n) + 2 ^ (20 - m) ≤ 2 ^ (20 - track)
half track n m low above above' =
    let whole : 2 ^ (20 - track) ≡ 2 ^ (19 - track) + 2 ^ (19 - track) = (let e : 20 - track ≡ suc (19 - track) = omega arith in ap (λ k. 2 ^ k) e ∙ grind (arith, common_steps)) in
    let first = pow_mono {i = 20 - n} {j = 19 - track} (omega arith) in
    let second = pow_mono {i = 20 - m} {j = 19 - track} (omega arith) in
    omega (arith, whole, first, second)

pub room_from-sides : (track low high low' high' : ℕ) → track < 20 → track < low → track < high → track < low' → track < high'
    → room_from (min low low') + room_from (min high high') ≤ room_from track
unfolding room_from
room_from-sides track low high low' high' small l h l' h' = half track (min low low') (min high high') small (omega arith) (omega arith)

pub room_for-sides : {shapes : List Shape} {a b track al ah bl bh : ℕ} → track < 20 → IsSplit shapes a track al ah → IsSplit shapes b track bl bh → track ≡ top_of_both shapes a b
    → room_for shapes al bl + room_for shapes ah bh ≤ room_for shapes a b
room_for-sides {shapes} {track} {al} {ah} {bl} {bh} small sa sb e =
    subst (λ t. room_for shapes al bl + room_for shapes ah bh ≤ room_from t) e
    (room_from-sides track (top_track shapes al) (top_track shapes ah) (top_track shapes bl) (top_track shapes bh) small sa.low_above sa.high_above sb.low_above sb.high_above)

pub chosen-grows : {old new : List Shape} (track low high letter : ℕ) → low < length old
    → high < length old → Grows old new → chosen new track low high letter ≡ chosen old track low high letter
chosen-grows track low high letter kl kh grows = λ i. if nat_eq (bit_at letter track) 0 then grows.map low letter kl i else grows.map high letter kh i

pub IsSplit-grows : {old new : List Shape} {node track low high : ℕ} → node < length old → Grows old new → IsSplit old node track low high → IsSplit new node track low high
IsSplit-grows {old} {new} {node} {track} {low} {high} known grows s =
    let longer = grows.longer in
    let l = s.low_known in
    let h = s.high_known in
    record {
      low_known = omega arith;
      high_known = omega arith;
      map = λ letter. grows.map node letter known ∙ s.map letter ∙ sym (chosen-grows track low high letter s.low_known s.high_known grows);
      low_above = rw (grows.top low s.low_known) s.low_above;
      high_above = rw (grows.top high s.high_known) s.high_above;
      low_top = rw (grows.top node known, grows.top low s.low_known) s.low_top;
      high_top = rw (grows.top node known, grows.top high s.high_known) s.high_top;
      low_within = s.low_within;
      high_within = s.high_within;
      low_smaller = λ e. s.low_smaller (sym (grows.top node known) ∙ e);
      high_smaller = λ e. s.high_smaller (sym (grows.top node known) ∙ e);
    }

-- the side that is chosen, by the bit
pub chosen-low : (shapes : List Shape) (track low high letter : ℕ) → bit_at letter track ≡ 0 → chosen shapes track low high letter ≡ map_at shapes low letter
chosen-low shapes track low high letter z = ap (λ n. if nat_eq n 0 then map_at shapes low letter else map_at shapes high letter) z

pub chosen-high : (shapes : List Shape) (track low high letter : ℕ) → bit_at letter track ≡ 1 → chosen shapes track low high letter ≡ map_at shapes high letter
chosen-high shapes track low high letter o = ap (λ n. if nat_eq n 0 then map_at shapes low letter else map_at shapes high letter) o

-- the sides of two nodes give at a letter what the nodes give at one letter
pub low_answer : {shapes : List Shape} {a b track al ah bl bh : ℕ} → IsDiagram shapes → (letter : ℕ) → IsSplit shapes a track al ah → IsSplit shapes b track bl bh
    → (l : ℕ) × (map_at shapes al letter ≡ map_at shapes a l) × (map_at shapes bl letter ≡ map_at shapes b l)
low_answer {shapes} {track} {al} {ah} {bl} {bh} is letter sa sb = elim (bit_cases letter track) [
  | inl z ↦ (letter, sym (sa.map letter ∙ chosen-low shapes track al ah letter z), sym (sb.map letter ∙ chosen-low shapes track bl bh letter z))
  | inr o ↦
      let z = bit_at-flip_same letter track ∙ ap (λ n. (n + 1) % 2) o in (
        flip letter track,
        flipped shapes is al track letter sa.low_known sa.low_above ∙ sym (sa.map (flip letter track) ∙ chosen-low shapes track al ah (flip letter track) z),
        flipped shapes is bl track letter sb.low_known sb.low_above ∙ sym (sb.map (flip letter track) ∙ chosen-low shapes track bl bh (flip letter track) z),
      )
]

pub high_answer : {shapes : List Shape} {a b track al ah bl bh : ℕ} → IsDiagram shapes → (letter : ℕ) → IsSplit shapes a track al ah → IsSplit shapes b track bl bh
    → (l : ℕ) × (map_at shapes ah letter ≡ map_at shapes a l) × (map_at shapes bh letter ≡ map_at shapes b l)
high_answer {shapes} {track} {al} {ah} {bl} {bh} is letter sa sb = elim (bit_cases letter track) [
  | inr o ↦ (letter, sym (sa.map letter ∙ chosen-high shapes track al ah letter o), sym (sb.map letter ∙ chosen-high shapes track bl bh letter o))
  | inl z ↦
      let o = bit_at-flip_same letter track ∙ ap (λ n. (n + 1) % 2) z in (
        flip letter track,
        flipped shapes is ah track letter sa.high_known sa.high_above ∙ sym (sa.map (flip letter track) ∙ chosen-high shapes track al ah (flip letter track) o),
        flipped shapes is bh track letter sb.high_known sb.high_above ∙ sym (sb.map (flip letter track) ∙ chosen-high shapes track bl bh (flip letter track) o),
      )
]

-- one side at least of two nodes stands before its node
pub sides-fall : (top top' track a b a_side b_side : ℕ) → track ≡ min top top' → a_side ≤ a
    → b_side ≤ b → (top ≡ track → a_side < a) → (top' ≡ track → b_side < b) → a_side + b_side < a + b
sides-fall top top' track a b a_side b_side e within within' smaller smaller' = elim (cases_lt top' top) [
  | inl lt ↦ let s = smaller' (omega arith) in omega arith
  | inr le ↦ let s = smaller (omega arith) in omega arith
]
