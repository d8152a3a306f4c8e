-- Maps of pairs of two sides, as nodes and pairs are added.
use Rattle.std.proofs.Common.{◌≡◌, ◌≢◌, ℕ, ◌<◌, ◌≤◌, ◌+◌, ◌%◌, min, Bool, true, false, List, length, slice_get, get_or, nat_eq, Some, arith, refl, sym, ap, ◌∙◌, subst, inl, inr, if◌then◌else◌}
use Rattle.std.specs.Int.{bit_at}
use Rattle.std.proofs.lemmas.Bool.{cases_lt}
use Rattle.std.proofs.lemmas.List.{length_push, get_or_push}
use Rattle.std.proofs.lemmas.Option.{slice_get-get_or}
use Rattle.track_word.proofs.LetterBits.{bit_cases}
use Rattle.letter_diagram.specs.declared.diagrams.Shape.{Shape}
use Rattle.diagram_product.specs.declared.absorbing.Absorbing.{Absorbing}
use Rattle.letter_diagram.specs.Diagram.{map_at, top_track, chosen, Grows}
use Rattle.letter_diagram.specs.Numbering.{Numbers, PairsKept}
use Rattle.letter_diagram.specs.declared.pair_memo.PairSlot.{PairSlot}
use Rattle.letter_diagram.specs.PairMemo.{AnswersNothing, LearnsPair}
use Rattle.letter_diagram.specs.Splits.{room_from}
use Rattle.diagram_product.specs.Absorbed.{absorbed, ArePairs}
use Rattle.diagram_product.specs.Sided.{Reading, Sides, read_at, read_top, LooksFrom, IsReadSplit, pair_at, pair_top, AreReadPairs, CanBePaired, IsPaired, RemembersPaired}
use Rattle.letter_diagram.proofs.Canonical.{flip, bit_at-flip_same, bit_at-flip_other}
use Rattle.letter_diagram.proofs.PairMemos.{pair_answers-learn}
use Rattle.diagram_product.proofs.Readings.{CanBeRead-grows, read_at-grows, read_top-grows}

-- two sides as nodes are added
module _ {sides : Sides} {old new : List Shape} {a b : ℕ} (grows : Grows old new) (read : CanBePaired sides old a b) where
  pub CanBePaired-grows : CanBePaired sides new a b
  CanBePaired-grows = record { left = CanBeRead-grows sides.left old new a grows read.left; right = CanBeRead-grows sides.right old new b grows read.right }

  pub pair_at-grows : (letter : ℕ) → pair_at sides new a b letter ≡ pair_at sides old a b letter
  pair_at-grows letter = λ i. absorbed sides.absorbing (read_at-grows sides.left old new a grows read.left letter i) (read_at-grows sides.right old new b grows read.right letter i)

  pub pair_top-grows : pair_top sides new a b ≡ pair_top sides old a b
  pair_top-grows = λ i. min (read_top-grows sides.left old new a grows read.left i) (read_top-grows sides.right old new b grows read.right i)

  pub room-grows : room_from (pair_top sides new a b) ≡ room_from (pair_top sides old a b)
  room-grows = ap room_from pair_top-grows

pub IsPaired-grows : {sides : Sides} {old new : List Shape} {pairs pairs' : List (ℕ × ℕ)} {a b r : ℕ} → Grows old new → PairsKept pairs pairs' → IsPaired sides old pairs a b r
    → IsPaired sides new pairs' a b r
IsPaired-grows {pairs'} {r} grows kept is =
    let longer = grows.longer in
    let known = is.known in
    let top = is.top in
    let tops = pair_top-grows grows is.read in
    let top_r = grows.top r is.known in
    record {
      read = CanBePaired-grows grows is.read;
      known = omega (arith, longer, known);
      map =
          λ letter. ap (λ n. slice_get pairs' n) (grows.map r letter is.known) ∙ kept.at _ _ (is.map letter)
          ∙ ap Some (sym (pair_at-grows grows is.read letter));
      top = rw (tops, top_r) top;
    }

pub RemembersPaired-nothing : {sides : Sides} {shapes : List Shape} {pairs : List (ℕ × ℕ)} {memo : List PairSlot} → AnswersNothing memo → RemembersPaired sides shapes pairs memo
RemembersPaired-nothing none = record { paired = λ a b r at. absurd (none a b r at) }

pub RemembersPaired-grows : {sides : Sides} {old new : List Shape} {pairs pairs' : List (ℕ × ℕ)} {memo : List PairSlot} → Grows old new
    → PairsKept pairs pairs' → RemembersPaired sides old pairs memo → RemembersPaired sides new pairs' memo
RemembersPaired-grows grows kept all = record { paired = λ a b r at. IsPaired-grows grows kept (all.paired a b r at) }

pub RemembersPaired-learn : {sides : Sides} {shapes : List Shape} {pairs : List (ℕ × ℕ)} {memo new : List PairSlot} {a b r : ℕ}
    → RemembersPaired sides shapes pairs memo
    → LearnsPair memo new a b r → IsPaired sides shapes pairs a b r → RemembersPaired sides shapes pairs new
RemembersPaired-learn {sides} {shapes} {pairs} all learns is = record { paired = pair_answers-learn (IsPaired sides shapes pairs) all.paired learns is }

-- one pair at each letter
pub IsPaired-leaf : {sides : Sides} {old new : List Shape} (pairs : List (ℕ × ℕ)) {a b : ℕ} (r number : ℕ) (pair : ℕ × ℕ) → CanBePaired sides old a b → Grows old new → r < length new
    → ((letter : ℕ) → pair_at sides old a b letter ≡ pair) → slice_get pairs number ≡ Some pair
    → ((letter : ℕ) → map_at new r letter ≡ number) → top_track new r ≡ 20 → pair_top sides old a b ≤ 20
    → IsPaired sides new pairs a b r
IsPaired-leaf pairs r number pair read grows known one at map top small = record {
  read = CanBePaired-grows grows read;
  known = known;
  map = λ letter. ap (λ n. slice_get pairs n) (map letter) ∙ at ∙ ap Some (sym (pair_at-grows grows read letter ∙ one letter));
  top = rw (pair_top-grows grows read, top) small;
}

-- one pair that was added
pub ArePairs-leaf : (g : Absorbing) (old new : List (ℕ × ℕ)) (left right : ℕ → ℕ) (pair : ℕ × ℕ)
    → ((letter : ℕ) → absorbed g (left letter) (right letter) ≡ pair) → Numbers old new pair
    → ArePairs g (length old) new left right
ArePairs-leaf g old new left right pair one (inl e) = record { answer = λ n from below. let l = ap length e in absurd (omega (arith, l, from, below)) }
ArePairs-leaf g old new left right pair one (inr (e, absent)) = record {
  answer = λ n from below.
      let l = ap length e ∙ length_push old pair in
      let last : n ≡ length old = omega (arith, l, from, below) in (
        0,
        ap (λ k. slice_get new k) last ∙ slice_get-get_or new (length old) pair (omega (arith, l))
            ∙ ap Some (ap (λ k. get_or k (length old) pair) e ∙ get_or_push old _ _ (length old) refl ∙ sym (one 0)),
      );
}

pick : (c : Bool) (g : Absorbing) (pairs : List (ℕ × ℕ)) (x y xa ya xb yb : ℕ) → slice_get pairs x ≡ Some (absorbed g xa xb) → slice_get pairs y ≡ Some (absorbed g ya yb)
    → slice_get pairs (if c then x else y) ≡ Some (absorbed g (if c then xa else ya) (if c then xb else yb))
pick true g pairs x y xa ya xb yb p q = p
pick false g pairs x y xa ya xb yb p q = q

-- a part at letters with one bit of the track
module _ {reading : Reading} {shapes : List Shape} {track : ℕ} where
  clear : {node low high : ℕ} → IsReadSplit reading shapes node track low high → (letter : ℕ)
      → bit_at letter track ≡ 0 → read_at reading shapes node letter ≡ read_at reading shapes low letter
  clear {low} {high} split letter z = split.map letter ∙ ap (λ n. if nat_eq n 0 then read_at reading shapes low letter else read_at reading shapes high letter) z

  set : {node low high : ℕ} → IsReadSplit reading shapes node track low high → (letter : ℕ)
      → bit_at letter track ≡ 1 → read_at reading shapes node letter ≡ read_at reading shapes high letter
  set {low} {high} split letter o = split.map letter ∙ ap (λ n. if nat_eq n 0 then read_at reading shapes low letter else read_at reading shapes high letter) o

-- a part that looks only at later tracks is the same with the other bit of the track
steady : (reading : Reading) (shapes : List Shape) (track part : ℕ) → track < read_top reading shapes part → LooksFrom (read_at reading shapes part) (read_top reading shapes part) → (letter : ℕ)
    → read_at reading shapes part letter ≡ read_at reading shapes part (flip letter track)
steady reading shapes track part above from letter = from.same letter (flip letter track) (λ k past. sym (bit_at-flip_other letter track k (let ne : k ≢ track = omega (arith, above, past) in ne)))

-- the parts of two sides by the bit of a track
module _ {sides : Sides} {shapes : List Shape} {a b track al ah bl bh : ℕ} (read : CanBePaired sides shapes a b)
    (left : IsReadSplit sides.left shapes a track al ah) (right : IsReadSplit sides.right shapes b track bl bh) where
  pub CanBePaired-low : CanBePaired sides shapes al bl
  CanBePaired-low = record { left = left.low_read; right = right.low_read }

  pub CanBePaired-high : CanBePaired sides shapes ah bh
  CanBePaired-high = record { left = left.high_read; right = right.high_read }

  pub IsPaired-parts : {new : List Shape} {pairs : List (ℕ × ℕ)} {r low high : ℕ} → Grows shapes new → r < length new → track ≡ pair_top sides shapes a b
      → IsPaired sides new pairs al bl low → IsPaired sides new pairs ah bh high → ((letter : ℕ) → map_at new r letter ≡ chosen new track low high letter) → track ≤ top_track new r
      → IsPaired sides new pairs a b r
  IsPaired-parts {new} {pairs} {r} grows known e pl ph map top = record {
    read = CanBePaired-grows grows read;
    known = known;
    map = λ letter.
        let below = pl.map letter ∙ ap Some (pair_at-grows grows CanBePaired-low letter) in
        let above = ph.map letter ∙ ap Some (pair_at-grows grows CanBePaired-high letter) in
        ap (λ n. slice_get pairs n) (map letter)
        ∙ pick (nat_eq (bit_at letter track) 0) sides.absorbing pairs _ _ _ _ _ _ below above
        ∙ (λ i. Some (absorbed sides.absorbing (sym (left.map letter) i) (sym (right.map letter) i)))
        ∙ ap Some (sym (pair_at-grows grows read letter));
    top = subst (λ t. t ≤ top_track new r) (e ∙ sym (pair_top-grows grows read)) top;
  }

  -- the pair at a letter is that of one of the parts
  pub pair_at-split : (letter : ℕ)
      → pair_at sides shapes a b letter ≡ (if nat_eq (bit_at letter track) 0 then pair_at sides shapes al bl letter else pair_at sides shapes ah bh letter)
  pair_at-split letter =
      (λ i. absorbed sides.absorbing (left.map letter i) (right.map letter i))
      ∙ both (nat_eq (bit_at letter track) 0)
    where
      both : (c : Bool) → absorbed sides.absorbing (if c then read_at sides.left shapes al letter else read_at sides.left shapes ah letter) (if c then read_at sides.right shapes bl letter else read_at sides.right shapes bh letter)
          ≡ (if c then pair_at sides shapes al bl letter else pair_at sides shapes ah bh letter)
      both true = refl
      both false = refl

  pub pair_top-low : track < pair_top sides shapes al bl
  pair_top-low = let l = left.low_above in let r = right.low_above in omega (arith, l, r)

  pub pair_top-high : track < pair_top sides shapes ah bh
  pair_top-high = let l = left.high_above in let r = right.high_above in omega (arith, l, r)

  -- the values of the parts at a letter are values of the sides
  pub low_answer : (letter : ℕ) → (l : ℕ) × (pair_at sides shapes al bl letter ≡ pair_at sides shapes a b l)
  low_answer letter = elim (bit_cases letter track) [
    | inl z ↦ (letter, λ i. absorbed sides.absorbing (sym (clear left letter z) i) (sym (clear right letter z) i))
    | inr o ↦
        let z = bit_at-flip_same letter track ∙ ap (λ n. (n + 1) % 2) o in
        let same = steady sides.left shapes track al left.low_above left.low_from letter ∙ sym (clear left (flip letter track) z) in
        let same' = steady sides.right shapes track bl right.low_above right.low_from letter ∙ sym (clear right (flip letter track) z) in
        (flip letter track, λ i. absorbed sides.absorbing (same i) (same' i))
  ]

  pub high_answer : (letter : ℕ) → (l : ℕ) × (pair_at sides shapes ah bh letter ≡ pair_at sides shapes a b l)
  high_answer letter = elim (bit_cases letter track) [
    | inr o ↦ (letter, λ i. absorbed sides.absorbing (sym (set left letter o) i) (sym (set right letter o) i))
    | inl z ↦
        let o = bit_at-flip_same letter track ∙ ap (λ n. (n + 1) % 2) z in
        let same = steady sides.left shapes track ah left.high_above left.high_from letter ∙ sym (set left (flip letter track) o) in
        let same' = steady sides.right shapes track bh right.high_above right.high_from letter ∙ sym (set right (flip letter track) o) in
        (flip letter track, λ i. absorbed sides.absorbing (same i) (same' i))
  ]

  -- the pairs that both parts added are pairs of the sides
  pub ArePairs-parts : {mid : List Shape} (first : List (ℕ × ℕ)) {second third : List (ℕ × ℕ)} → Grows shapes mid → PairsKept second third
      → AreReadPairs sides shapes (length first) second al bl → AreReadPairs sides mid (length second) third ah bh
      → AreReadPairs sides shapes (length first) third a b
  ArePairs-parts first {second} grows kept low high = record {
    answer = λ number from below. elim (cases_lt number (length second)) [
      | inl early ↦
          let l = low.answer number from early in
          let m = low_answer l.0 in
          (m.0, kept.at _ _ l.1 ∙ ap Some m.1)
      | inr late ↦
          let h = high.answer number late below in
          let m = high_answer h.0 in
          (m.0, h.1 ∙ ap Some (pair_at-grows grows CanBePaired-high h.0 ∙ m.1))
    ];
  }
