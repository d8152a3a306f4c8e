-- Maps that are one of two maps, as nodes are added.
use Rattle.std.proofs.Common.{◌≡◌, ℕ, ◌<◌, ◌≤◌, Bool, true, false, List, length, nat_eq, arith, sym, ◌∙◌, if◌then◌else◌}
use Rattle.std.specs.Int.{bit_at}
use Rattle.letter_diagram.specs.declared.diagrams.Shape.{Shape}
use Rattle.letter_diagram.specs.declared.pair_memo.PairSlot.{PairSlot}
use Rattle.letter_diagram.specs.Diagram.{map_at, top_track, chosen, Grows}
use Rattle.letter_diagram.specs.Splits.{IsSplit, top_of_both}
use Rattle.letter_diagram.specs.PairMemo.{AnswersNothing, LearnsPair}
use Rattle.letter_diagram.specs.Chosen.{IsChosen, RemembersChosen}
use Rattle.letter_diagram.proofs.Splittings.{top_of_both-grows, chosen-grows}
use Rattle.letter_diagram.proofs.PairMemos.{pair_answers-learn}

pub IsChosen-grows : {old new : List Shape} {track low high r : ℕ} → Grows old new → IsChosen old track low high r → IsChosen new track low high r
IsChosen-grows {old} {new} {track} {low} {high} {r} grows is =
    let longer = grows.longer in
    let known = is.known in
    let low_known = is.low_known in
    let high_known = is.high_known in
    let top = is.top in
    let tops = top_of_both-grows low high grows is.low_known is.high_known in
    let top_r = grows.top r is.known in
    record {
      known = omega arith;
      low_known = omega arith;
      high_known = omega arith;
      map = λ letter. grows.map r letter is.known ∙ is.map letter ∙ sym (chosen-grows track low high letter is.low_known is.high_known grows);
      top = omega arith;
    }

pub RemembersChosen-nothing : {shapes : List Shape} {track : ℕ} {memo : List PairSlot} → AnswersNothing memo → RemembersChosen shapes track memo
RemembersChosen-nothing none = record { chosen = λ low high r at. absurd (none low high r at) }

pub RemembersChosen-grows : {old new : List Shape} {track : ℕ} {memo : List PairSlot}
    → Grows old new → RemembersChosen old track memo → RemembersChosen new track memo
RemembersChosen-grows grows all = record { chosen = λ low high r at. IsChosen-grows grows (all.chosen low high r at) }

pub RemembersChosen-learn : {shapes : List Shape} {track : ℕ} {memo new : List PairSlot} {low high r : ℕ} → RemembersChosen shapes track memo
    → LearnsPair memo new low high r → IsChosen shapes track low high r → RemembersChosen shapes track new
RemembersChosen-learn {shapes} {track} all learns is = record { chosen = pair_answers-learn (IsChosen shapes track) all.chosen learns is }

-- before the track, the choices between the sides of both maps
pub IsChosen-sides : {shapes : List Shape} {track : ℕ} (own : ℕ) {low high : ℕ} (r : ℕ) {low_off low_on high_off high_on : ℕ} (off on : ℕ) → low < length shapes → high < length shapes → r < length shapes
    → own < track → own ≡ top_of_both shapes low high
    → IsSplit shapes low own low_off low_on → IsSplit shapes high own high_off high_on → IsChosen shapes track low_off high_off off → IsChosen shapes track low_on high_on on
    → ((letter : ℕ) → map_at shapes r letter ≡ chosen shapes own off on letter) → own ≤ top_track shapes r → IsChosen shapes track low high r
IsChosen-sides {track} own r off on kl kh kr before is_own sl sh is_off is_on map top = record {
  known = kr;
  low_known = kl;
  high_known = kh;
  map = λ letter. map letter ∙ cross (nat_eq (bit_at letter own) 0) (nat_eq (bit_at letter track) 0) _ _ _ _ _ _ _ _ (is_off.map letter) (is_on.map letter) (sl.map letter) (sh.map letter);
  top = omega arith;
}
  where
    cross : (first bit : Bool) (f n l h lf ln hf hn : ℕ) → f ≡ (if bit then lf else hf) → n ≡ (if bit then ln else hn) → l ≡ (if first then lf else ln)
        → h ≡ (if first then hf else hn) → (if first then f else n) ≡ (if bit then l else h)
    cross true true f n l h lf ln hf hn p q s t = p ∙ sym s
    cross true false f n l h lf ln hf hn p q s t = p ∙ sym t
    cross false true f n l h lf ln hf hn p q s t = q ∙ sym s
    cross false false f n l h lf ln hf hn p q s t = q ∙ sym t
