-- Maps of unions, as nodes and sets are added.
use Rattle.std.proofs.Common.{◌≡◌, ◌≢◌, ℕ, ◌<◌, ◌≤◌, ◌+◌, ◌%◌, Bool, true, false, List, length, nat_eq, Some, arith, refl, sym, ap, ◌∙◌, subst, inl, inr, if◌then◌else◌}
use Rattle.std.specs.Int.{bit_at}
use Rattle.std.specs.HashMap.{HashMap, Updates}
use Rattle.std.proofs.lemmas.Bool.{cases_lt, cases_eq}
use Rattle.track_word.proofs.LetterBits.{bit_cases}
use Rattle.letter_diagram.specs.declared.diagrams.Shape.{Shape}
use Rattle.letter_diagram.specs.declared.pair_memo.PairSlot.{PairSlot}
use Rattle.letter_diagram.specs.PairMemo.{AnswersNothing, LearnsPair}
use Rattle.letter_diagram.specs.Diagram.{map_at, top_track, chosen, IsDiagram, Grows}
use Rattle.letter_diagram.specs.Splits.{IsSplit, top_of_both}
use Rattle.letter_diagram.specs.Sets.{SetsKept, IsUnion}
use Rattle.letter_diagram.specs.Merged.{IsWithBit, HasSets, IsUnited, AreUnions, RemembersUnited, IgnoresTrack, IsMerged, AreMerged, RemembersMerged}
use Rattle.letter_diagram.proofs.Canonical.{flip, bit_at-flip_same, bit_at-flip_other, flipped, map_at-agree}
use Rattle.letter_diagram.proofs.Memos.{answers-insert}
use Rattle.letter_diagram.proofs.PairMemos.{pair_answers-learn}
use Rattle.letter_diagram.proofs.Splittings.{top_of_both-grows, chosen-low, chosen-high, low_answer, high_answer}
use Rattle.letter_diagram.proofs.SetNumbers.{IsUnion-kept, IsUnion-same, IsUnion-at}

-- a side of a split does not look at the track
side_map : {shapes : List Shape} → IsDiagram shapes → {track bit : ℕ} (side : ℕ) {letter other : ℕ} → side < length shapes → track < top_track shapes side → IsWithBit other letter track bit
    → map_at shapes side letter ≡ map_at shapes side other
side_map {shapes} is {track} side {letter} {other} known above with =
    map_at-agree shapes is side known letter other (λ k from small. sym (with.same k (let ne : k ≢ track = omega arith in ne)))

pub HasSets-grows : {old new : List Shape} {sets sets' : List (List ℕ)} {a : ℕ} → Grows old new → SetsKept sets sets' → HasSets old sets a → HasSets new sets' a
HasSets-grows {a} grows kept has =
    let known = has.known in
    let longer = grows.longer in
    let more = kept.longer in
    record {
      known = omega arith;
      numbered = λ letter. let n = has.numbered letter in let m = grows.map a letter has.known in omega (arith, n, m, more);
    }

pub HasSets-low : {shapes : List Shape} {sets : List (List ℕ)} {a track low high : ℕ} → IsDiagram shapes
    → IsSplit shapes a track low high → HasSets shapes sets a → HasSets shapes sets low
HasSets-low is s has = record {
  known = s.low_known;
  numbered = λ letter. let m = low_answer is letter s s in let n = has.numbered m.0 in let e = m.1 in omega (arith, n, e);
}

pub HasSets-high : {shapes : List Shape} {sets : List (List ℕ)} {a track low high : ℕ} → IsDiagram shapes
    → IsSplit shapes a track low high → HasSets shapes sets a → HasSets shapes sets high
HasSets-high is s has = record {
  known = s.high_known;
  numbered = λ letter. let m = high_answer is letter s s in let n = has.numbered m.0 in let e = m.1 in omega (arith, n, e);
}

-- a union at values of nodes stays as nodes and sets are added
union-grows : {old new : List Shape} {sets sets' : List (List ℕ)} {a b : ℕ} (la lb : ℕ) {n n' : ℕ} → Grows old new → SetsKept sets sets' → HasSets old sets a → HasSets old sets b → n' ≡ n
    → IsUnion sets (map_at old a la) (map_at old b lb) n → IsUnion sets' (map_at new a la) (map_at new b lb) n'
union-grows {a} {b} la lb grows kept ha hb en is =
    IsUnion-at (sym (grows.map a la ha.known)) (sym (grows.map b lb hb.known)) (sym en) (IsUnion-kept kept (ha.numbered la) (hb.numbered lb) is)

-- a node that looks only at tracks above one ignores that one
IgnoresTrack-above : {shapes : List Shape} → IsDiagram shapes → (node track : ℕ) → node < length shapes → track < top_track shapes node → IgnoresTrack shapes node track
IgnoresTrack-above {shapes} is node track known above = record { same = λ x y agree. map_at-agree shapes is node known x y (λ k from small. agree k (let ne : k ≢ track = omega arith in ne)) }

pub IsUnited-grows : {old new : List Shape} {sets sets' : List (List ℕ)} {a b r : ℕ} → Grows old new → SetsKept sets sets' → IsUnited old sets a b r → IsUnited new sets' a b r
IsUnited-grows {old} {new} {sets} {sets'} {a} {b} {r} grows kept is =
    let longer = grows.longer in
    let k = is.known in
    let top = is.top in
    let tops = top_of_both-grows a b grows is.a_sets.known is.b_sets.known in
    let top_r = grows.top r is.known in
    record {
      a_sets = HasSets-grows grows kept is.a_sets;
      b_sets = HasSets-grows grows kept is.b_sets;
      known = omega arith;
      map = λ letter. union-grows letter letter grows kept is.a_sets is.b_sets (grows.map r letter is.known) (is.map letter);
      top = omega arith;
      ignores = λ track below. record { same = λ x y agree. grows.map r x is.known ∙ (is.ignores track (omega arith)).same x y agree ∙ sym (grows.map r y is.known) };
    }

pub IsUnited-same : {shapes : List Shape} → IsDiagram shapes → {sets : List (List ℕ)} {a : ℕ} (b : ℕ) → a ≡ b → HasSets shapes sets a → IsUnited shapes sets a b a
IsUnited-same {shapes} is {sets} {a} b e has = subst (λ n. IsUnited shapes sets a n a) e (record {
  a_sets = has;
  b_sets = has;
  known = has.known;
  map = λ letter. IsUnion-same sets (map_at shapes a letter) (has.numbered letter);
  top = omega arith;
  ignores = λ track below. IgnoresTrack-above is a track has.known (omega arith);
})

pick : (c : Bool) {sets : List (List ℕ)} {xl xh yl yh nl nh : ℕ} → IsUnion sets xl yl nl
    → IsUnion sets xh yh nh → IsUnion sets (if c then xl else xh) (if c then yl else yh) (if c then nl else nh)
pick true l h = l
pick false l h = h

pub IsUnited-sides : {shapes : List Shape} {sets : List (List ℕ)} {a b : ℕ} (r track : ℕ) {al ah bl bh : ℕ} (low high : ℕ) → HasSets shapes sets a → HasSets shapes sets b → r < length shapes
    → IsSplit shapes a track al ah → IsSplit shapes b track bl bh → track ≡ top_of_both shapes a b → IsUnited shapes sets al bl low → IsUnited shapes sets ah bh high
    → ((letter : ℕ) → map_at shapes r letter ≡ chosen shapes track low high letter) → track ≤ top_track shapes r → IsUnited shapes sets a b r
IsUnited-sides {shapes} r track low high ha hb kr sa sb e ul uh map top = record {
  a_sets = ha;
  b_sets = hb;
  known = kr;
  map = λ letter. IsUnion-at (sym (sa.map letter)) (sym (sb.map letter)) (sym (map letter)) (pick (nat_eq (bit_at letter track) 0) (ul.map letter) (uh.map letter));
  top = subst (λ t. t ≤ top_track shapes r) e top;
  ignores = λ other below.
      let a_low = sa.low_above in
      let a_high = sa.high_above in
      let b_low = sb.low_above in
      let b_high = sb.high_above in
      let ne : track ≢ other = omega arith in
      record {
        same = λ x y agree.
            map x ∙ (λ i. if nat_eq (agree track ne i) 0 then (ul.ignores other (omega arith)).same x y agree i else (uh.ignores other (omega arith)).same x y agree i) ∙ sym (map y);
      };
}

pub RemembersUnited-nothing : {shapes : List Shape} {sets : List (List ℕ)} {memo : List PairSlot} → AnswersNothing memo → RemembersUnited shapes sets memo
RemembersUnited-nothing none = record { united = λ a b r at. absurd (none a b r at) }

pub RemembersUnited-grows : {old new : List Shape} {sets sets' : List (List ℕ)} {memo : List PairSlot} → Grows old new → SetsKept sets sets'
    → RemembersUnited old sets memo → RemembersUnited new sets' memo
RemembersUnited-grows grows kept all = record { united = λ a b r at. IsUnited-grows grows kept (all.united a b r at) }

pub RemembersUnited-learn : {shapes : List Shape} {sets : List (List ℕ)} {memo new : List PairSlot} {a b r : ℕ} → RemembersUnited shapes sets memo
    → LearnsPair memo new a b r → IsUnited shapes sets a b r → RemembersUnited shapes sets new
RemembersUnited-learn {shapes} {sets} all learns is = record { united = pair_answers-learn (IsUnited shapes sets) all.united learns is }

-- the sets that two sides added are unions of sets of both nodes
pub AreUnions-sides : {shapes mid : List Shape} → IsDiagram shapes → {first second third : List (List ℕ)} {a b : ℕ} (track : ℕ) {al ah bl bh : ℕ}
    → Grows shapes mid → SetsKept first second → SetsKept second third
    → IsSplit shapes a track al ah → IsSplit shapes b track bl bh → HasSets shapes first a → HasSets shapes first b → AreUnions shapes (length first) second al bl
    → AreUnions mid (length second) third ah bh
    → AreUnions shapes (length first) third a b
AreUnions-sides is {second} track {ah} {bh} grows kept kept' sa sb ha hb low high = record {
  answer = λ number from below. elim (cases_lt number (length second)) [
    | inl early ↦
        let l = low.answer number from early in
        let m = low_answer is l.0 sa sb in
        let more = kept.longer in
        let na = ha.numbered m.0 in
        let nb = hb.numbered m.0 in
        (m.0, IsUnion-kept kept' (omega (arith, na, more)) (omega (arith, nb, more)) (IsUnion-at m.1 m.2 refl l.1))
    | inr late ↦
        let h = high.answer number late below in
        let m = high_answer is h.0 sa sb in
        (m.0, IsUnion-at (grows.map ah h.0 sa.high_known ∙ m.1) (grows.map bh h.0 sb.high_known ∙ m.2) refl h.1)
  ];
}

pub IsMerged-grows : {old new : List Shape} {sets sets' : List (List ℕ)} {track a r : ℕ} → Grows old new → SetsKept sets sets' → IsMerged old sets track a r → IsMerged new sets' track a r
IsMerged-grows {a} {r} grows kept is =
    let longer = grows.longer in
    let k = is.known in
    let top = is.top in
    let top_a = grows.top a is.source.known in
    let top_r = grows.top r is.known in
    record {
      source = HasSets-grows grows kept is.source;
      known = omega arith;
      map = λ letter off on z o. union-grows off on grows kept is.source is.source (grows.map r letter is.known) (is.map letter off on z o);
      ignores = record { same = λ x y agree. grows.map r x is.known ∙ is.ignores.same x y agree ∙ sym (grows.map r y is.known) };
      top = omega arith;
    }

pub RemembersMerged-grows : {S : Type 0} {old new : List Shape} {sets sets' : List (List ℕ)} {track : ℕ} {memo : HashMap ℕ ℕ S} → Grows old new → SetsKept sets sets'
    → RemembersMerged old sets track memo → RemembersMerged new sets' track memo
RemembersMerged-grows {old} {new} {sets} {sets'} {track} grows kept all = record { merged = λ a r at. IsMerged-grows grows kept (all.merged a r at) }

pub RemembersMerged-insert : {S : Type 0} {shapes : List Shape} {sets : List (List ℕ)} {track : ℕ} {memo new : HashMap ℕ ℕ S} {a r : ℕ} → RemembersMerged shapes sets track memo
    → Updates nat_eq memo new a (Some r) → IsMerged shapes sets track a r → RemembersMerged shapes sets track new
RemembersMerged-insert {shapes} {sets} {track} {memo} {new} {a} {r} all updates is = record { merged = answers-insert (IsMerged shapes sets track) memo new a r all.merged updates is }

-- a map that looks only at tracks above is merged already
pub IsMerged-above : {shapes : List Shape} → IsDiagram shapes → {sets : List (List ℕ)} (track : ℕ) {a : ℕ} → track < top_track shapes a → HasSets shapes sets a → IsMerged shapes sets track a a
IsMerged-above {shapes} is {sets} track {a} above has = record {
  source = has;
  known = has.known;
  map = λ letter off on z o.
      IsUnion-at (side_map is a has.known above z)
      (side_map is a has.known above o) refl (IsUnion-same sets (map_at shapes a letter) (has.numbered letter));
  ignores = IgnoresTrack-above is a track has.known above;
  top = omega arith;
}

-- at the track, the sides are united: old has the sides, shapes their union
pub IsMerged-at : {old shapes : List Shape} → IsDiagram old → {before sets : List (List ℕ)} (track : ℕ) {a low high r : ℕ} → Grows old shapes → SetsKept before sets
    → HasSets old before a → top_track old a ≡ track
    → IsSplit old a track low high → IsUnited shapes sets low high r → IsMerged shapes sets track a r
IsMerged-at {old} is track {a} {low} {high} grows kept has top_a s u =
    let low_above = s.low_above in
    let high_above = s.high_above in
    let low_top = grows.top low s.low_known in
    let high_top = grows.top high s.high_known in
    let top = u.top in
    let top' = grows.top a has.known in
    record {
      source = HasSets-grows grows kept has;
      known = u.known;
      map = λ letter off on z o.
          IsUnion-at
          (grows.map low letter s.low_known ∙ side_map is low s.low_known s.low_above z
          ∙ sym (grows.map a off has.known ∙ s.map off ∙ chosen-low old track low high off z.at))
          (grows.map high letter s.high_known ∙ side_map is high s.high_known s.high_above o ∙ sym (grows.map a on has.known ∙ s.map on ∙ chosen-high old track low high on o.at))
          refl (u.map letter);
      ignores = u.ignores track (omega arith);
      top = omega arith;
    }

-- above the track, both sides of a test are merged
pub IsMerged-test : {shapes : List Shape} {sets : List (List ℕ)} {track a : ℕ} (r own : ℕ) {low high : ℕ} (low' high' : ℕ) → HasSets shapes sets a → r < length shapes → own < track
    → IsSplit shapes a own low high → IsMerged shapes sets track low low' → IsMerged shapes sets track high high'
    → ((letter : ℕ) → map_at shapes r letter ≡ chosen shapes own low' high' letter) → top_track shapes a ≡ own → own ≤ top_track shapes r → IsMerged shapes sets track a r
IsMerged-test {shapes} {track} r own {low} {high} low' high' has kr before s l h map top_a top = record {
  source = has;
  known = kr;
  map = λ letter off on z o.
      let ne : own ≢ track = omega arith in
      IsUnion-at
      ((λ i. if nat_eq (sym (z.same own ne) i) 0 then map_at shapes low off else map_at shapes high off) ∙ sym (s.map off))
      ((λ i. if nat_eq (sym (o.same own ne) i) 0 then map_at shapes low on else map_at shapes high on) ∙ sym (s.map on))
      (sym (map letter)) (pick (nat_eq (bit_at letter own) 0) (l.map letter off on z o) (h.map letter off on z o));
  ignores = record {
    same = λ x y agree.
        let ne : own ≢ track = omega arith in
        map x ∙ (λ i. if nat_eq (agree own ne i) 0 then l.ignores.same x y agree i else h.ignores.same x y agree i) ∙ sym (map y);
  };
  top = subst (λ t. t ≤ top_track shapes r) (sym top_a) top;
}

-- the unions of both sides are unions of the sets at two letters
pub AreMerged-at : {shapes : List Shape} → IsDiagram shapes → {from : ℕ} {sets : List (List ℕ)} (track : ℕ) {a low high : ℕ} → IsSplit shapes a track low high
    → AreUnions shapes from sets low high → AreMerged shapes from sets track a
AreMerged-at {shapes} is track {low} {high} s all = record {
  answer = λ number above below.
      let u = all.answer number above below in
      let other = flip u.0 track in
      elim (bit_cases u.0 track) [
        | inl z ↦
            let o = bit_at-flip_same u.0 track ∙ ap (λ n. (n + 1) % 2) z in (
              u.0,
              other,
              z,
              record { same = λ k ne. bit_at-flip_other u.0 track k ne; at = o },
              IsUnion-at (sym (s.map u.0 ∙ chosen-low shapes track low high u.0 z))
                  (flipped shapes is high track u.0 s.high_known s.high_above ∙ sym (s.map other ∙ chosen-high shapes track low high other o)) refl u.1,
            )
        | inr o ↦
            let z = bit_at-flip_same u.0 track ∙ ap (λ n. (n + 1) % 2) o in (
              other,
              u.0,
              z,
              record { same = λ k ne. sym (bit_at-flip_other u.0 track k ne); at = o },
              IsUnion-at
                  (flipped shapes is low track u.0 s.low_known s.low_above ∙ sym (s.map other ∙ chosen-low shapes track low high other z))
                  (sym (s.map u.0 ∙ chosen-high shapes track low high u.0 o)) refl u.1,
            )
      ];
}

-- two letters that differ in one track still do so after another track's bit is turned
flipped_pair : (off on own track : ℕ) → own ≢ track → bit_at off track ≡ 0 → IsWithBit on off track 1
    → (bit_at (flip off own) track ≡ 0) × IsWithBit (flip on own) (flip off own) track 1
flipped_pair off on own track ne z with =
    let back : track ≢ own = λ e. ne (sym e) in (
      bit_at-flip_other off own track back ∙ z,
      record {
        same = λ k other. elim (cases_eq k own) [
          | inl e ↦
              ap (λ n. bit_at (flip on own) n) e ∙ bit_at-flip_same on own ∙ ap (λ n. (n + 1) % 2) (with.same own ne)
              ∙ sym (bit_at-flip_same off own) ∙ ap (λ n. bit_at (flip off own) n) (sym e)
          | inr differ ↦ bit_at-flip_other on own k differ ∙ with.same k other ∙ sym (bit_at-flip_other off own k differ)
        ];
        at = bit_at-flip_other on own track back ∙ with.at;
      },
    )

module _ (shapes : List Shape) (is : IsDiagram shapes) (sets : List (List ℕ)) (track a own low high : ℕ) (ne : own ≢ track) (s : IsSplit shapes a own low high) where
  -- the sides give at two letters what the node gives at two letters
  low_pair : {off on n : ℕ} → bit_at off track ≡ 0 → IsWithBit on off track 1 → IsUnion sets (map_at shapes low off) (map_at shapes low on) n
      → (z o : ℕ) × (bit_at z track ≡ 0) × IsWithBit o z track 1 × IsUnion sets (map_at shapes a z) (map_at shapes a o) n
  low_pair {off} {on} {n} bit with union = elim (bit_cases off own) [
    | inl z ↦
        (off, on, bit, with, IsUnion-at (sym (s.map off ∙ chosen-low shapes own low high off z)) (sym (s.map on ∙ chosen-low shapes own low high on (with.same own ne ∙ z))) refl union)
    | inr o ↦
        let p = flipped_pair off on own track ne bit with in
        let z = bit_at-flip_same off own ∙ ap (λ n. (n + 1) % 2) o in
        let z' = bit_at-flip_same on own ∙ ap (λ n. (n + 1) % 2) (with.same own ne ∙ o) in (
          flip off own,
          flip on own,
          p.0,
          p.1,
          IsUnion-at
              (flipped shapes is low own off s.low_known s.low_above ∙ sym (s.map (flip off own) ∙ chosen-low shapes own low high (flip off own) z))
              (flipped shapes is low own on s.low_known s.low_above ∙ sym (s.map (flip on own) ∙ chosen-low shapes own low high (flip on own) z'))
              refl union,
        )
  ]

  high_pair : {off on n : ℕ} → bit_at off track ≡ 0 → IsWithBit on off track 1 → IsUnion sets (map_at shapes high off) (map_at shapes high on) n
      → (z o : ℕ) × (bit_at z track ≡ 0) × IsWithBit o z track 1 × IsUnion sets (map_at shapes a z) (map_at shapes a o) n
  high_pair {off} {on} {n} bit with union = elim (bit_cases off own) [
    | inr o ↦
        (off, on, bit, with, IsUnion-at (sym (s.map off ∙ chosen-high shapes own low high off o)) (sym (s.map on ∙ chosen-high shapes own low high on (with.same own ne ∙ o))) refl union)
    | inl z ↦
        let p = flipped_pair off on own track ne bit with in
        let o = bit_at-flip_same off own ∙ ap (λ n. (n + 1) % 2) z in
        let o' = bit_at-flip_same on own ∙ ap (λ n. (n + 1) % 2) (with.same own ne ∙ z) in (
          flip off own,
          flip on own,
          p.0,
          p.1,
          IsUnion-at
              (flipped shapes is high own off s.high_known s.high_above ∙ sym (s.map (flip off own) ∙ chosen-high shapes own low high (flip off own) o))
              (flipped shapes is high own on s.high_known s.high_above ∙ sym (s.map (flip on own) ∙ chosen-high shapes own low high (flip on own) o'))
              refl union,
        )
  ]

-- the sets that two sides added are unions of sets of the node
pub AreMerged-sides : {shapes mid : List Shape} → IsDiagram shapes → {first second third : List (List ℕ)} (track : ℕ) {a : ℕ} (own : ℕ) {low high : ℕ} → own < track → Grows shapes mid
    → SetsKept first second → SetsKept second third
    → IsSplit shapes a own low high → HasSets shapes first a → AreMerged shapes (length first) second track low → AreMerged mid (length second) third track high
    → AreMerged shapes (length first) third track a
AreMerged-sides {shapes} is {second} {third} track {a} own {low} {high} before grows kept kept' s has l h = record {
  answer = λ number from below.
      let ne : own ≢ track = omega arith in
      elim (cases_lt number (length second)) [
        | inl early ↦
            let u = l.answer number from early in
            let m = low_pair shapes is second track a own low high ne s u.2 u.3 u.4 in
            let more = kept.longer in
            let n0 = has.numbered m.0 in
            let n1 = has.numbered m.1 in
            (m.0, m.1, m.2, m.3, IsUnion-kept kept' (omega (arith, n0, more)) (omega (arith, n1, more)) m.4)
        | inr late ↦
            let u = h.answer number late below in
            high_pair shapes is third track a own low high ne s u.2 u.3 (IsUnion-at (grows.map high u.0 s.high_known) (grows.map high u.1 s.high_known) refl u.4)
      ];
}
