-- Nodes of one side of a product, as they are read.
use Rattle.std.proofs.Common.{None, Some, ◌≡◌, ℕ, zero, suc, ◌<◌, ◌≤◌, List, length, get_or, nat_eq, All, arith, refl, sym, ap, ◌∙◌, subst, inl, inr, if◌then◌else◌}
use Rattle.std.specs.Int.{bit_at}
use Rattle.std.specs.List.Sorted.{IsStrictlyIncreasing}
use Rattle.std.proofs.lemmas.Bool.{cases_lt}
use Rattle.std.proofs.lemmas.List.{get_or_past}
use Rattle.std.proofs.lemmas.List.Elements.{All-get_or}
use Rattle.std.proofs.lemmas.List.Kept.{AllPairs-from_increasing}
use Rattle.std.proofs.lemmas.Nat.Bits.{bit_at_above}
use Rattle.letter_diagram.specs.declared.diagrams.Shape.{Shape}
use Rattle.letter_diagram.specs.declared.diagrams.Shape.TheVariants.{Leaf, Test}
use Rattle.letter_diagram.specs.Diagram.{top_track, FitsBelow, IsDiagram, IsTest, IsAt, Grows}
use Rattle.letter_diagram.specs.Relabelled.{relabelled}
use Rattle.diagram_product.specs.Sided.{Reading, read_shapes, read_letter, read_track, read_tracks, CanBeRead, read_at, read_top, LooksFrom, IsReadLeaf, IsReadTest, IsRead}
use Rattle.letter_diagram.proofs.Canonical.{map_at-agree}
use Rattle.letter_diagram.proofs.Narrow.{LooksBelow-low, LooksBelow-high, LooksBelow-grows, track-below, bit_at-relabelled, relabelled-below}
use Rattle.letter_diagram.proofs.Maps.{Grows-refl}

-- a track takes the bit of its place, and later tracks have later places
pub record IsReading (reading : Reading) : Type 0 where
  pub bits : (letter track : ℕ) → track < read_tracks reading → bit_at (read_letter reading letter) track ≡ bit_at letter (read_track reading track)
  pub agree : (a b top : ℕ) → ((k : ℕ) → read_track reading top ≤ k → bit_at a k ≡ bit_at b k)
      → (k : ℕ) → top ≤ k → bit_at (read_letter reading a) k ≡ bit_at (read_letter reading b) k
  pub low : (track : ℕ) → track < read_tracks reading → read_track reading track < 20
  pub rise : (track later : ℕ) → track < later → track < read_tracks reading → read_track reading track < read_track reading later
  pub most : read_track reading 20 ≡ 20

pub IsReading-here : IsReading None
IsReading-here = record {
  bits = λ letter track below. refl;
  agree = λ a b top same. same;
  low = λ track below. below;
  rise = λ track later less below. less;
  most = refl;
}

-- ascending places below 20
module _ (from : List Shape) (tracks : List ℕ) (ascending : IsStrictlyIncreasing tracks) (low : All (λ track. track < 20) tracks) where
  low_at : (track : ℕ) → track < length tracks → get_or tracks track 20 < 20
  low_at track below = All-get_or (λ t. t < 20) tracks track 20 below low

  rise_at : (track later : ℕ) → track < later → track < length tracks → get_or tracks track 20 < get_or tracks later 20
  rise_at track later less below = elim (cases_lt later (length tracks)) [
    | inl within ↦ AllPairs-from_increasing tracks ascending track later 20 less within
    | inr past ↦ let here = low_at track below in let most = get_or_past tracks later 20 past in omega (arith, here, most)
  ]

  not_before : (track : ℕ) → track < length tracks → track ≤ get_or tracks track 20
  not_before zero below = omega arith
  not_before (suc track) below =
      let before = not_before track (omega arith) in
      let less = rise_at track (suc track) (omega arith) (omega arith) in
      omega (arith, before, less)

  pub few_tracks : length tracks ≤ 20
  few_tracks = elim (cases_lt 20 (length tracks)) [
    | inl many ↦ let far = not_before 20 many in let here = low_at 20 many in absurd (omega (arith, far, here))
    | inr few ↦ few
  ]

  pub IsReading-lent : IsReading (Some (record { shapes = from; tracks = tracks }))
  IsReading-lent = record {
    bits = λ letter track below. bit_at-relabelled tracks letter track 20 below;
    agree = λ a b top same k from_top. elim (cases_lt k (length tracks)) [
      | inl within ↦
          let above : get_or tracks top 20 ≤ get_or tracks k 20 = elim (cases_lt top k) [
            | inl less ↦ let r = rise_at top k less (omega arith) in omega (arith, r)
            | inr least ↦ let e : top ≡ k = omega arith in subst (λ n. get_or tracks top 20 ≤ get_or tracks n 20) e (omega arith)
          ] in
          bit_at-relabelled tracks a k 20 within ∙ same (get_or tracks k 20) above ∙ sym (bit_at-relabelled tracks b k 20 within)
      | inr past ↦
          bit_at_above (relabelled tracks a) (length tracks) k (relabelled-below tracks a) past
          ∙ sym (bit_at_above (relabelled tracks b) (length tracks) k (relabelled-below tracks b) past)
    ];
    low = low_at;
    rise = rise_at;
    most = get_or_past tracks 20 20 few_tracks;
  }

read_shapes-grows : (reading : Reading) {old new : List Shape} → Grows old new → Grows (read_shapes reading old) (read_shapes reading new)
read_shapes-grows None grows = grows
read_shapes-grows (Some lent) grows = Grows-refl lent.shapes

-- what is read stays as nodes are added
module _ (reading : Reading) (old new : List Shape) (node : ℕ) (grows : Grows old new) (read : CanBeRead reading old node) where
  pub CanBeRead-grows : CanBeRead reading new node
  CanBeRead-grows =
      let more = read_shapes-grows reading grows in
      let known = read.known in
      let longer = more.longer in
      record {
        known = omega (arith, known, longer);
        narrow = λ few. LooksBelow-grows read.known more (read.narrow few);
      }

  pub read_at-grows : (letter : ℕ) → read_at reading new node letter ≡ read_at reading old node letter
  read_at-grows letter = (read_shapes-grows reading grows).map node (read_letter reading letter) read.known

  pub read_top-grows : read_top reading new node ≡ read_top reading old node
  read_top-grows = ap (read_track reading) ((read_shapes-grows reading grows).top node read.known)

module _ (reading : Reading) (law : IsReading reading) (shapes : List Shape) (is : IsDiagram (read_shapes reading shapes)) (node : ℕ) where
  pub LooksFrom-read : node < length (read_shapes reading shapes) → LooksFrom (read_at reading shapes node) (read_top reading shapes node)
  LooksFrom-read known = record {
    same = λ a b agree.
        map_at-agree (read_shapes reading shapes) is node known (read_letter reading a) (read_letter reading b) (λ k from below.
        law.agree a b (top_track (read_shapes reading shapes) node) agree k from);
  }

  pub IsReadLeaf-at : (value : ℕ) → IsAt (read_shapes reading shapes) node (Leaf value) → IsReadLeaf reading shapes node value
  IsReadLeaf-at value at = record { map = λ letter. at.map (read_letter reading letter); top = ap (read_track reading) at.top ∙ law.most }

module _ (reading : Reading) (law : IsReading reading) (shapes : List Shape) (is : IsDiagram (read_shapes reading shapes)) (node track low high : ℕ)
    (read : CanBeRead reading shapes node) (at : IsAt (read_shapes reading shapes) node (Test track low high)) (fits : IsTest (read_shapes reading shapes) node track low high) where
  pub tested-within : track < read_tracks reading
  tested-within = elim (cases_lt (read_tracks reading) 20) [
    | inl few ↦ track-below is at fits (read.narrow few)
    | inr all ↦ let t = fits.track_low in omega (arith, t, all)
  ]

  low_known : low < length (read_shapes reading shapes)
  low_known = let known = read.known in let before = fits.low_before in omega (arith, known, before)

  high_known : high < length (read_shapes reading shapes)
  high_known = let known = read.known in let before = fits.high_before in omega (arith, known, before)

  pub IsReadTest-at : IsReadTest reading shapes node (read_track reading track) low high
  IsReadTest-at = record {
    track_low = law.low track tested-within;
    top = ap (read_track reading) at.top;
    split = record {
      low_read = record { known = low_known; narrow = λ few. LooksBelow-low is at fits (read.narrow few) };
      high_read = record { known = high_known; narrow = λ few. LooksBelow-high is at fits (read.narrow few) };
      map = λ letter.
          at.map (read_letter reading letter)
          ∙ (λ i. if nat_eq (law.bits letter track tested-within i) 0 then read_at reading shapes low letter else read_at reading shapes high letter);
      low_above = law.rise track (top_track (read_shapes reading shapes) low) fits.low_above tested-within;
      high_above = law.rise track (top_track (read_shapes reading shapes) high) fits.high_above tested-within;
      low_from = LooksFrom-read reading law shapes is low low_known;
      high_from = LooksFrom-read reading law shapes is high high_known;
      low_within = let before = fits.low_before in omega (arith, before);
      high_within = let before = fits.high_before in omega (arith, before);
      low_smaller = λ e. fits.low_before;
      high_smaller = λ e. fits.high_before;
    };
  }

-- nodes as they are have the shapes that they have
pub IsRead-here : {shapes : List Shape} → IsDiagram shapes → {node : ℕ} → CanBeRead None shapes node → {shape : Shape} → IsAt shapes node shape → FitsBelow shapes node shape
    → IsRead None shapes node shape
IsRead-here {shapes} is {node} read {shape = Leaf value} at fits = IsReadLeaf-at None IsReading-here shapes is node value at
IsRead-here {shapes} is {node} read {shape = Test track low high} at fits = IsReadTest-at None IsReading-here shapes is node track low high read at fits
