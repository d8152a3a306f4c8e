-- Two nodes with equal maps are equal.
use Rattle.std.proofs.Common.{◌≡◌, ◌≢◌, ℕ, zero, suc, ◌<◌, ◌+◌, ◌%◌, ◌^◌, List, length, get_or, nat_eq, Some, arith, sym, ap, ◌∙◌, subst, if◌then◌else◌, inl, inr}
use Rattle.std.specs.Int.{bit_at}
use Rattle.std.specs.Int.RustNames.{bit_xor}
use Rattle.std.proofs.lemmas.Grind.{common_steps}
use Rattle.std.proofs.lemmas.Bool.{cases_order}
use Rattle.std.proofs.lemmas.Nat.Bits.{bit_at-lt, bit_at_xor, bit_at-pow_same, bit_at-pow_other}
use Rattle.std.proofs.lemmas.Option.{slice_get-get_or}
use Rattle.track_word.proofs.LetterBits.{bit_cases, low_bits}
use Rattle.letter_diagram.specs.declared.diagrams.Shape.{Shape}
use Rattle.letter_diagram.specs.declared.diagrams.Shape.TheVariants.{Leaf, Test}
use Rattle.letter_diagram.specs.Diagram.{map_at, top_track, IsTest, IsDiagram, FitsBelow, IsAt, HasChildren}
use Rattle.letter_diagram.specs.Laws.{AgreeFrom}
use Rattle.letter_diagram.proofs.Maps.{IsAt-get}

-- the letter with one bit changed
unfoldable pub flip : ℕ → ℕ → ℕ
flip letter track = bit_xor letter (2 ^ track)

pub bit_at-flip_other : (letter track k : ℕ) → k ≢ track → bit_at (flip letter track) k ≡ bit_at letter k
unfolding flip
bit_at-flip_other letter track k ne = let x = bit_at_xor letter (2 ^ track) k in let p = bit_at-pow_other track k ne in let l = bit_at-lt letter k in grind (arith, common_steps, x, p, l)

pub bit_at-flip_same : (letter track : ℕ) → bit_at (flip letter track) track ≡ (bit_at letter track + 1) % 2
unfolding flip
bit_at-flip_same letter track = let x = bit_at_xor letter (2 ^ track) track in let p = bit_at-pow_same track in x ∙ ap (λ n. (bit_at letter track + n) % 2) p

module _ (shapes : List Shape) (is : IsDiagram shapes) where
  -- the shape of a node that is known
  shape_of : ℕ → Shape
  shape_of node = get_or shapes node (Leaf 0)

  fits_at : (node : ℕ) → node < length shapes → FitsBelow shapes node (shape_of node)
  unfolding shape_of
  fits_at node h = is.fits node (get_or shapes node (Leaf 0)) (slice_get-get_or shapes node (Leaf 0) h)

  is_at : (node : ℕ) → node < length shapes → IsAt shapes node (shape_of node)
  unfolding shape_of fits_at
  is_at node h = IsAt-get shapes node (get_or shapes node (Leaf 0)) (slice_get-get_or shapes node (Leaf 0) h) (is.fits node (get_or shapes node (Leaf 0)) (slice_get-get_or shapes node (Leaf 0) h))

  -- a map is the same at letters that agree on the tracks that it may look at
  agree : (fuel node : ℕ) → node < fuel → node < length shapes → (a b : ℕ) → AgreeFrom (top_track shapes node) a b → map_at shapes node a ≡ map_at shapes node b
  agree zero node lt known a b same = absurd (omega arith)
  agree (suc fuel) node lt known a b same = by (λ n. agree fuel n) (shape_of node) (is_at node known) (fits_at node known)
    where
      by : ((n : ℕ) → n < fuel → n < length shapes → (x y : ℕ) → AgreeFrom (top_track shapes n) x y → map_at shapes n x ≡ map_at shapes n y)
          → (shape : Shape) → IsAt shapes node shape → FitsBelow shapes node shape → map_at shapes node a ≡ map_at shapes node b
      by rest (Leaf value) at fits = at.map a ∙ sym (at.map b)
      by rest (Test track low high) at fits =
          let top = at.top in
          let track_low = fits.track_low in
          let low_before = fits.low_before in
          let high_before = fits.high_before in
          let low_above = fits.low_above in
          let high_above = fits.high_above in
          let bit = same track (omega arith) track_low in
          let l = rest low (omega arith) (omega arith) a b (λ k from below. same k (omega arith) below) in
          let h = rest high (omega arith) (omega arith) a b (λ k from below. same k (omega arith) below) in
          at.map a ∙ (λ i. if nat_eq (bit i) 0 then l i else h i) ∙ sym (at.map b)

  pub map_at-agree : (node : ℕ) → node < length shapes → (a b : ℕ) → AgreeFrom (top_track shapes node) a b → map_at shapes node a ≡ map_at shapes node b
  map_at-agree node known a b same = agree (suc node) node (omega arith) known a b same

  -- a map does not look at a track below its top
  pub flipped : (node track letter : ℕ) → node < length shapes → track < top_track shapes node → map_at shapes node letter ≡ map_at shapes node (flip letter track)
  flipped node track letter known below = map_at-agree node known letter (flip letter track) (λ k from small. sym (bit_at-flip_other letter track k (let ne : k ≢ track = omega arith in ne)))

  pub low_is : (node track low high letter : ℕ) → IsAt shapes node (Test track low high) → bit_at letter track ≡ 0 → map_at shapes node letter ≡ map_at shapes low letter
  low_is node track low high letter at bit = at.map letter ∙ ap (λ n. if nat_eq n 0 then map_at shapes low letter else map_at shapes high letter) bit

  pub high_is : (node track low high letter : ℕ) → IsAt shapes node (Test track low high) → bit_at letter track ≡ 1 → map_at shapes node letter ≡ map_at shapes high letter
  high_is node track low high letter at bit = at.map letter ∙ ap (λ n. if nat_eq n 0 then map_at shapes low letter else map_at shapes high letter) bit

  -- where a map equals one that does not look at the track of its test, both sides of the test are equal
  sides_equal : (a b track low high letter : ℕ) → IsAt shapes a (Test track low high) → IsTest shapes a track low high → b < length shapes → track < top_track shapes b
      → ((l : ℕ) → map_at shapes a l ≡ map_at shapes b l) → map_at shapes low letter ≡ map_at shapes high letter
  sides_equal a b track low high letter at fits known above same =
      let other = flip letter track in
      let across = same letter ∙ flipped b track letter known above ∙ sym (same other) in
      let here = at.within in
      let low_before = fits.low_before in
      let high_before = fits.high_before in
      let bit = bit_at-flip_same letter track in
      elim (bit_cases letter track) [
        | inl z ↦
            let o = bit ∙ ap (λ n. (n + 1) % 2) z in
            sym (low_is a track low high letter at z) ∙ across ∙ high_is a track low high other at o
            ∙ sym (flipped high track letter (omega arith) fits.high_above)
        | inr o ↦
            let z = bit ∙ ap (λ n. (n + 1) % 2) o in
            flipped low track letter (omega arith) fits.low_above ∙ sym (low_is a track low high other at z) ∙ sym across
            ∙ high_is a track low high letter at o
      ]

  -- the low sides of two tests of one track with equal maps
  low_sides : (a b track low high low' high' letter : ℕ) → IsAt shapes a (Test track low high) → IsTest shapes a track low high → IsAt shapes b (Test track low' high')
      → IsTest shapes b track low' high'
      → ((l : ℕ) → map_at shapes a l ≡ map_at shapes b l) → map_at shapes low letter ≡ map_at shapes low' letter
  low_sides a b track low high low' high' letter at fits at' fits' same =
      let other = flip letter track in
      let here = at.within in
      let there = at'.within in
      let low_before = fits.low_before in
      let low_before' = fits'.low_before in
      let bit = bit_at-flip_same letter track in
      elim (bit_cases letter track) [
        | inl z ↦ sym (low_is a track low high letter at z) ∙ same letter ∙ low_is b track low' high' letter at' z
        | inr o ↦
            let z = bit ∙ ap (λ n. (n + 1) % 2) o in
            flipped low track letter (omega arith) fits.low_above ∙ sym (low_is a track low high other at z) ∙ same other
            ∙ low_is b track low' high' other at' z ∙ sym (flipped low' track letter (omega arith) fits'.low_above)
      ]

  high_sides : (a b track low high low' high' letter : ℕ) → IsAt shapes a (Test track low high) → IsTest shapes a track low high → IsAt shapes b (Test track low' high')
      → IsTest shapes b track low' high'
      → ((l : ℕ) → map_at shapes a l ≡ map_at shapes b l) → map_at shapes high letter ≡ map_at shapes high' letter
  high_sides a b track low high low' high' letter at fits at' fits' same =
      let other = flip letter track in
      let here = at.within in
      let there = at'.within in
      let high_before = fits.high_before in
      let high_before' = fits'.high_before in
      let bit = bit_at-flip_same letter track in
      elim (bit_cases letter track) [
        | inr o ↦ sym (high_is a track low high letter at o) ∙ same letter ∙ high_is b track low' high' letter at' o
        | inl z ↦
            let o = bit ∙ ap (λ n. (n + 1) % 2) z in
            flipped high track letter (omega arith) fits.high_above ∙ sym (high_is a track low high other at o) ∙ same other
            ∙ high_is b track low' high' other at' o ∙ sym (flipped high' track letter (omega arith) fits'.high_above)
      ]

  equal : (fuel a b : ℕ) → a < fuel → b < fuel → a < length shapes → b < length shapes → ((letter : ℕ) → map_at shapes a letter ≡ map_at shapes b letter) → a ≡ b
  equal zero a b la lb ka kb same = absurd (omega arith)
  equal (suc fuel) a b la lb ka kb same = by (λ x y. equal fuel x y) (shape_of a) (is_at a ka) (fits_at a ka) (shape_of b) (is_at b kb) (fits_at b kb)
    where
      sided : ((x y : ℕ) → x < fuel → y < fuel → x < length shapes → y < length shapes → ((letter : ℕ) → map_at shapes x letter ≡ map_at shapes y letter) → x ≡ y)
          → (x y track low high : ℕ) → x < suc fuel → x < length shapes → y < length shapes
          → IsAt shapes x (Test track low high) → IsTest shapes x track low high → track < top_track shapes y
          → ((l : ℕ) → map_at shapes x l ≡ map_at shapes y l) → ⊥
      sided rest x y track low high lx kx ky at fits above eq =
          let low_before = fits.low_before in
          let high_before = fits.high_before in
          fits.differ (rest low high (omega arith) (omega arith) (omega arith) (omega arith) (λ letter. sides_equal x y track low high letter at fits ky above eq))

      by : ((x y : ℕ) → x < fuel → y < fuel → x < length shapes → y < length shapes → ((letter : ℕ) → map_at shapes x letter ≡ map_at shapes y letter) → x ≡ y)
          → (s : Shape) → IsAt shapes a s → FitsBelow shapes a s → (r : Shape) → IsAt shapes b r → FitsBelow shapes b r → a ≡ b
      by rest (Leaf v) at fits (Leaf w) at' fits' =
          is.distinct a b (Leaf v) at.is (at'.is ∙ ap (λ n. Some (Leaf n)) (sym (at'.map 0) ∙ sym (same 0) ∙ at.map 0))
      by rest (Leaf v) at fits (Test u l h) at' fits' = absurd (sided rest b a u l h lb kb ka at' fits' (let t = at.top in let s = fits'.track_low in omega arith) (λ x. sym (same x)))
      by rest (Test t l h) at fits (Leaf w) at' fits' = absurd (sided rest a b t l h la ka kb at fits (let s = at'.top in let u = fits.track_low in omega arith) same)
      by rest (Test t l h) at fits (Test u l' h') at' fits' =
          let top = at.top in
          let top' = at'.top in
          let lb1 = fits.low_before in
          let hb1 = fits.high_before in
          let lb2 = fits'.low_before in
          let hb2 = fits'.high_before in
          elim (cases_order t u) [
            | inl e ↦
                let at2 : IsAt shapes b (Test t l' h') = subst (λ n. IsAt shapes b (Test n l' h')) (sym e) at' in
                let fits2 : IsTest shapes b t l' h' = subst (λ n. IsTest shapes b n l' h') (sym e) fits' in
                let le = rest l l' (omega arith) (omega arith) (omega arith) (omega arith) (λ letter. low_sides a b t l h l' h' letter at fits at2 fits2 same) in
                let he = rest h h' (omega arith) (omega arith) (omega arith) (omega arith) (λ letter. high_sides a b t l h l' h' letter at fits at2 fits2 same) in
                is.distinct a b (Test t l h) at.is (at2.is ∙ (λ i. Some (Test t (sym le i) (sym he i))))
            | inr (inl lt) ↦ absurd (sided rest a b t l h la ka kb at fits (omega arith) same)
            | inr (inr gt) ↦ absurd (sided rest b a u l' h' lb kb ka at' fits' (omega arith) (λ x. sym (same x)))
          ]

  -- nodes with equal maps are equal
  pub node-from_map : (a b : ℕ) → a < length shapes → b < length shapes → ((letter : ℕ) → map_at shapes a letter ≡ map_at shapes b letter) → a ≡ b
  node-from_map a b ka kb same = equal (suc (a + b)) a b (omega arith) (omega arith) ka kb same

  -- what is equal at the letters of 20 tracks is equal at all
  pub node-from_map_below : (a b : ℕ) → a < length shapes → b < length shapes → ((letter : ℕ) → letter < 2 ^ 20 → map_at shapes a letter ≡ map_at shapes b letter) → a ≡ b
  node-from_map_below a b ka kb same = node-from_map a b ka kb (λ letter.
      map_at-agree a ka letter (letter % 2 ^ 20) (λ k from below. low_bits letter 20 k below)
      ∙ same (letter % 2 ^ 20) (omega arith)
      ∙ sym (map_at-agree b kb letter (letter % 2 ^ 20) (λ k from below. low_bits letter 20 k below)))

  -- the values of the sides of a test are values of the test
  pub HasChildren-at : (node : ℕ) (shape : Shape) → IsAt shapes node shape → FitsBelow shapes node shape → HasChildren shapes node shape
  HasChildren-at node (Leaf value) at fits = tt
  HasChildren-at node (Test track low high) at fits = λ letter.
      let other = flip letter track in
      let within = at.within in
      let low_before = fits.low_before in
      let high_before = fits.high_before in
      let bit = bit_at-flip_same letter track in
      elim (bit_cases letter track) [
        | inl z ↦ (
          (letter, low_is node track low high letter at z),
          (other, high_is node track low high other at (bit ∙ ap (λ n. (n + 1) % 2) z) ∙ sym (flipped high track letter (omega arith) fits.high_above)),
        )
        | inr o ↦ (
          (other, low_is node track low high other at (bit ∙ ap (λ n. (n + 1) % 2) o) ∙ sym (flipped low track letter (omega arith) fits.low_above)),
          (letter, high_is node track low high letter at o),
        )
      ]
