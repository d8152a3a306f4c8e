-- Entries of dense rows of nodes.
use Rattle.std.proofs.Common.{◌≡◌, ℕ, zero, suc, ◌+◌, ◌-◌, ◌*◌, ◌%◌, ◌^◌, ◌<◌, Bool, List, [], ◌∷◌, ◌++◌, length, All, get_or, arith, inl, inr, sym, ap, ◌∙◌, subst}
use Rattle.std.specs.List.{flat_map}
use Rattle.std.proofs.lemmas.Nat.{mod_below, pow_pos}
use Rattle.std.proofs.lemmas.Bool.{cases_lt}
use Rattle.std.proofs.lemmas.List.{length-append, get_or_append_left, get_or-append_right}
use Rattle.std.proofs.lemmas.List.FromFn.{length-map-range_with_len, get_or-map-range_with_len}
pub use Rattle.track_word.proofs.LetterBits.{low_bits}
use Rattle.track_word.specs.declared.tracks.Var.{Var}
use Rattle.letter_diagram.specs.declared.diagrams.Shape.{Shape}
use Rattle.letter_diagram.specs.Diagram.{map_at, LooksBelow}
use Rattle.auto_core.specs.Automaton.{IsAutomaton, next_state}
use Rattle.auto_core.specs.Rows.{row_of, rows_of, dense, AreRows}

module _ (shapes : List Shape) (width : ℕ) where
  pub length-row_of : (node : ℕ) → length (row_of shapes width node) ≡ width
  unfolding row_of
  length-row_of node = length-map-range_with_len (map_at shapes node) 0 width

  pub get_or-row_of : (node letter : ℕ) → letter < width → get_or (row_of shapes width node) letter 0 ≡ map_at shapes node letter
  unfolding row_of
  get_or-row_of node letter h = get_or-map-range_with_len (map_at shapes node) 0 width letter letter 0 h (omega arith)

  pub length-rows_of : (nodes : List ℕ) → length (rows_of shapes width nodes) ≡ length nodes * width
  unfolding rows_of
  length-rows_of [] = omega arith
  length-rows_of (n ∷ nodes) =
      let l = length-append (row_of shapes width n) (flat_map (row_of shapes width) nodes) in
      let r = length-row_of n in
      let rest = length-rows_of nodes in
      omega (arith, l, r, rest)

  pub get_or-rows_of : (nodes : List ℕ) (i letter d : ℕ) → i < length nodes → letter < width
      → get_or (rows_of shapes width nodes) (i * width + letter) 0 ≡ map_at shapes (get_or nodes i d) letter
  unfolding rows_of
  get_or-rows_of [] i letter d h l = absurd (omega arith)
  get_or-rows_of (n ∷ nodes) zero letter d h l =
      ap (λ k. get_or (row_of shapes width n ++ flat_map (row_of shapes width) nodes) k 0) (let e : 0 * width + letter ≡ letter = omega arith in e)
      ∙ get_or_append_left (row_of shapes width n) (flat_map (row_of shapes width) nodes) 0 letter (let r = length-row_of n in omega (arith, r, l)) ∙ get_or-row_of n letter l
  get_or-rows_of (n ∷ nodes) (suc i) letter d h l =
      get_or-append_right (row_of shapes width n) (flat_map (row_of shapes width) nodes) width (suc i * width + letter) 0 (length-row_of n) (omega arith)
      ∙ ap (λ k. get_or (flat_map (row_of shapes width) nodes) k 0) (let e : suc i * width + letter - width ≡ i * width + letter = omega arith in e)
      ∙ get_or-rows_of nodes i letter d (omega arith) l

  row_within : (node bound letter d : ℕ) → letter < width → ((l : ℕ) → map_at shapes node l < bound) → get_or (row_of shapes width node) letter d < bound
  unfolding row_of
  row_within node bound letter d h all = rw (get_or-map-range_with_len (map_at shapes node) 0 width letter letter d h (omega arith)) (all letter)

  rows_within : (bound : ℕ) (nodes : List ℕ) → All (λ node. (letter : ℕ) → map_at shapes node letter < bound) nodes → (k d : ℕ) → k < length (rows_of shapes width nodes)
      → get_or (rows_of shapes width nodes) k d < bound
  unfolding rows_of
  rows_within bound [] all k d h = absurd (omega arith)
  rows_within bound (n ∷ nodes) all k d h =
      let size = length-row_of n in
      let whole = length-append (row_of shapes width n) (flat_map (row_of shapes width) nodes) in
      elim (cases_lt k width) [
        | inl here ↦ rw (get_or_append_left (row_of shapes width n) (flat_map (row_of shapes width) nodes) d k (omega (arith, size, here))) (row_within n bound k d here (all 0 0 (omega arith)))
        | inr past ↦ rw (get_or-append_right (row_of shapes width n) (flat_map (row_of shapes width) nodes) width k d size past)
            (rows_within bound nodes (λ i e inside. all (suc i) e (omega (arith, inside))) (k - width) d (omega (arith, size, whole, h, past)))
      ]

pub IsAutomaton-dense : {tracks : List Var} {shapes : List Shape} {first : ℕ} {rows : List ℕ} {accept : List Bool} → AreRows tracks shapes first rows accept
    → IsAutomaton (dense tracks shapes first rows accept)
IsAutomaton-dense {tracks} {shapes} {first} {rows} {accept} are = record {
  ascending = are.ascending;
  few_tracks = are.few_tracks;
  some_state = are.some_state;
  few_states = are.few_states;
  first_size = length-row_of shapes (2 ^ length tracks) first;
  next_size = length-rows_of shapes (2 ^ length tracks) rows ∙ ap (λ n. n * 2 ^ length tracks) are.rows_size;
  first_within = λ k d h. row_within shapes (2 ^ length tracks) first (length accept) k d (let l = length-row_of shapes (2 ^ length tracks) first in omega (arith, l, h)) are.first_within;
  next_within = rows_within shapes (2 ^ length tracks) (length accept) rows are.rows_within;
}

-- where narrow nodes have equal maps at the letters of their tracks, they have equal maps
pub map_at-narrow : {shapes : List Shape} {a b bound : ℕ} → LooksBelow shapes a bound → LooksBelow shapes b bound
    → ((letter : ℕ) → letter < 2 ^ bound → map_at shapes a letter ≡ map_at shapes b letter) → (letter : ℕ) → map_at shapes a letter ≡ map_at shapes b letter
map_at-narrow {bound} na nb same letter =
    let low = λ (k : ℕ) (below : k < bound). low_bits letter bound k below in
    na.same letter (letter % 2 ^ bound) low ∙ same (letter % 2 ^ bound) (mod_below letter (2 ^ bound) (pow_pos bound)) ∙ sym (nb.same letter (letter % 2 ^ bound) low)

module _ (tracks : List Var) (shapes : List Shape) (first : ℕ) (rows : List ℕ) (accept : List Bool) (are : AreRows tracks shapes first rows accept) where
  -- an entry of the dense table by the node of its row
  pub next_state-dense : (state letter node : ℕ) → state < length accept → letter < 2 ^ length tracks → node ≡ get_or rows state node
      → next_state (dense tracks shapes first rows accept) state letter ≡ map_at shapes node letter
  next_state-dense state letter node known within is =
      get_or-rows_of shapes (2 ^ length tracks) rows state letter node (let size = are.rows_size in omega (arith, size, known)) within ∙ ap (λ n. map_at shapes n letter) (sym is)

  -- states whose rows are equal have one map
  pub map_at-same_row : (a b x y : ℕ) → a < length accept → b < length accept → x ≡ get_or rows a x → y ≡ get_or rows b y
      → ((letter : ℕ) → letter < 2 ^ length tracks → next_state (dense tracks shapes first rows accept) a letter ≡ next_state (dense tracks shapes first rows accept) b letter)
      → (letter : ℕ) → map_at shapes x letter ≡ map_at shapes y letter
  map_at-same_row a b x y ka kb ix iy same =
      let size = are.rows_size in
      let narrow = λ (n i : ℕ) (k : i < length accept) (is : n ≡ get_or rows i n). subst (λ m. LooksBelow shapes m (length tracks)) (sym is) (are.rows_narrow i n (omega (arith, size, k))) in
      map_at-narrow (narrow x a ka ix) (narrow y b kb iy)
      (λ letter within. sym (next_state-dense a letter x ka within ix) ∙ same letter within ∙ next_state-dense b letter y kb within iy)
