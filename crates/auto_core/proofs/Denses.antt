-- Automata from dense tables.
use Rattle.std.proofs.Common.{◌≡◌, ℕ, ◌+◌, ◌*◌, ◌/◌, ◌%◌, ◌^◌, ◌<◌, ◌≤◌, Bool, List, [], ◌∷◌, ◌++◌, length, All, get_or, take, drop, slice_index, arith, inl, inr, sym, ap, ◌∙◌, subst}
use Rattle.std.proofs.lemmas.Nat.{mod_below, pow_pos}
use Rattle.std.proofs.lemmas.Nat.Bits.{same_from_bits_below}
use Rattle.std.proofs.lemmas.Grind.{common_steps}
use Rattle.std.proofs.Math.Nat.{mod-eq_of_lt, mod-mod, div-lt_iff_lt-mul}
use Rattle.std.proofs.lemmas.Bool.{cases_lt}
use Rattle.std.proofs.lemmas.List.{ext_get_or, get_or-take, get_or-drop, get_or_append_left, get_or_push, get_or_default}
use Rattle.std.specs.List.{Contains}
use Rattle.std.proofs.lemmas.List.Elements.{Contains-get_or}
use Rattle.track_word.proofs.LetterBits.{low_bits}
use Rattle.track_word.specs.declared.tracks.Var.{Var}
use Rattle.letter_diagram.specs.declared.diagrams.Shape.{Shape}
use Rattle.letter_diagram.specs.Diagram.{map_at, LooksBelow, Grows}
use Rattle.auto_core.specs.Rows.{row_of, rows_of, AreRows, AreTables}
use Rattle.auto_core.specs.Dense.{IsRowFrom, AreRowsFrom}
use Rattle.auto_core.proofs.RowLemmas.{length-row_of, get_or-row_of, length-rows_of, get_or-rows_of}

pub IsRowFrom-grows : {old new : List Shape} {width : ℕ} {table : List ℕ} {offset node : ℕ} → Grows old new → IsRowFrom old width table offset node → IsRowFrom new width table offset node
IsRowFrom-grows {node} grows is =
    let known = is.known in
    let longer = grows.longer in
    record { known = omega arith; map = λ letter. grows.map node letter is.known ∙ is.map letter }

pub AreRowsFrom-grows : {old new : List Shape} {width : ℕ} {table nodes : List ℕ} → Grows old new → AreRowsFrom old width table nodes → AreRowsFrom new width table nodes
AreRowsFrom-grows grows are = record { rows = λ i h. IsRowFrom-grows grows (are.rows i h) }

pub LooksBelow-row : {shapes : List Shape} (tracks : ℕ) {table : List ℕ} {offset node : ℕ} → IsRowFrom shapes (2 ^ tracks) table offset node → LooksBelow shapes node tracks
LooksBelow-row tracks {table} {offset} is = record {
  same = λ a b bits.
      let e : a % 2 ^ tracks ≡ b % 2 ^ tracks = same_from_bits_below tracks (a % 2 ^ tracks) (b % 2 ^ tracks) (mod_below a (2 ^ tracks) (pow_pos tracks)) (mod_below b (2 ^ tracks) (pow_pos tracks))
      (λ i below. sym (low_bits a tracks i below) ∙ bits i below ∙ low_bits b tracks i below) in
      is.map a ∙ ap (λ k. slice_index table (offset + k)) e ∙ sym (is.map b);
}

plain : (i width : ℕ) → i < width → 0 + i % width ≡ i
plain i width below = rw (mod-eq_of_lt below) (omega arith)

-- the row of the node is the table's
pub row_of-is : {shapes : List Shape} {width : ℕ} {table : List ℕ} {node : ℕ} → length table ≡ width → IsRowFrom shapes width table 0 node → row_of shapes width node ≡ table
row_of-is {shapes} {width} {table} {node} size is =
    let l = length-row_of shapes width node in
    ext_get_or 0 (row_of shapes width node) table (l ∙ sym size) (λ i h.
    let below : i < width = omega (arith, l, h) in
    get_or-row_of shapes width node i below ∙ is.map i ∙ ap (λ k. slice_index table k) (plain i width below))

-- the values of the node are the row's entries
pub leaves-row : {shapes : List Shape} (tracks : ℕ) {table : List ℕ} {node : ℕ} → length table ≡ 2 ^ tracks → IsRowFrom shapes (2 ^ tracks) table 0 node → (letter : ℕ)
    → Contains table (map_at shapes node letter)
leaves-row tracks {table} size is letter =
    let below = mod_below letter (2 ^ tracks) (pow_pos tracks) in
    rw (is.map letter) (Contains-get_or table (0 + letter % 2 ^ tracks) 0 (omega (arith, below, size)))

division : (i width : ℕ) → i ≡ i / width * width + i % width
division i width = grind (arith, common_steps)

quotient_within : (i width count : ℕ) → 0 < width → i < count * width → i / width < count
quotient_within i width count some h = (div-lt_iff_lt-mul some).1 h

pub rows_of-is : {shapes : List Shape} {width : ℕ} {table nodes : List ℕ} → 0 < width → length table ≡ length nodes * width
    → AreRowsFrom shapes width table nodes → rows_of shapes width nodes ≡ table
rows_of-is {shapes} {width} {table} {nodes} some size are =
    let l = length-rows_of shapes width nodes in
    ext_get_or 0 (rows_of shapes width nodes) table (l ∙ sym size) (λ i h.
    let below : i < length nodes * width = omega (arith, l, h) in
    let within = quotient_within i width (length nodes) some below in
    let rest = mod_below i width some in
    let whole = division i width in
    let once : i % width % width ≡ i % width = mod-mod i width in
    ap (λ k. get_or (rows_of shapes width nodes) k 0) whole ∙ get_or-rows_of shapes width nodes (i / width) (i % width) 0 within rest
    ∙ (are.rows (i / width) within).map (i % width) ∙ ap (λ k. slice_index table (i / width * width + k)) once ∙ ap (λ k. slice_index table k) (sym whole))

row_within : (shapes : List Shape) (width : ℕ) (table : List ℕ) (offset node bound : ℕ) → 0 < width → offset + width ≤ length table → All (λ state. state < bound) table
    → IsRowFrom shapes width table offset node → (letter : ℕ) → map_at shapes node letter < bound
row_within shapes width table offset node bound some room within is letter =
    let below = mod_below letter width some in
    rw (is.map letter) (within (offset + letter % width) 0 (omega (arith, below, room)))

pub AreRows-tables : {tracks : List Var} {shapes : List Shape} {first next : List ℕ} {node : ℕ} {nodes : List ℕ} {accept : List Bool} → AreTables tracks first next accept
    → length nodes ≡ length accept
    → IsRowFrom shapes (2 ^ length tracks) first 0 node → AreRowsFrom shapes (2 ^ length tracks) next nodes → AreRows tracks shapes node nodes accept
AreRows-tables {tracks} {shapes} {first} {next} {node} {nodes} {accept} are size is rows =
    let some = pow_pos (length tracks) in
    let at = λ (i d : ℕ) (h : i < length nodes). subst (λ n. IsRowFrom shapes (2 ^ length tracks) next (i * 2 ^ length tracks) n) (get_or_default nodes i 0 d h) (rows.rows i h) in
    record {
      ascending = are.ascending;
      few_tracks = are.few_tracks;
      some_state = are.some_state;
      few_states = are.few_states;
      rows_size = size;
      first_known = is.known;
      first_narrow = LooksBelow-row (length tracks) is;
      first_within = row_within shapes (2 ^ length tracks) first 0 node (length accept) some (let l = are.first_size in omega (arith, l)) are.first_within is;
      rows_known = λ i d h. (at i d h).known;
      rows_narrow = λ i d h. LooksBelow-row {shapes = shapes} (length tracks) {table = next} {offset = i * 2 ^ length tracks} {node = get_or nodes i d} (at i d h);
      rows_within =
          λ i d h. row_within shapes (2 ^ length tracks) next (i * 2 ^ length tracks) (get_or nodes i d) (length accept) some
          (let l = are.next_size in row_room i (length nodes) (length accept) (2 ^ length tracks) (length next) h size l) are.next_within
          (at i d h);
    }
  where
    row_room : (i count states width size : ℕ) → i < count → count ≡ states → size ≡ states * width → i * width + width ≤ size
    row_room i count states width size h same whole = grind (arith, common_steps, h, same, whole)
