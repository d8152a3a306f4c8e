-- What the automaton of all rows accepts.
use Rattle.std.proofs.Common.{◌≡◌, ℕ, ◌<◌, ◌≤◌, ◌%◌, ◌^◌, Bool, false, List, [], ◌∷◌, length, map, slice_get, get_or, Some, Contains, arith, refl, sym, ap, ◌∙◌, subst}
use Rattle.std.specs.List.{All, fold}
use Rattle.std.specs.Option.{option_map}
use Rattle.std.proofs.lemmas.List.{length-map}
use Rattle.std.proofs.lemmas.List.Elements.{All-head, All-tail, All-from_get_or, All-map, All-weaker, All-contains}
use Rattle.std.proofs.lemmas.Nat.{mod_below, pow_pos}
use Rattle.std.proofs.lemmas.Option.{slice_get-get_or, slice_get_within, get_or_from_slice_get, same_Some, slice_get-map}
use Rattle.track_word.proofs.LetterBits.{low_bits}
use Rattle.track_word.specs.declared.tracks.Var.{Var}
use Rattle.track_word.specs.Word.{IsWord}
use Rattle.letter_diagram.specs.declared.diagrams.Shape.{Shape}
use Rattle.letter_diagram.specs.Diagram.{map_at, LooksBelow, Grows}
use Rattle.letter_diagram.proofs.Narrow.{LooksBelow-grows}
use Rattle.letter_diagram.proofs.Lists.{one_place}
use Rattle.auto_core.specs.Automaton.{Automaton, next_state, run, state_of, is_final}
use Rattle.auto_core.specs.Rows.{row_of, rows_of, dense, AreRows as AreRowsOf}
use Rattle.auto_core.proofs.RowLemmas.{get_or-row_of, next_state-dense}
use Rattle.auto_walk.specs.Walker.{Walker, place_of, IsReached, AreTracks, MoreThan, IsWalked}
use Rattle.auto_walk.specs.Rows.{AreNumbered, IsRow, LeadsOn, AreRows, Extends}
use Rattle.auto_walk.proofs.WalkLemmas.{length_le-among, All-at, apart_in_map}

-- a node that looks below a bound gives each letter the value of one of the letters below the bound's power
pub map_at-low : {shapes : List Shape} {node bound : ℕ} (letter : ℕ) → LooksBelow shapes node bound → map_at shapes node letter ≡ map_at shapes node (letter % 2 ^ bound)
map_at-low {bound} letter narrow = narrow.same letter (letter % 2 ^ bound) (λ k below. low_bits letter bound k below)

-- the first row, once more places and nodes are known
pub record IsFirstRow (w : Walker) (shapes : List Shape) (places : List (List ℕ)) (node : ℕ) : Type 0 where
  pub known : node < length shapes
  pub narrow : LooksBelow shapes node (length w.tracks)
  pub leads : (letter : ℕ) → letter < 2 ^ length w.tracks → slice_get places (map_at shapes node letter) ≡ Some (w.first letter)

pub IsFirstRow-kept : {w : Walker} {old_shapes shapes : List Shape} {none old new : List (List ℕ)} {node : ℕ} → Grows old_shapes shapes → Extends old new
    → IsRow w old_shapes none old w.first node → IsFirstRow w shapes new node
IsFirstRow-kept {new} {node} grows more row = record {
  known = let k = row.known in let g = grows.longer in omega (arith, k, g);
  narrow = LooksBelow-grows row.known grows row.narrow;
  leads = λ letter below. ap (slice_get new) (grows.map node letter row.known) ∙ more.kept _ _ (row.leads letter below);
}

-- each place that is numbered has its row, and there are few tracks and not too many places
pub record AreClosed (w : Walker) (shapes : List Shape) (places : List (List ℕ)) (first : ℕ) (rows : List ℕ) (accept : List Bool) : Type 0 where
  pub tracks : AreTracks w.tracks
  pub few : length places < 2 ^ 31
  pub numbered : AreNumbered w places
  pub first_row : IsFirstRow w shapes places first
  pub leads_on : AreRows w shapes places rows
  pub rows_size : length rows ≡ length places
  pub flags : accept ≡ map w.final places

pub closed-rows : {w more_w last_w : Walker} {old_shapes shapes : List Shape} {none old places : List (List ℕ)} {first : ℕ} {rows : List ℕ} {accept : List Bool}
    → more_w ≡ w → last_w ≡ more_w → IsRow w old_shapes none old w.first first → AreNumbered more_w places → Extends old places → Grows old_shapes shapes
    → AreRows more_w shapes places rows → length rows ≡ length places → accept ≡ map last_w.final places → AreTracks last_w.tracks
    → length places < 2 ^ 31 → AreClosed w shapes places first rows accept
closed-rows {w} {more_w} {last_w} {old_shapes} {shapes} {none} {old} {places} {first} {rows} more last row numbered kept grows leads_on size flags tracks few = record {
  tracks = subst (λ (v : Walker). AreTracks v.tracks) (last ∙ more) tracks;
  few = few;
  numbered = subst (λ v. AreNumbered v places) more numbered;
  first_row = IsFirstRow-kept grows kept row;
  leads_on = subst (λ v. AreRows v shapes places rows) more leads_on;
  rows_size = size;
  flags = flags ∙ ap (λ (v : Walker). map v.final places) (last ∙ more);
}

-- an automaton with these tables
pub is_dense : (m : Automaton) (tracks : List Var) (shapes : List Shape) (first : ℕ) (rows : List ℕ) (accept : List Bool)
    → m.tracks ≡ tracks → m.first ≡ row_of shapes (2 ^ length tracks) first → m.next ≡ rows_of shapes (2 ^ length tracks) rows → m.accept ≡ accept → m.shapes ≡ shapes
    → m.first_node ≡ first → m.row_nodes ≡ rows
    → m ≡ dense tracks shapes first rows accept
is_dense m tracks shapes first rows accept t f n a s o r = λ i. record { tracks = t i; first = f i; next = n i; accept = a i; shapes = s i; first_node = o i; row_nodes = r i }

module _ {w : Walker} {shapes : List Shape} {places : List (List ℕ)} {first : ℕ} {rows : List ℕ} {accept : List Bool} (closed : AreClosed w shapes places first rows accept) where
  states : length accept ≡ length places
  states = ap length closed.flags ∙ length-map places w.final

  some_place : 0 < length places
  some_place = let within = slice_get_within places _ _ (closed.first_row.leads 0 (pow_pos (length w.tracks))) in omega (arith, within)

  row_at : (k : ℕ) → k < length rows → LeadsOn w shapes places k (get_or rows k 0)
  row_at k h = closed.leads_on.lead k (get_or rows k 0) (slice_get-get_or rows k 0 h)

  pub AreRows-closed : AreRowsOf w.tracks shapes first rows accept
  AreRows-closed =
      let letter_low = λ (letter : ℕ). mod_below letter (2 ^ length w.tracks) (pow_pos (length w.tracks)) in
      record {
        ascending = closed.tracks.ascending;
        few_tracks = closed.tracks.few;
        some_state = omega (arith, states, some_place);
        few_states = omega (arith, states, closed.few);
        rows_size = closed.rows_size ∙ sym states;
        first_known = closed.first_row.known;
        first_narrow = closed.first_row.narrow;
        first_within =
            λ letter. rw (map_at-low letter closed.first_row.narrow, states)
            (slice_get_within places _ _ (closed.first_row.leads (letter % 2 ^ length w.tracks) (letter_low letter)));
        rows_known = All-from_get_or (λ node. node < length shapes) rows 0 (λ k h. (row_at k h).known);
        rows_narrow = All-from_get_or (λ node. LooksBelow shapes node (length w.tracks)) rows 0 (λ k h. (row_at k h).narrow);
        rows_within = All-from_get_or (λ node. (letter : ℕ) → map_at shapes node letter < length accept) rows 0 (λ k h letter.
            rw (map_at-low letter (row_at k h).narrow, states)
            (slice_get_within places _ _ ((row_at k h).leads (letter % 2 ^ length w.tracks) (letter_low letter))));
      }

  step_leads : (state letter : ℕ) (place : List ℕ) → letter < 2 ^ length w.tracks → slice_get places state ≡ Some place
      → slice_get places (next_state (dense w.tracks shapes first rows accept) state letter) ≡ Some (w.next place letter)
  step_leads state letter place below at =
      let within = slice_get_within places state place at in
      let inside : state < length rows = omega (arith, closed.rows_size, within) in
      let row = row_at state inside in
      let known : state < length accept = omega (arith, states, within) in
      let here : get_or rows state 0 ≡ get_or rows state (get_or rows state 0) =
      sym (get_or_from_slice_get rows state (get_or rows state 0) (get_or rows state 0) (slice_get-get_or rows state 0 inside)) in
      let entry = next_state-dense w.tracks shapes first rows accept AreRows-closed state letter (get_or rows state 0) known below here in
      let same : row.place ≡ place = same_Some _ _ (sym row.is ∙ at) in
      ap (slice_get places) entry ∙ row.leads letter below ∙ ap Some (ap (λ p. w.next p letter) same)

  run_leads : (letters : List ℕ) (state : ℕ) (place : List ℕ) → All (λ l. l < 2 ^ length w.tracks) letters → slice_get places state ≡ Some place
      → slice_get places (run (dense w.tracks shapes first rows accept) state letters) ≡ Some (fold w.next place letters)
  run_leads [] state place all at = at
  run_leads (letter ∷ letters) state place all at =
      run_leads letters _ _ (All-tail (λ l. l < 2 ^ length w.tracks) letter letters all) (step_leads state letter place (All-head (λ l. l < 2 ^ length w.tracks) letter letters all) at)

  pub word_leads : {word : List ℕ} → IsWord (length w.tracks) word → slice_get places (state_of (dense w.tracks shapes first rows accept) word) ≡ Some (place_of w word)
  word_leads {word = []} is = absurd (is.nonempty refl)
  word_leads {word = sign ∷ letters} is =
      let below = All-head (λ l. l < 2 ^ length w.tracks) sign letters is.letters in
      run_leads letters _ _ (All-tail (λ l. l < 2 ^ length w.tracks) sign letters is.letters)
      (ap (slice_get places) (get_or-row_of shapes (2 ^ length w.tracks) first sign below) ∙ closed.first_row.leads sign below)

  final_is : {word : List ℕ} → IsWord (length w.tracks) word
      → is_final (dense w.tracks shapes first rows accept) (state_of (dense w.tracks shapes first rows accept) word) ≡ w.final (place_of w word)
  final_is {word} is =
      let at = word_leads is in
      let state = state_of (dense w.tracks shapes first rows accept) word in
      ap (λ l. get_or l state false) closed.flags
      ∙ get_or_from_slice_get (map w.final places) state (w.final (place_of w word)) false (slice_get-map w.final places state ∙ ap (option_map w.final) at)

  pub IsWalked-closed : IsWalked w (dense w.tracks shapes first rows accept)
  IsWalked-closed = record {
    tracks = refl;
    words = λ word is. let flag = final_is is in (λ h. sym flag ∙ h, λ h. flag ∙ h);
    reached = λ state within.
        let inside : state < length places = omega (arith, states, within) in
        let at = slice_get-get_or places state [] inside in
        let r = All-at (IsReached w) places state (get_or places state []) at closed.numbered.reached in
        record {
          word = r.word;
          is_word = r.is_word;
          leads = one_place places closed.numbered.different _ _ _ (word_leads r.is_word) (at ∙ ap Some (sym r.leads));
        };
    same = λ u v is_u is_v. (
      λ e. same_Some _ _ (sym (word_leads is_u) ∙ ap (slice_get places) e ∙ word_leads is_v),
      λ e. one_place places closed.numbered.different _ _ _ (word_leads is_u) (word_leads is_v ∙ ap Some (sym e)),
    );
  }

  pub not_MoreThan : {budget : ℕ} → length places ≤ budget → MoreThan w budget → ⊥
  not_MoreThan room more =
      let there = λ (word : List ℕ) (is : IsWord (length w.tracks) word).
      let at = word_leads is in
      let state = state_of (dense w.tracks shapes first rows accept) word in
      let found : Contains places (place_of w word) = (state, slice_get_within places state (place_of w word) at, get_or_from_slice_get places state (place_of w word) (place_of w word) at) in
      found in
      let all = All-map (Contains places) (place_of w) more.words (All-weaker (IsWord (length w.tracks)) (λ v. Contains places (place_of w v)) there more.words more.are_words) in
      let among = λ (q : List ℕ) (h : Contains (map (place_of w) more.words) q). All-contains (Contains places) (map (place_of w) more.words) q all h in
      let most = length_le-among (map (place_of w) more.words) places (apart_in_map w more.words more.apart) among in
      omega (arith, most, room, more.count, length-map more.words (place_of w))
