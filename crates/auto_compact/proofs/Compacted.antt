-- Automata that differ in their nodes alone.
use Rattle.std.proofs.Common.{◌≡◌, ℕ, suc, ◌+◌, ◌<◌, ◌^◌, List, [], ◌∷◌, ◌++◌, length, map, slice_index, slice_index_or, arith, refl, sym, ◌∙◌, subst}
use Rattle.std.specs.List.{remove, range_with_len}
use Rattle.std.proofs.lemmas.List.{get_or_default}
use Rattle.track_word.specs.declared.tracks.Var.{Var}
use Rattle.track_word.specs.Word.{IsWord}
use Rattle.track_word.specs.Tracks.{part_of}
use Rattle.letter_diagram.specs.declared.diagrams.Shape.{Shape}
use Rattle.letter_diagram.specs.Carried.{AreCarried}
use Rattle.letter_diagram.specs.Diagram.{map_at, LooksBelow}
use Rattle.auto_core.specs.Automaton.{Automaton, Accepts}
use Rattle.auto_core.specs.Integers.{DecidesIntegers}
use Rattle.auto_core.specs.Reduced.{AllReached, IsReduced}
use Rattle.auto_core.specs.Rows.{AreRows, IsOverNodes, all_nodes, row_of, rows_of}
use Rattle.auto_core.specs.Words.{HasSameWords, AcceptsRenamed}
use Rattle.auto_compact.specs.Compacted.{HasSameTables}

-- nodes of other shapes with the maps of the first row and of the others
pub record AreBrought (a : Automaton) (shapes : List Shape) (first : ℕ) (rows : List ℕ) : Type 0 where
  pub first_known : first < length shapes
  pub first_is : (letter : ℕ) → map_at shapes first letter ≡ map_at a.shapes a.first_node letter
  pub count : length rows ≡ length a.row_nodes
  pub rows_known : (i : ℕ) → i < length a.row_nodes → slice_index rows i < length shapes
  pub rows_are : (i letter : ℕ) → i < length a.row_nodes → map_at shapes (slice_index rows i) letter ≡ map_at a.shapes (slice_index a.row_nodes i) letter

pub AreBrought-carried : (a : Automaton) (shapes : List Shape) (answers : List ℕ) (first : ℕ) (rows : List ℕ)
    → AreCarried a.shapes shapes (λ letter. letter) (all_nodes a) answers → first ≡ slice_index_or answers 0 first
    → rows ≡ remove answers 0 → AreBrought a shapes first rows
AreBrought-carried a shapes [] first rows brought is rest = let size = brought.size in absurd (omega (arith, size))
AreBrought-carried a shapes (answer ∷ answers) first rows brought is rest =
    subst (λ node. AreBrought a shapes node rows) (sym is) (subst (AreBrought a shapes answer) (sym rest) (record {
      first_known = (brought.each 0 (omega arith)).known;
      first_is = (brought.each 0 (omega arith)).map;
      count = let size = brought.size in omega (arith, size);
      rows_known = λ i h. (brought.each (suc i) (omega (arith, h))).known;
      rows_are = λ i letter h. (brought.each (suc i) (omega (arith, h))).map letter;
    }))

narrow : (old new : List Shape) {bound : ℕ} (node source : ℕ) → ((letter : ℕ) → map_at new node letter ≡ map_at old source letter) → LooksBelow old source bound → LooksBelow new node bound
narrow old new node source is below = record { same = λ x y bits. is x ∙ below.same x y bits ∙ sym (is y) }

pub AreRows-brought : {a : Automaton} {shapes : List Shape} {first : ℕ} {rows : List ℕ} → IsOverNodes a → AreBrought a shapes first rows
    → AreRows a.tracks shapes first rows a.accept
AreRows-brought {a} {shapes} {first} {rows} over are =
    let old = over.nodes in
    let inside = λ (i : ℕ) (h : i < length rows). (let count = are.count in let k : i < length a.row_nodes = omega (arith, h, count) in k) in
    let at = λ (i d : ℕ) (h : i < length rows). get_or_default rows i 0 d h in
    record {
      ascending = old.ascending;
      few_tracks = old.few_tracks;
      some_state = old.some_state;
      few_states = old.few_states;
      rows_size = are.count ∙ old.rows_size;
      first_known = are.first_known;
      first_narrow = narrow a.shapes shapes first a.first_node are.first_is old.first_narrow;
      first_within = λ letter. rw (are.first_is letter) (old.first_within letter);
      rows_known = λ i d h. subst (λ n. n < length shapes) (at i d h) (are.rows_known i (inside i h));
      rows_narrow = λ i d h. subst (λ n. LooksBelow shapes n (length a.tracks)) (at i d h)
          (narrow a.shapes shapes (slice_index rows i) (slice_index a.row_nodes i) (λ letter. are.rows_are i letter (inside i h)) (old.rows_narrow i 0 (inside i h)));
      rows_within = λ i d h. subst (λ n. (letter : ℕ) → map_at shapes n letter < length a.accept) (at i d h)
          (λ letter. rw (are.rows_are i letter (inside i h)) (old.rows_within i 0 (inside i h) letter));
    }

row_of-same : (old new : List Shape) (width node source : ℕ) → ((letter : ℕ) → map_at new node letter ≡ map_at old source letter) → row_of new width node ≡ row_of old width source
unfolding row_of
row_of-same old new width node source is = λ i. map (λ letter. is letter i) (range_with_len 0 width)

rows_of-same : (old new : List Shape) (width : ℕ) (nodes sources : List ℕ) → length nodes ≡ length sources
    → ((i letter : ℕ) → i < length sources → map_at new (slice_index nodes i) letter ≡ map_at old (slice_index sources i) letter) → rows_of new width nodes ≡ rows_of old width sources
unfolding rows_of
rows_of-same old new width [] [] size are = refl
rows_of-same old new width [] (s ∷ sources) size are = absurd (omega (arith, size))
rows_of-same old new width (n ∷ nodes) [] size are = absurd (omega (arith, size))
rows_of-same old new width (n ∷ nodes) (s ∷ sources) size are =
    let one = row_of-same old new width n s (λ letter. are 0 letter (omega arith)) in
    let rest = rows_of-same old new width nodes sources (omega (arith, size)) (λ i letter h. are (suc i) letter (omega (arith, h))) in
    λ i. one i ++ rest i

pub HasSameTables-brought : {a : Automaton} (made : Automaton) → IsOverNodes a → AreBrought a made.shapes made.first_node made.row_nodes → made.tracks ≡ a.tracks
    → made.first ≡ row_of made.shapes (2 ^ length a.tracks) made.first_node → made.next ≡ rows_of made.shapes (2 ^ length a.tracks) made.row_nodes
    → made.accept ≡ a.accept → HasSameTables a made
HasSameTables-brought {a} made over are tracks first next accept = record {
  tracks = tracks;
  first = first ∙ row_of-same a.shapes made.shapes (2 ^ length a.tracks) made.first_node a.first_node are.first_is ∙ sym over.first;
  next = next ∙ rows_of-same a.shapes made.shapes (2 ^ length a.tracks) made.row_nodes a.row_nodes are.count are.rows_are ∙ sym over.next;
  accept = accept;
}

module _ (a made : Automaton) (same : HasSameTables a made) where
  -- the tables with the nodes of what is made
  abbrev tables : Automaton
  tables = record {
    tracks = a.tracks;
    first = a.first;
    next = a.next;
    accept = a.accept;
    shapes = made.shapes;
    first_node = made.first_node;
    row_nodes = made.row_nodes;
  }

  is : made ≡ tables
  is = λ i. record {
    tracks = same.tracks i;
    first = same.first i;
    next = same.next i;
    accept = same.accept i;
    shapes = made.shapes;
    first_node = made.first_node;
    row_nodes = made.row_nodes;
  }

  accepts : (word : List ℕ) → Accepts made word ≡ Accepts a word
  accepts word = λ i. Accepts (is i) word

  pub words-same : HasSameWords a made
  words-same = λ word w. (λ h. subst (λ t. t) (accepts word) h, λ h. subst (λ t. t) (sym (accepts word)) h)

  pub DecidesIntegers-same : DecidesIntegers a → DecidesIntegers made
  DecidesIntegers-same decides = subst DecidesIntegers (sym is) (record { stable = decides.stable })

  pub AllReached-same : AllReached a → AllReached made
  AllReached-same all = subst AllReached (sym is) (λ state within. let r = all state within in record { word = r.word; is_word = r.is_word; leads = r.leads })

  pub IsReduced-same : IsReduced a → IsReduced made
  IsReduced-same reduced = subst IsReduced (sym is) (record {
    reached = λ state within. let r = reduced.reached state within in record { word = r.word; is_word = r.is_word; leads = r.leads };
    apart = λ j k jw kw other. let t = reduced.apart j k jw kw other in record { letters = t.letters; are_letters = t.are_letters; differ = t.differ };
  })

-- what has the words of a renamed automaton is one too
pub AcceptsRenamed-same : (of a made : Automaton) (vars : List Var) → made.tracks ≡ a.tracks → HasSameWords a made → AcceptsRenamed of vars a → AcceptsRenamed of vars made
AcceptsRenamed-same of a made vars tracks same renamed = λ word is.
    let over = subst (λ t. IsWord (length t) word) tracks is in
    let here = same word over in
    let there = renamed word over in
    (λ h. subst (λ t. Accepts of (part_of t vars word)) (sym tracks) (there.0 (here.0 h)), λ h. here.1 (there.1 (subst (λ t. Accepts of (part_of t vars word)) tracks h)))
