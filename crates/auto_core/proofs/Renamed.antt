-- Automata that read the letters of others by some of their bits.
use Rattle.std.proofs.Common.{◌≡◌, ◌≢◌, ◌↔◌, ℕ, zero, suc, ◌+◌, ◌*◌, ◌^◌, ◌<◌, ◌≤◌, Bool, false, List, [], ◌∷◌, length, map, All, slice_index, slice_index_or, IsTrue, arith, refl, sym, ap, ◌∙◌, subst}
use Rattle.std.specs.Int.{bit_at}
use Rattle.std.specs.List.{remove}
use Rattle.std.proofs.lemmas.List.{get_or_default}
use Rattle.track_word.proofs.Repeats.{IsWord-again}
use Rattle.track_word.specs.declared.tracks.Var.{Var}
use Rattle.track_word.specs.Word.{IsWord, repeat_first}
use Rattle.track_word.specs.Tracks.{IsAscending, place, part_of}
use Rattle.letter_diagram.specs.declared.diagrams.Shape.{Shape}
use Rattle.letter_diagram.specs.Diagram.{map_at, LooksBelow}
use Rattle.letter_diagram.specs.Relabelled.{relabelled}
use Rattle.letter_diagram.proofs.Narrow.{relabelled-below}
use Rattle.auto_core.specs.Automaton.{Automaton, width, first_state, next_state, run, state_of, is_final, Accepts}
use Rattle.auto_core.specs.Integers.{DecidesIntegers}
use Rattle.auto_core.specs.Reduced.{AllReached, IsReduced}
use Rattle.auto_core.specs.Rows.{AreRows, IsOverNodes, AreReadAt}
use Rattle.auto_core.proofs.NodeMaps.{first-map, row-map}
use Rattle.auto_core.proofs.Restricted.{relabelled-places}

relabelled-same : (places : List ℕ) (bound a b : ℕ) → All (λ p. p < bound) places → ((k : ℕ) → k < bound → bit_at a k ≡ bit_at b k) → relabelled places a ≡ relabelled places b
relabelled-same [] bound a b below same = refl
relabelled-same (p ∷ places) bound a b below same =
    let bit = same p (below 0 0 (omega arith)) in
    let rest = relabelled-same places bound a b (λ i d h. below (suc i) d (omega (arith, h))) same in
    λ i. bit i + 2 * rest i

pub part_of-relabelled : (tracks vars : List Var) (word : List ℕ) → map (relabelled (map (place tracks) vars)) word ≡ part_of tracks vars word
part_of-relabelled tracks vars word = λ i. map (λ letter. relabelled-places tracks vars letter i) word

-- the maps of first and rows are those of an automaton on relabelled letters
pub record AreRenamed (a : Automaton) (shapes : List Shape) (places : List ℕ) (first : ℕ) (rows : List ℕ) : Type 0 where
  pub first_known : first < length shapes
  pub first_is : (letter : ℕ) → map_at shapes first letter ≡ map_at a.shapes a.first_node (relabelled places letter)
  pub count : length rows ≡ length a.row_nodes
  pub rows_known : (i : ℕ) → i < length a.row_nodes → slice_index rows i < length shapes
  pub rows_are : (i letter : ℕ) → i < length a.row_nodes → map_at shapes (slice_index rows i) letter ≡ map_at a.shapes (slice_index a.row_nodes i) (relabelled places letter)

-- the nodes that were brought for an automaton's rows, that of the first row apart
pub AreRenamed-brought : (a : Automaton) (shapes : List Shape) (places answers : List ℕ) (first : ℕ) (rows : List ℕ)
    → AreReadAt a places shapes answers → first ≡ slice_index_or answers 0 first
    → rows ≡ remove answers 0
    → AreRenamed a shapes places first rows
AreRenamed-brought a shapes places [] first rows brought is rest = let size = brought.size in absurd (omega (arith, size))
AreRenamed-brought a shapes places (answer ∷ answers) first rows brought is rest =
    subst (λ node. AreRenamed a shapes places node rows) (sym is) (subst (AreRenamed a shapes places answer) (sym rest) (record {
      first_known = (brought.each 0 (omega arith)).known;
      first_is = (brought.each 0 (omega arith)).map;
      count = let size = brought.size in omega (arith, size);
      rows_known = λ i h. (brought.each (suc i) (omega (arith, h))).known;
      rows_are = λ i letter h. (brought.each (suc i) (omega (arith, h))).map letter;
    }))

narrow : (a : Automaton) (shapes : List Shape) (places : List ℕ) (bound node source : ℕ) → All (λ p. p < bound) places
    → ((letter : ℕ) → map_at shapes node letter ≡ map_at a.shapes source (relabelled places letter)) → LooksBelow shapes node bound
narrow a shapes places bound node source below is = record {
  same = λ x y bits. is x ∙ ap (map_at a.shapes source) (relabelled-same places bound x y below bits) ∙ sym (is y);
}

pub AreRows-renamed : {a : Automaton} (tracks : List Var) {shapes : List Shape} {places : List ℕ} {first : ℕ} {rows : List ℕ} (accept : List Bool) → IsOverNodes a
    → IsAscending tracks → length tracks ≤ 20 → accept ≡ a.accept
    → All (λ p. p < length tracks) places → AreRenamed a shapes places first rows → AreRows tracks shapes first rows accept
AreRows-renamed {a} tracks {shapes} {places} {first} {rows} accept over up few same below are =
    let size = ap length same in
    let old = over.nodes in
    let inside = λ (i : ℕ) (h : i < length rows). (let count = are.count in let k : i < length a.row_nodes = omega (arith, h, count) in k) in
    let at = λ (i d : ℕ) (h : i < length rows). get_or_default rows i 0 d h in
    record {
      ascending = up;
      few_tracks = few;
      some_state = let some = old.some_state in omega (arith, some, size);
      few_states = let some = old.few_states in omega (arith, some, size);
      rows_size = are.count ∙ old.rows_size ∙ sym size;
      first_known = are.first_known;
      first_narrow = narrow a shapes places (length tracks) first a.first_node below are.first_is;
      first_within = λ letter. rw (are.first_is letter, size) (old.first_within (relabelled places letter));
      rows_known = λ i d h. subst (λ n. n < length shapes) (at i d h) (are.rows_known i (inside i h));
      rows_narrow = λ i d h. subst (λ n. LooksBelow shapes n (length tracks)) (at i d h)
          (narrow a shapes places (length tracks) (slice_index rows i) (slice_index a.row_nodes i) below (λ letter. are.rows_are i letter (inside i h)));
      rows_within = λ i d h. subst (λ n. (letter : ℕ) → map_at shapes n letter < length accept) (at i d h)
          (λ letter. rw (are.rows_are i letter (inside i h), size) (old.rows_within i 0 (inside i h) (relabelled places letter)));
    }

-- the word of the bits at the places is one of as many tracks
IsWord-map : (places : List ℕ) {tracks : ℕ} (count : ℕ) {word : List ℕ} → length places ≡ count → IsWord tracks word → IsWord count (map (relabelled places) word)
IsWord-map places count {word} size is = record { nonempty = some word is.nonempty; letters = letters word }
  where
    some : (word : List ℕ) → word ≢ [] → map (relabelled places) word ≢ []
    some [] none e = none refl
    some (l ∷ ls) none e = cc

    letters : (word : List ℕ) → All (λ letter. letter < 2 ^ count) (map (relabelled places) word)
    letters [] i d h = absurd (omega (arith, h))
    letters (l ∷ ls) zero d h = rw (← size) (relabelled-below places l)
    letters (l ∷ ls) (suc i) d h = letters ls i d (omega (arith, h))

repeat-map : (f : ℕ → ℕ) (word : List ℕ) → repeat_first (map f word) ≡ map f (repeat_first word)
repeat-map f [] = refl
repeat-map f (l ∷ ls) = refl

module _ (a new : Automaton) (places : List ℕ) (over : IsOverNodes a) (made : IsOverNodes new) (count : length places ≡ length a.tracks)
    (same : new.accept ≡ a.accept) (are : AreRenamed a new.shapes places new.first_node new.row_nodes) where
  inside : (letter : ℕ) → relabelled places letter < width a
  inside letter = rw (← count) (relabelled-below places letter)

  first-is : (letter : ℕ) → letter < width new → first_state new letter ≡ first_state a (relabelled places letter)
  first-is letter h = sym (first-map new made letter h) ∙ are.first_is letter ∙ first-map a over (relabelled places letter) (inside letter)

  next-is : (state letter : ℕ) → state < length a.accept → letter < width new → next_state new state letter ≡ next_state a state (relabelled places letter)
  next-is state letter k h =
      let size = over.nodes.rows_size in
      let rows = are.count in
      let here : state < length a.row_nodes = omega (arith, k, size) in
      sym (row-map new made state letter (omega (arith, here, rows)) h) ∙ are.rows_are state letter here ∙ row-map a over state (relabelled places letter) here (inside letter)

  next-within : (state letter : ℕ) → state < length a.accept → next_state a state (relabelled places letter) < length a.accept
  next-within state letter k =
      let size = over.nodes.rows_size in
      let here : state < length a.row_nodes = omega (arith, k, size) in
      rw (← row-map a over state (relabelled places letter) here (inside letter)) (over.nodes.rows_within state 0 here (relabelled places letter))

  run-is : (letters : List ℕ) (s t : ℕ) → s ≡ t → t < length a.accept → All (λ letter. letter < width new) letters → run new s letters ≡ run a t (map (relabelled places) letters)
  run-is [] s t e k all = e
  run-is (l ∷ ls) s t e k all =
      run-is ls (next_state new s l) (next_state a t (relabelled places l)) (ap (λ n. next_state new n l) e ∙ next-is t l k (all 0 0 (omega arith)))
      (next-within t l k) (λ i d h. all (suc i) d (omega (arith, h)))

  state-is : (word : List ℕ) → All (λ letter. letter < width new) word → state_of new word ≡ state_of a (map (relabelled places) word)
  state-is [] all = refl
  state-is (l ∷ ls) all =
      run-is ls (first_state new l) (first_state a (relabelled places l)) (first-is l (all 0 0 (omega arith)))
      (rw (← first-map a over (relabelled places l) (inside l)) (over.nodes.first_within (relabelled places l))) (λ i d h. all (suc i) d (omega (arith, h)))

  all-cons : (letter : ℕ) (letters : List ℕ) → letter < width new → All (λ l. l < width new) letters → All (λ l. l < width new) (letter ∷ letters)
  all-cons letter letters here all zero d h = here
  all-cons letter letters here all (suc i) d h = all i d (omega (arith, h))

  module _ (covers : (letter : ℕ) → letter < width a → (from : ℕ) × (from < width new) × (relabelled places from ≡ letter)) where
    read_from : (letters : List ℕ) → All (λ l. l < width a) letters → (word : List ℕ) × All (λ l. l < width new) word × (map (relabelled places) word ≡ letters)
    read_from [] all = ([], λ i d h. absurd (omega (arith, h)), refl)
    read_from (l ∷ ls) all =
        let one = covers l (all 0 0 (omega arith)) in
        let rest = read_from ls (λ i d h. all (suc i) d (omega (arith, h))) in
        (one.0 ∷ rest.0, all-cons one.0 rest.0 one.1 rest.1, λ i. one.2 i ∷ rest.2 i)

    some_letter : (word letters : List ℕ) → map (relabelled places) word ≡ letters → letters ≢ [] → word ≢ []
    some_letter word letters is some none = some (sym is ∙ ap (map (relabelled places)) none)

    -- each letter is read from some letter, so no fewer states are reached
    pub AllReached-renamed : AllReached a → AllReached new
    AllReached-renamed reached = λ state h.
        let size = ap length same in
        let r = reached state (omega (arith, h, size)) in
        let w = read_from r.word r.is_word.letters in
        record {
          word = w.0;
          is_word = record { nonempty = some_letter w.0 r.word w.2 r.is_word.nonempty; letters = w.1 };
          leads = state-is w.0 w.1 ∙ ap (state_of a) w.2 ∙ r.leads;
        }

    -- and no more states are alike
    pub IsReduced-renamed : IsReduced a → IsReduced new
    IsReduced-renamed reduced =
        let size = ap length same in
        record {
          reached = AllReached-renamed reduced.reached;
          apart = λ j k jw kw ne.
              let jh : j < length a.accept = omega (arith, jw, size) in
              let kh : k < length a.accept = omega (arith, kw, size) in
              let t = reduced.apart j k jh kh ne in
              let w = read_from t.letters t.are_letters in
              let final = λ (s : ℕ) (h : s < length a.accept).
              (let e : is_final new (run new s w.0) ≡ is_final a (run a s t.letters) =
              (λ i. slice_index_or (same i) (run-is w.0 s s refl h w.1 i) false) ∙ ap (λ l. is_final a (run a s l)) w.2 in
              e) in
              record { letters = w.0; are_letters = w.1; differ = λ e. t.differ (sym (final j jh) ∙ e ∙ final k kh) };
        }

  -- a word is accepted just if the word of the bits at the places is
  pub words-renamed : (word : List ℕ) → IsWord (length new.tracks) word → Accepts new word ↔ Accepts a (map (relabelled places) word)
  words-renamed word is =
      let final : is_final new (state_of new word) ≡ is_final a (state_of a (map (relabelled places) word)) = λ i. slice_index_or (same i) (state-is word is.letters i) false in
      (λ h. subst IsTrue final h, λ h. subst IsTrue (sym final) h)

  pub DecidesIntegers-renamed : DecidesIntegers a → DecidesIntegers new
  DecidesIntegers-renamed decides = record {
    stable = λ word is.
        let one = words-renamed word is in
        let longer = words-renamed (repeat_first word) (IsWord-again is) in
        let old = decides.stable (map (relabelled places) word) (IsWord-map places (length a.tracks) count is) in
        let twice = subst (λ w. Accepts a (map (relabelled places) word) ↔ Accepts a w) (repeat-map (relabelled places) word) old in
        (λ h. longer.1 (twice.0 (one.0 h)), λ h. one.1 (twice.1 (longer.0 h)));
  }
