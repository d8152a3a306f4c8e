-- The automaton of sums decides its atom.
use Rattle.std.proofs.Common.{◌≡◌, ℕ, zero, suc, ℤ, pos, negsuc, neg_ℤ, ◌+ℤ◌, ◌*ℤ◌, ◌+◌, ◌*◌, ◌<◌, ◌≤◌, Bool, true, false, List, [], ◌∷◌, length, map, get_or, slice_index, All, unsigned_abs, nat_lt, if◌then◌else◌, arith, refl, sym, ap, ◌∙◌, subst}
use Rattle.std.specs.Int.{bit_at}
use Rattle.std.proofs.lemmas.Int.{ints}
use Rattle.std.proofs.lemmas.List.Sums.{sum_by-cons}
use Rattle.std.proofs.lemmas.List.{get_or_default, length-map}
use Rattle.track_word.specs.declared.tracks.Var.{Var}
use Rattle.track_word.specs.declared.atoms.Rel.{Rel}
use Rattle.track_word.specs.Tracks.{IsAscending, place, word_values}
use Rattle.track_word.specs.Atom.{IsAtom, IsCoefficient, sum_of, term_vars, atom_tracks}
use Rattle.letter_diagram.specs.declared.diagrams.Shape.{Shape}
use Rattle.letter_diagram.specs.Diagram.{map_at, LooksBelow}
use Rattle.auto_core.specs.declared.sums.ValueRange.{ValueRange}
use Rattle.auto_core.specs.Automaton.{Automaton, IsAutomaton, width, first_state, next_state, state_of}
use Rattle.auto_core.specs.Words.{AcceptsWhere}
use Rattle.auto_core.specs.Rows.{AreRows, row_of, rows_of}
use Rattle.auto_core.specs.Sums.{with_term, ordered_terms, gain, loss, reach_of, sizes_of, weight_from, total, SumCompares, IsSmall, AreWeights, IsSpan, IsSpanOf, StandsFor, IsSumRow, AreSumRows, AreFlagsOf}
use Rattle.auto_core.proofs.Ascents.{IsAscending-with_vars, place-at}
use Rattle.auto_core.proofs.Orders.{Each, Each-all, each-ordered, sum-ordered, length-ordered, vars-ordered, term_vars-map}
use Rattle.auto_core.proofs.RowLemmas.{get_or-row_of, get_or-rows_of}
use Rattle.auto_core.proofs.Spans.{weight-between, weight-neg, weight-same, StandsFor-one, StandsFor-more, Compares-state}
use Rattle.auto_core.proofs.Totals.{total-sum, sum_weight, ReadsTotals, stands-state_of}

-- weights by terms and by tracks
weights-at : (tracks : List Var) (terms : List (ℤ × Var)) (i letter : ℕ) → ((j : ℕ) (d : ℤ × Var) → j < length terms → place tracks (record { 0 = (get_or terms j d).1.0 }) ≡ i + j)
    → sum_weight tracks terms letter ≡ weight_from i (map (λ t. t.0) terms) letter
weights-at tracks [] i letter at = refl
weights-at tracks (t ∷ terms) i letter at =
    let here : place tracks (record { 0 = t.1.0 }) ≡ i = at 0 t (omega arith) ∙ omega arith in
    ap (λ k. (t.0 *ℤ pos (bit_at letter k)) +ℤ sum_weight tracks terms letter) here
    ∙ ap (λ z. (t.0 *ℤ pos (bit_at letter i)) +ℤ z) (weights-at tracks terms (suc i) letter (λ j d h. at (suc j) d (omega (arith, h)) ∙ omega arith))

vars-at : (terms : List (ℤ × Var)) (j : ℕ) (d : ℤ × Var) → get_or (term_vars terms) j d.1 ≡ (get_or terms j d).1
vars-at [] j d = refl
vars-at (t ∷ terms) zero d = refl
vars-at (t ∷ terms) (suc j) d = vars-at terms j d

-- the terms in order, with their tracks and weights
pub record AreOrdered (terms ordered : List (ℤ × Var)) (tracks : List Var) (weights : List ℤ) : Type 0 where
  pub is : ordered ≡ ordered_terms terms
  pub tracks_are : tracks ≡ map (λ t. t.1) ordered
  pub weights_are : weights ≡ map (λ t. t.0) ordered

module _ (terms ordered : List (ℤ × Var)) (tracks : List Var) (weights : List ℤ) (bound : ℤ) (atom : IsAtom terms bound) (are : AreOrdered terms ordered tracks weights) where
  pub tracks-atom : tracks ≡ atom_tracks terms
  tracks-atom = are.tracks_are ∙ ap (map (λ (t : ℤ × Var). t.1)) are.is ∙ term_vars-map (ordered_terms terms) ∙ vars-ordered terms atom.0.2

  pub tracks-ascending : IsAscending tracks
  tracks-ascending = subst IsAscending (sym tracks-atom) (IsAscending-with_vars (term_vars terms))

  pub tracks-length : length tracks ≡ length terms
  tracks-length = ap length are.tracks_are ∙ length-map ordered (λ (t : ℤ × Var). t.1) ∙ ap length are.is ∙ length-ordered terms

  pub weights-length : length weights ≡ length terms
  weights-length = ap length are.weights_are ∙ length-map ordered (λ (t : ℤ × Var). t.0) ∙ ap length are.is ∙ length-ordered terms

  weight-is : (letter : ℕ) → sum_weight tracks ordered letter ≡ weight_from 0 weights letter
  weight-is letter =
      weights-at tracks ordered 0 letter (λ j d h.
      let inside : j < length tracks = rw (tracks-length, ← length-ordered terms, ← are.is) h in
      let at : get_or tracks j d.1 ≡ (get_or ordered j d).1 = ap (λ l. get_or l j d.1) (are.tracks_are ∙ term_vars-map ordered) ∙ vars-at ordered j d in
      ap (λ v. place tracks (record { 0 = v.0 })) (sym at) ∙ place-at tracks j d.1 tracks-ascending inside ∙ omega arith)
      ∙ ap (λ w. weight_from 0 w letter) (sym are.weights_are)

  same-weights : sum_weight tracks ordered ≡ weight_from 0 weights
  same-weights = λ i letter. weight-is letter i

  -- what a word's weights come to is the sum of the values
  pub total-is : (word : List ℕ) → total (weight_from 0 weights) word ≡ sum_of terms (word_values (atom_tracks terms) word)
  total-is word =
      ap (λ w. total w word) (sym same-weights)
      ∙ total-sum tracks ordered word ∙ ap (λ l. sum_of l (word_values tracks word)) are.is
      ∙ sum-ordered terms (word_values tracks word) ∙ ap (λ t. sum_of terms (word_values t word)) tracks-atom

stands-within : (span : ValueRange) (x : ℤ) (s states : ℕ) → StandsFor span x s → pos states +ℤ span.low ≡ span.high +ℤ pos 1 → s < states
stands-within span x s states is count = let w = is.within in omega (arith, ints, w, count)

row-narrow : (shapes : List Shape) (weights : List ℤ) {span : ValueRange} (sum : ℤ) (node tracks : ℕ) → IsSpan span → length weights ≡ tracks → IsSumRow shapes weights span 0 sum node
    → LooksBelow shapes node tracks
row-narrow shapes weights {span} sum node tracks is size row = record {
  same = λ a b bits.
      let e = weight-same weights 0 a b (λ k h. bits k (omega (arith, h, size))) in
      StandsFor-one (sum +ℤ weight_from 0 weights b) (map_at shapes node a) (map_at shapes node b) is
      (subst (λ w. StandsFor span (sum +ℤ w) (map_at shapes node a)) e (row.map a)) (row.map b);
}

-- the nodes of the rows of sums are rows of an automaton
pub AreRows-sums : (tracks : List Var) {shapes : List Shape} {weights opposite : List ℤ} {span : ValueRange} {first : ℕ} {rows : List ℕ} (accept : List Bool) → IsSpan span
    → IsAscending tracks → length tracks ≤ 8 → length weights ≡ length tracks → length opposite ≡ length tracks
    → pos (length rows) +ℤ span.low ≡ span.high +ℤ pos 1 → pos (length accept) +ℤ span.low ≡ span.high +ℤ pos 1 → IsSumRow shapes opposite span 0 (pos 0) first
    → AreSumRows shapes weights span rows → AreRows tracks shapes first rows accept
AreRows-sums tracks {shapes} {weights} {opposite} {span} {first} {rows} accept is up few size size_opposite count_rows count first_row are =
    let some = is.some in
    let low = is.low in
    let high = is.high in
    let at = λ (i d : ℕ) (h : i < length rows). subst (λ n. IsSumRow shapes weights span 0 ((span.low +ℤ pos i) +ℤ (span.low +ℤ pos i)) n) (get_or_default rows i 0 d h) (are.rows i h) in
    record {
      ascending = up;
      few_tracks = omega (arith, few);
      some_state = omega (arith, ints, some, count);
      few_states = omega (arith, ints, low, high, count);
      rows_size = omega (arith, ints, count_rows, count);
      first_known = first_row.known;
      first_narrow = row-narrow shapes opposite (pos 0) first (length tracks) is size_opposite first_row;
      first_within = λ letter. stands-within span (pos 0 +ℤ weight_from 0 opposite letter) (map_at shapes first letter) (length accept) (first_row.map letter) count;
      rows_known = λ i d h. (at i d h).known;
      rows_narrow = λ i d h. row-narrow shapes weights ((span.low +ℤ pos i) +ℤ (span.low +ℤ pos i)) (get_or rows i d) (length tracks) is size (at i d h);
      rows_within =
          λ i d h letter. stands-within span (((span.low +ℤ pos i) +ℤ (span.low +ℤ pos i)) +ℤ weight_from 0 weights letter)
          (map_at shapes (get_or rows i d) letter) (length accept) ((at i d h).map letter) count;
    }

module _ (a : Automaton) (shapes : List Shape) (weights opposite : List ℤ) (bound : ℤ) (span : ValueRange) (first : ℕ) (rows : List ℕ)
    (is_span : IsSpanOf weights bound span) (negative : opposite ≡ map neg_ℤ weights)
    (first_is : a.first ≡ row_of shapes (width a) first) (next_is : a.next ≡ rows_of shapes (width a) rows) (states : length rows ≡ length a.accept)
    (first_row : IsSumRow shapes opposite span 0 (pos 0) first) (are : AreSumRows shapes weights span rows) where
  sum_reads : ReadsTotals a (weight_from 0 weights) (StandsFor span)
  sum_reads = record {
    first = λ letter below.
        let at : first_state a letter ≡ map_at shapes first letter = ap (λ l. slice_index l letter) first_is ∙ get_or-row_of shapes (width a) first letter below in
        let sum : pos 0 +ℤ weight_from 0 opposite letter ≡ neg_ℤ (weight_from 0 weights letter) =
        zero-add (weight_from 0 opposite letter) ∙ ap (λ w. weight_from 0 w letter) negative ∙ weight-neg weights 0 letter in
        rw at (subst (λ z. StandsFor span z (map_at shapes first letter)) sum (first_row.map letter));
    next = λ x state letter known below here.
        let inside : state < length rows = rw states known in
        let at : next_state a state letter ≡ map_at shapes (slice_index rows state) letter =
        ap (λ l. slice_index l (state * width a + letter)) next_is ∙ get_or-rows_of shapes (width a) rows state letter 0 inside below in
        rw at
        (StandsFor-more x (weight_from 0 weights letter) state (map_at shapes (slice_index rows state) letter) is_span
        (weight-between weights 0 letter) here ((are.rows state inside).map letter));
  }
    where
      zero-add : (z : ℤ) → pos 0 +ℤ z ≡ z
      zero-add z = omega (arith, ints)

  pub sum_words : (rel : Rel) → IsAutomaton a → AreFlagsOf rel bound span a.accept → AcceptsWhere a.tracks (SumCompares weights rel bound) a
  sum_words rel is flags word word_is =
      let reads = stands-state_of is sum_reads word_is in
      let tells = flags.tells (state_of a word) reads.1 in
      let compares = Compares-state rel is_span reads.0 in
      (λ h. compares.0 (tells.0 h), λ h. tells.1 (compares.1 h))

opposite-small : (weights : List ℤ) → All IsSmall weights → All IsSmall (map neg_ℤ weights)
opposite-small [] all i d h = absurd (omega (arith, h))
opposite-small (w ∷ weights) all zero d h = let s = all 0 w (omega arith) in let low = s.0 in let high = s.1 in (omega (arith, ints, low, high), omega (arith, ints, low, high))
opposite-small (w ∷ weights) all (suc i) d h = opposite-small weights (λ j e k. all (suc j) e (omega (arith, k))) i d (omega (arith, h))

pub AreWeights-opposite : {tracks : List Var} {weights opposite : List ℤ} → AreWeights tracks weights opposite → All IsSmall opposite × (length opposite ≡ length tracks)
AreWeights-opposite {weights} are = (rw are.negative (opposite-small weights are.small), ap length are.negative ∙ length-map weights neg_ℤ ∙ are.size)

each-small : (terms : List (ℤ × Var)) → Each IsCoefficient terms → All IsSmall (map (λ t. t.0) terms)
each-small [] each i d h = absurd (omega (arith, h))
each-small (t ∷ terms) each zero d h = (each.0.1, each.0.2)
each-small (t ∷ terms) each (suc i) d h = each-small terms each.1 i d (omega (arith, h))

pub AreWeights-atom : {terms ordered : List (ℤ × Var)} {tracks : List Var} {weights : List ℤ} (opposite : List ℤ) (bound : ℤ) → IsAtom terms bound → AreOrdered terms ordered tracks weights
    → opposite ≡ map neg_ℤ weights → AreWeights tracks weights opposite
AreWeights-atom {terms} {ordered} {tracks} {weights} opposite bound atom are negative = record {
  ascending = tracks-ascending terms ordered tracks weights bound atom are;
  few = let few = atom.0.1 in let l = tracks-length terms ordered tracks weights bound atom are in omega (arith, few, l);
  size = weights-length terms ordered tracks weights bound atom are ∙ sym (tracks-length terms ordered tracks weights bound atom are);
  small = rw (are.weights_are, are.is) (each-small (ordered_terms terms) (each-ordered IsCoefficient terms (Each-all IsCoefficient terms atom.1)));
  negative = negative;
}

magnitude : (z : ℤ) → gain z + loss z ≡ unsigned_abs z
magnitude (pos n) = omega (arith, ints)
magnitude (negsuc n) = omega (arith, ints)

magnitudes : (terms : List (ℤ × Var)) → reach_of (map (λ t. t.0) terms) ≡ sizes_of terms
magnitudes [] = refl
magnitudes (t ∷ terms) =
    let a = sum_by-cons gain t.0 (map (λ (t : ℤ × Var). t.0) terms) in
    let b = sum_by-cons loss t.0 (map (λ (t : ℤ × Var). t.0) terms) in
    let c = sum_by-cons (λ (t : ℤ × Var). unsigned_abs t.0) t terms in
    let m = magnitude t.0 in
    let e = magnitudes terms in
    omega (arith, a, b, c, m, e)

abs-cons : (b : Bool) (t u : ℤ × Var) (terms : List (ℤ × Var)) → sizes_of (with_term t terms) ≡ unsigned_abs t.0 + sizes_of terms
    → sizes_of (if b then t ∷ u ∷ terms else u ∷ with_term t terms) ≡ unsigned_abs t.0 + sizes_of (u ∷ terms)
abs-cons true t u terms e = sum_by-cons (λ (t : ℤ × Var). unsigned_abs t.0) t (u ∷ terms)
abs-cons false t u terms e =
    let a = sum_by-cons (λ (t : ℤ × Var). unsigned_abs t.0) u (with_term t terms) in
    let b = sum_by-cons (λ (t : ℤ × Var). unsigned_abs t.0) u terms in
    omega (arith, a, b, e)

abs-with_term : (t : ℤ × Var) (terms : List (ℤ × Var)) → sizes_of (with_term t terms) ≡ unsigned_abs t.0 + sizes_of terms
abs-with_term t [] = sum_by-cons (λ (t : ℤ × Var). unsigned_abs t.0) t []
abs-with_term t (u ∷ terms) = abs-cons (nat_lt t.1.0 u.1.0) t u terms (abs-with_term t terms)

abs-ordered : (terms : List (ℤ × Var)) → sizes_of (ordered_terms terms) ≡ sizes_of terms
abs-ordered [] = refl
abs-ordered (t ∷ terms) =
    let a = abs-with_term t (ordered_terms terms) in
    let b = sum_by-cons (λ (t : ℤ × Var). unsigned_abs t.0) t terms in
    let e = abs-ordered terms in
    omega (arith, a, b, e)

-- the weights' magnitudes are those of the terms
pub weights-size : (terms ordered : List (ℤ × Var)) (tracks : List Var) (weights : List ℤ) → AreOrdered terms ordered tracks weights
    → reach_of weights ≡ sizes_of terms
weights-size terms ordered tracks weights are =
    ap reach_of (are.weights_are ∙ ap (map (λ (t : ℤ × Var). t.0)) are.is) ∙ magnitudes (ordered_terms terms)
    ∙ abs-ordered terms
