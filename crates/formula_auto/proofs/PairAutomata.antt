-- The automaton of all pairs of states of two automata. No step makes it: it shows what And of the two decides, and by how many states.
use Rattle.std.proofs.Common.{◌≡◌, ◌↔◌, ℕ, ◌+◌, ◌*◌, ◌/◌, ◌%◌, ◌<◌, ◌≤◌, ◌^◌, Bool, true, false, IsTrue, ◌&&◌, List, [], ◌∷◌, length, map, All, get_or, arith, refl, sym, ap, ◌∙◌, subst, true≢false}
use Rattle.std.specs.List.{range_with_len}
use Rattle.std.proofs.Math.Nat.{mul_comm}
use Rattle.std.proofs.lemmas.Nat.{div-mul-add, mod-mul-add, mul-add-lt}
use Rattle.std.proofs.lemmas.List.{length-map, get_or-map}
use Rattle.std.proofs.lemmas.List.FromFn.{length-range_with_len, get_or-range_with_len}
use Rattle.std.proofs.lemmas.List.Elements.{All-head, All-tail}
use Rattle.limits.specs.declared.numbers.TheConstants.{MOST_TRACKS}
use Rattle.track_word.specs.declared.tracks.Var.{Var}
use Rattle.track_word.specs.Word.{IsWord}
use Rattle.track_word.specs.Tracks.{with_vars, restrict, part_of}
use Rattle.auto_core.specs.Automaton.{Automaton, IsAutomaton, first_state, next_state, run, state_of, is_final}
use Rattle.auto_core.proofs.States.{entry_within, state_within}
use Rattle.auto_bool.specs.Words.{AcceptsBoth}
use Rattle.auto_bool.specs.declared.connective.Connective.TheVariants.{And}
use Rattle.auto_bool.proofs.TrackLemmas.{ascending-with_vars}
use Rattle.formula_auto.specs.Nodes.{DecidesBoth}
use Rattle.formula_auto.proofs.Operands.{decides-by}

-- what stands at a place of a list of numbers that were mapped
at-map : {X : Type 0} (f : ℕ → X) (n i : ℕ) (d : X) → i < n → get_or (map f (range_with_len 0 n)) i d ≡ f i
at-map f n i d within =
    let inside : i < length (range_with_len 0 n) = let size = length-range_with_len 0 n in omega (arith, size, within) in
    let same : 0 + i ≡ i = omega arith in
    get_or-map f (range_with_len 0 n) i 0 d inside ∙ ap f (get_or-range_with_len 0 n i 0 within ∙ same)

size-map : {X : Type 0} (f : ℕ → X) (n : ℕ) → length (map f (range_with_len 0 n)) ≡ n
size-map f n = length-map (range_with_len 0 n) f ∙ length-range_with_len 0 n

all-map : {X : Type 0} (P : X → Type 0) (f : ℕ → X) (n : ℕ) → ((i : ℕ) → i < n → P (f i)) → All P (map f (range_with_len 0 n))
all-map P f n h = λ i d within.
    let size = size-map f n in
    let inside : i < n = omega (arith, size, within) in
    subst P (sym (at-map f n i d inside)) (h i inside)

-- a place in a table by rows
place-below : (row column rows columns : ℕ) → row < rows → column < columns → row * columns + column < rows * columns
place-below row column rows columns r c = subst (λ n. row * columns + column < n) (mul_comm columns rows) (mul-add-lt row columns column rows r c)

both_true : (p q : Bool) → IsTrue (p && q) ↔ (IsTrue p × IsTrue q)
both_true true q = (λ h. (refl, h), λ h. h.1)
both_true false q = (λ h. absurd (true≢false (sym h)), λ h. absurd (true≢false (sym h.0)))

module _ (a b : Automaton) (a_valid : IsAutomaton a) (b_valid : IsAutomaton b) where
  abbrev all : List Var
  all = with_vars a.tracks b.tracks

  abbrev letters : ℕ
  letters = 2 ^ length (with_vars a.tracks b.tracks)

  -- the number of a pair of states
  abbrev number : ℕ → ℕ → ℕ
  number p q = p * length b.accept + q

  abbrev first_number : ℕ → ℕ
  first_number letter = number (first_state a (restrict all a.tracks letter)) (first_state b (restrict all b.tracks letter))

  abbrev next_number : ℕ → ℕ → ℕ
  next_number state letter =
      number (next_state a (state / length b.accept) (restrict all a.tracks letter)) (next_state b (state % length b.accept) (restrict all b.tracks letter))

  abbrev flag : ℕ → Bool
  flag state = is_final a (state / length b.accept) && is_final b (state % length b.accept)

  abbrev next_at : ℕ → ℕ
  next_at place = next_number (place / letters) (place % letters)

  abbrev pub pairs : Automaton
  pairs = record {
    tracks = all;
    first = map first_number (range_with_len 0 letters);
    next = map next_at (range_with_len 0 (length a.accept * length b.accept * letters));
    accept = map flag (range_with_len 0 (length a.accept * length b.accept));
    shapes = [];
    first_node = 0;
    row_nodes = [];
  }

  pub pairs-size : length pairs.accept ≡ length a.accept * length b.accept
  pairs-size = size-map flag (length a.accept * length b.accept)

  number-below : (p q : ℕ) → p < length a.accept → q < length b.accept → number p q < length a.accept * length b.accept
  number-below p q left right = place-below p q (length a.accept) (length b.accept) left right

  first_below : (state : ℕ) → first_state a state < length a.accept
  first_below state = entry_within (length a.accept) a.first state a_valid.some_state a_valid.first_within

  first_below-2 : (state : ℕ) → first_state b state < length b.accept
  first_below-2 state = entry_within (length b.accept) b.first state b_valid.some_state b_valid.first_within

  next_below : (state letter : ℕ) → next_state a state letter < length a.accept
  next_below state letter = entry_within (length a.accept) a.next _ a_valid.some_state a_valid.next_within

  next_below-2 : (state letter : ℕ) → next_state b state letter < length b.accept
  next_below-2 state letter = entry_within (length b.accept) b.next _ b_valid.some_state b_valid.next_within

  pub pairs-valid : length a.accept * length b.accept < 2 ^ 31 → length all ≤ MOST_TRACKS → IsAutomaton pairs
  pairs-valid few fit = record {
    ascending = ascending-with_vars a.tracks b.tracks b_valid.ascending;
    few_tracks = fit;
    some_state = (let some = number-below 0 0 a_valid.some_state b_valid.some_state in omega (arith, some, pairs-size));
    few_states = omega (arith, few, pairs-size);
    first_size = size-map first_number letters;
    next_size = size-map next_at (length a.accept * length b.accept * letters) ∙ ap (λ n. n * letters) (sym pairs-size);
    first_within = all-map (λ state. state < length pairs.accept) first_number letters
        (λ letter _. let below = number-below _ _ (first_below (restrict all a.tracks letter)) (first_below-2 (restrict all b.tracks letter)) in omega (arith, below, pairs-size));
    next_within = all-map (λ state. state < length pairs.accept) next_at (length a.accept * length b.accept * letters)
        (λ place _. let below = number-below _ _ (next_below (place / letters / length b.accept) (restrict all a.tracks (place % letters))) (next_below-2 (place / letters % length b.accept) (restrict all b.tracks (place % letters))) in omega (arith, below, pairs-size));
  }

  next-pair : (p q letter : ℕ) → p < length a.accept → q < length b.accept → letter < letters
      → next_state pairs (number p q) letter ≡ number (next_state a p (restrict all a.tracks letter)) (next_state b q (restrict all b.tracks letter))
  next-pair p q letter left right below =
      let here : number p q * letters + letter < length a.accept * length b.accept * letters =
      place-below (number p q) letter (length a.accept * length b.accept) letters (number-below p q left right) below in
      let state = div-mul-add (number p q) letters letter below in
      let read = mod-mul-add (number p q) letters letter below in
      let first = ap (λ n. n / length b.accept) state ∙ div-mul-add p (length b.accept) q right in
      let second = ap (λ n. n % length b.accept) state ∙ mod-mul-add p (length b.accept) q right in
      at-map next_at (length a.accept * length b.accept * letters) (number p q * letters + letter) 0 here
      ∙ (λ i. number (next_state a (first i) (restrict all a.tracks (read i))) (next_state b (second i) (restrict all b.tracks (read i))))

  run-pair : (word : List ℕ) (p q : ℕ) → p < length a.accept → q < length b.accept → All (λ letter. letter < letters) word
      → run pairs (number p q) word ≡ number (run a p (part_of all a.tracks word)) (run b q (part_of all b.tracks word))
  run-pair [] p q left right are = refl
  run-pair (letter ∷ word) p q left right are =
      let below = All-head (λ l. l < letters) letter word are in
      let rest = All-tail (λ l. l < letters) letter word are in
      ap (λ state. run pairs state word) (next-pair p q letter left right below)
      ∙ run-pair word _ _ (next_below p (restrict all a.tracks letter)) (next_below-2 q (restrict all b.tracks letter)) rest

  -- the states to which a word leads on either side
  record LeadsTo (word : List ℕ) : Type 0 where
    left : state_of a (part_of all a.tracks word) < length a.accept
    right : state_of b (part_of all b.tracks word) < length b.accept
    leads : state_of pairs word ≡ number (state_of a (part_of all a.tracks word)) (state_of b (part_of all b.tracks word))

  leads-to : (word : List ℕ) → IsWord (length all) word → LeadsTo word
  leads-to [] is = absurd (is.nonempty refl)
  leads-to (sign ∷ word) is =
      let below = All-head (λ l. l < letters) sign word is.letters in
      let rest = All-tail (λ l. l < letters) sign word is.letters in
      record {
        left = state_within a_valid (part_of all a.tracks (sign ∷ word));
        right = state_within b_valid (part_of all b.tracks (sign ∷ word));
        leads = ap (λ state. run pairs state word) (at-map first_number letters sign 0 below)
            ∙ run-pair word _ _ (first_below (restrict all a.tracks sign)) (first_below-2 (restrict all b.tracks sign)) rest;
      }

  pairs-accept : AcceptsBoth a b pairs
  pairs-accept word is =
      let to = leads-to word is in
      let first = div-mul-add (state_of a (part_of all a.tracks word)) (length b.accept) (state_of b (part_of all b.tracks word)) to.right in
      let second = mod-mul-add (state_of a (part_of all a.tracks word)) (length b.accept) (state_of b (part_of all b.tracks word)) to.right in
      let flags : is_final pairs (state_of pairs word) ≡ (is_final a (state_of a (part_of all a.tracks word)) && is_final b (state_of b (part_of all b.tracks word))) =
      ap (is_final pairs) to.leads
      ∙ at-map flag (length a.accept * length b.accept) _ false (number-below _ _ to.left to.right)
      ∙ (λ i. is_final a (first i) && is_final b (second i)) in
      let both = both_true (is_final a (state_of a (part_of all a.tracks word))) (is_final b (state_of b (part_of all b.tracks word))) in
      (λ h. both.0 (subst IsTrue flags h), λ h. subst IsTrue (sym flags) (both.1 h))

  -- it decides And of what the two decide
  pub pairs-decide : DecidesBoth And a b pairs
  pairs-decide = decides-by And refl pairs-accept
