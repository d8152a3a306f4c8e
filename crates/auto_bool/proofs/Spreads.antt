-- Words that lead to one pair of states are alike, and in reduced automata no others are. Crates above cite these lemmas.
use Rattle.std.proofs.Common.{◌≡◌, ◌≢◌, ℕ, suc, ◌+◌, ◌*◌, ◌/◌, ◌<◌, ◌≤◌, List, [], ◌∷◌, length, map, All, AllPairs, get_or, refl, sym, ap, ◌∙◌, arith}
use Rattle.std.proofs.Math.Nat.{mul-le-mul_right}
use Rattle.std.proofs.lemmas.Nat.{div-mul-add}
use Rattle.std.proofs.lemmas.Bool.Decides.{Decides-eqb}
use Rattle.std.proofs.lemmas.List.{length-map, get_or-map}
use Rattle.std.proofs.lemmas.List.Elements.{All-map, All-contains}
use Rattle.std.proofs.lemmas.Map.Made.{IsDistinct-from_AllPairs, is_member-Decides}
use Rattle.std.proofs.lemmas.Map.Steps.{length-le_from_distinct_below}
use Rattle.track_word.specs.Tracks.{with_vars, restrict, part_of}
use Rattle.auto_core.specs.Automaton.{Automaton, IsAutomaton, state_of, Accepts}
use Rattle.auto_core.specs.Reduced.{IsReduced}
use Rattle.auto_core.specs.Spread.{AlikeInBoth, HasMoreClasses, BothSpreadExceeds}
use Rattle.auto_walk.specs.Walker.{place_of, MoreThan}
use Rattle.auto_bool.specs.declared.connective.Connective.{Connective}
use Rattle.auto_bool.specs.Both.{both_walker}
use Rattle.auto_core.proofs.States.{state_within, same_state, same_residual}
use Rattle.auto_bool.proofs.PairLemmas.{place_of-pair, first_of_two, second_of_two}

row_below : (x y rows row : ℕ) → x < rows → y < row → x * row + y < rows * row
row_below x y rows row first second =
    let most = mul-le-mul_right {m = suc x} {n = rows} row first in
    let next : suc x * row ≡ x * row + row = grind arith in
    omega (arith, most, next, second)

pub not_nil-map : (f : ℕ → ℕ) (word : List ℕ) → word ≢ [] → map f word ≢ []
not_nil-map f [] h e = h refl
not_nil-map f (x ∷ xs) h e = cc

-- words that lead to one pair are alike, whatever the automata
module _ (a b : Automaton) where
  alike_at : (v w : List ℕ) → v ≢ [] → w ≢ [] → state_of a (part_of (with_vars a.tracks b.tracks) a.tracks v) ≡ state_of a (part_of (with_vars a.tracks b.tracks) a.tracks w)
      → state_of b (part_of (with_vars a.tracks b.tracks) b.tracks v) ≡ state_of b (part_of (with_vars a.tracks b.tracks) b.tracks w)
      → AlikeInBoth (with_vars a.tracks b.tracks) a.tracks b.tracks (Accepts a) (Accepts b) v w
  alike_at v w v_some w_some left right = record {
    left =
        same_residual a _ _ (not_nil-map (restrict (with_vars a.tracks b.tracks) a.tracks) v v_some)
        (not_nil-map (restrict (with_vars a.tracks b.tracks) a.tracks) w w_some) left;
    right =
        same_residual b _ _ (not_nil-map (restrict (with_vars a.tracks b.tracks) b.tracks) v v_some)
        (not_nil-map (restrict (with_vars a.tracks b.tracks) b.tracks) w w_some) right;
  }

module _ (a b : Automaton) (connective : Connective) where
  pub MoreThan-from_spread : (budget : ℕ) → BothSpreadExceeds a.tracks b.tracks (Accepts a) (Accepts b) budget → MoreThan (both_walker a b connective) budget
  MoreThan-from_spread budget more = record {
    words = more.words;
    count = more.count;
    are_words = more.are_words;
    apart = λ i j d less within e.
        let v = (more.are_words i d (omega arith)).nonempty in
        let w = (more.are_words j d within).nonempty in
        let same = sym (place_of-pair (with_vars a.tracks b.tracks) a b connective _ v) ∙ e ∙ place_of-pair (with_vars a.tracks b.tracks) a b connective _ w in
        more.apart i j d less within (alike_at a b _ _ v w (first_of_two _ _ _ _ same) (second_of_two _ _ _ _ same));
  }

-- words that are alike in reduced automata lead to one pair
module _ (a b : Automaton) (connective : Connective) (a_valid : IsAutomaton a) (b_valid : IsAutomaton b) (a_reduced : IsReduced a) (b_reduced : IsReduced b) where
  same_place : {v w : List ℕ} → v ≢ [] → w ≢ [] → AlikeInBoth (with_vars a.tracks b.tracks) a.tracks b.tracks (Accepts a) (Accepts b) v w
      → place_of (both_walker a b connective) v ≡ place_of (both_walker a b connective) w
  same_place {v} {w} v_some w_some alike =
      let all = with_vars a.tracks b.tracks in
      let on_a = restrict (with_vars a.tracks b.tracks) a.tracks in
      let on_b = restrict (with_vars a.tracks b.tracks) b.tracks in
      let l =
      same_state a_valid a_reduced (not_nil-map (restrict (with_vars a.tracks b.tracks) a.tracks) v v_some)
      (not_nil-map (restrict (with_vars a.tracks b.tracks) a.tracks) w w_some) alike.left in
      let r =
      same_state b_valid b_reduced (not_nil-map (restrict (with_vars a.tracks b.tracks) b.tracks) v v_some)
      (not_nil-map (restrict (with_vars a.tracks b.tracks) b.tracks) w w_some) alike.right in
      let both : state_of a (part_of (with_vars a.tracks b.tracks) a.tracks v) ∷ state_of b (part_of (with_vars a.tracks b.tracks) b.tracks v)
      ∷ [] ≡ state_of a (part_of (with_vars a.tracks b.tracks) a.tracks w) ∷ state_of b (part_of (with_vars a.tracks b.tracks) b.tracks w) ∷ [] =
      λ i. l i ∷ r i ∷ [] in
      place_of-pair (with_vars a.tracks b.tracks) a b connective v v_some ∙ both ∙ sym (place_of-pair (with_vars a.tracks b.tracks) a b connective w w_some)

  pub BothSpreadExceeds-from : {budget : ℕ} → MoreThan (both_walker a b connective) budget → BothSpreadExceeds a.tracks b.tracks (Accepts a) (Accepts b) budget
  BothSpreadExceeds-from more = record {
    words = more.words;
    count = more.count;
    are_words = more.are_words;
    apart = λ i j d less within alike.
        let v = (more.are_words i d (omega arith)).nonempty in
        let w = (more.are_words j d within).nonempty in
        more.apart i j d less within (same_place v w alike);
  }

-- words that are told apart are at most as many as the numbers that tell them apart
few_classes : (tracks bound budget : ℕ) (Alike : List ℕ → List ℕ → Type 0) (number_of : List ℕ → ℕ) → ((word : List ℕ) → number_of word < bound)
    → ((v w : List ℕ) → v ≢ [] → w ≢ [] → number_of v ≡ number_of w → Alike v w) → bound ≤ budget → HasMoreClasses tracks Alike budget → ⊥
few_classes tracks bound budget Alike number_of number_below same_number enough more =
    let size = length-map more.words number_of in
    let count = more.count in
    let apart : AllPairs (λ m n. m ≢ n) (map number_of more.words) = λ i j d less within e.
    let inside : j < length more.words = omega (arith, size, within) in
    let first : i < length more.words = omega (arith, less, inside) in
    let v = (more.are_words i [] first).nonempty in
    let w = (more.are_words j [] inside).nonempty in
    let numbers = sym (get_or-map number_of more.words i [] d first) ∙ e ∙ get_or-map number_of more.words j [] d inside in
    more.apart i j [] less inside (same_number (get_or more.words i []) (get_or more.words j []) v w numbers) in
    let below : All (λ n. n < bound) (map number_of more.words) =
    All-map (λ n. n < bound) number_of more.words (λ i d h. number_below (get_or more.words i d)) in
    let most =
    length-le_from_distinct_below (map number_of more.words) bound (IsDistinct-from_AllPairs Decides-eqb (map number_of more.words) apart)
    (λ n h. All-contains (λ m. m < bound) (map number_of more.words) n below ((is_member-Decides Decides-eqb (map number_of more.words) n).0 h)) in
    omega (arith, size, count, most, enough)

-- the pairs of states tell them apart
module _ (a b : Automaton) (a_valid : IsAutomaton a) (b_valid : IsAutomaton b) where
  abbrev left_of : List ℕ → ℕ
  left_of word = state_of a (part_of (with_vars a.tracks b.tracks) a.tracks word)

  abbrev right_of : List ℕ → ℕ
  right_of word = state_of b (part_of (with_vars a.tracks b.tracks) b.tracks word)

  -- the number of the pair of states that a word leads to
  abbrev number_of : List ℕ → ℕ
  number_of word = left_of word * length b.accept + right_of word

  number_of-below : (word : List ℕ) → number_of word < length a.accept * length b.accept
  number_of-below word =
      let left : left_of word < length a.accept = state_within a_valid (part_of (with_vars a.tracks b.tracks) a.tracks word) in
      let right : right_of word < length b.accept = state_within b_valid (part_of (with_vars a.tracks b.tracks) b.tracks word) in
      row_below (left_of word) (right_of word) (length a.accept) (length b.accept) left right

  same_pair : (v w : List ℕ) → number_of v ≡ number_of w → (left_of v ≡ left_of w) × (right_of v ≡ right_of w)
  same_pair v w e =
      let right_v : right_of v < length b.accept = state_within b_valid (part_of (with_vars a.tracks b.tracks) b.tracks v) in
      let right_w : right_of w < length b.accept = state_within b_valid (part_of (with_vars a.tracks b.tracks) b.tracks w) in
      let left =
      sym (div-mul-add (left_of v) (length b.accept) (right_of v) right_v) ∙ ap (λ n. n / length b.accept) e
      ∙ div-mul-add (left_of w) (length b.accept) (right_of w) right_w in
      let same = ap (λ n. n * length b.accept) left in
      (left, omega (arith, e, same))

  pub few_pairs : (budget : ℕ) → length a.accept * length b.accept ≤ budget → BothSpreadExceeds a.tracks b.tracks (Accepts a) (Accepts b) budget → ⊥
  few_pairs budget enough =
      few_classes (length (with_vars a.tracks b.tracks)) (length a.accept * length b.accept) budget (AlikeInBoth (with_vars a.tracks b.tracks) a.tracks b.tracks (Accepts a) (Accepts b)) number_of
      number_of-below (λ v w v_some w_some same. let pair = same_pair v w same in alike_at a b v w v_some w_some pair.0 pair.1) enough

-- for an automaton with itself the states do
pub few_twice : {a : Automaton} → IsAutomaton a → (budget : ℕ) → length a.accept ≤ budget → BothSpreadExceeds a.tracks a.tracks (Accepts a) (Accepts a) budget → ⊥
few_twice {a} valid budget enough =
    few_classes (length (with_vars a.tracks a.tracks)) (length a.accept) budget (AlikeInBoth (with_vars a.tracks a.tracks) a.tracks a.tracks (Accepts a) (Accepts a))
    (λ word. state_of a (part_of (with_vars a.tracks a.tracks) a.tracks word)) (λ word. state_within valid (part_of (with_vars a.tracks a.tracks) a.tracks word))
    (λ v w v_some w_some same. alike_at a a v w v_some w_some same same) enough
