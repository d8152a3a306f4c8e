-- Words and the places to which they lead.
use Rattle.std.proofs.Common.{◌≡◌, ◌≢◌, ℕ, ◌<◌, ◌≤◌, ◌+◌, ◌^◌, nat_eq, List, [], ◌∷◌, ◌++◌, length, map, take, slice_get, get_or, Some, Contains, AllPairs, arith, refl, sym, ap, ◌∙◌, subst}
use Rattle.std.specs.List.{All}
use Rattle.std.proofs.lemmas.List.{take_more, map-append, length_push, length-map, length-take, get_or_default}
use Rattle.std.proofs.lemmas.List.Sums.{fold-append}
use Rattle.std.proofs.lemmas.List.Elements.{All-nil, All-cons, All-head, All-tail, All-push, All-get_or, All-take}
use Rattle.std.proofs.lemmas.Option.{slice_get_within, get_or_from_slice_get}
use Rattle.std.proofs.lemmas.Grind.{common_steps}
use Rattle.std.specs.Bool.{Decides}
use Rattle.std.specs.Cmp.Lexicographic.{pointwise}
use Rattle.std.proofs.lemmas.Bool.Decides.{Decides-eqb}
use Rattle.std.proofs.lemmas.Cmp.{nat_list_eq_equiv}
use Rattle.std.proofs.lemmas.Slice.Eq.{slice_eq-Decides}
use Rattle.std.proofs.lemmas.Map.Made.{IsDistinct-from_AllPairs, is_member-Decides, length-le_from_is_member}
use Rattle.track_word.specs.Word.{IsWord}
use Rattle.auto_walk.specs.Walker.{Walker, place_of, IsReached, MoreThan}
use Rattle.auto_walk.specs.Rows.{AreNumbered}

pub All-at : {X : Type 0} (P : X → Type 0) (xs : List X) (k : ℕ) (x : X) → slice_get xs k ≡ Some x → All P xs → P x
All-at P xs k x at all = subst P (get_or_from_slice_get xs k x x at) (All-get_or P xs k x (slice_get_within xs k x at) all)

pub map-take_more : {X Y : Type 0} (f : X → Y) (xs : List X) (i : ℕ) (x : X) → slice_get xs i ≡ Some x → map f (take (i + 1) xs) ≡ map f (take i xs) ++ f x ∷ []
map-take_more f xs i x at =
    let within = slice_get_within xs i x at in
    ap (map f) (take_more xs i x within ∙ ap (λ y. take i xs ++ y ∷ []) (get_or_from_slice_get xs i x x at)) ∙ map-append f (take i xs) (x ∷ [])

-- one letter more is one step more
pub place_of-push : (w : Walker) (word : List ℕ) (letter : ℕ) → word ≢ [] → place_of w (word ++ letter ∷ []) ≡ w.next (place_of w word) letter
place_of-push w [] letter nonempty = absurd (nonempty refl)
place_of-push w (sign ∷ letters) letter nonempty = fold-append w.next (w.first sign) letters (letter ∷ [])

pub not_nil-push : (word : List ℕ) (letter : ℕ) → word ++ letter ∷ [] ≢ []
not_nil-push word letter e = let l = length_push word letter in let m = ap length e in absurd (omega arith)

get_or-take : (xs : List (List ℕ)) (n k : ℕ) (d : List ℕ) → k < n → k < length xs → get_or (take n xs) k d ≡ get_or xs k d
get_or-take xs n k d below within = grind (arith, common_steps)

module _ (w : Walker) where
  pub IsReached-first : (letter : ℕ) → letter < 2 ^ length w.tracks → IsReached w (w.first letter)
  IsReached-first letter below = record {
    word = letter ∷ [];
    is_word = record { nonempty = λ e. cc; letters = All-cons (λ l. l < 2 ^ length w.tracks) letter [] below (All-nil (λ l. l < 2 ^ length w.tracks)) };
    leads = refl;
  }

  pub IsReached-next : {place : List ℕ} (letter : ℕ) → letter < 2 ^ length w.tracks → IsReached w place → IsReached w (w.next place letter)
  IsReached-next letter below r =
      let both = place_of-push w r.word letter r.is_word.nonempty in
      record {
        word = r.word ++ letter ∷ [];
        is_word = record { nonempty = not_nil-push r.word letter; letters = All-push (λ l. l < 2 ^ length w.tracks) r.word letter r.is_word.letters below };
        leads = both ∙ ap (λ p. w.next p letter) r.leads;
      }

  -- the words that lead to places
  record WordsTo (places : List (List ℕ)) : Type 0 where
    words : List (List ℕ)
    lead : map (place_of w) words ≡ places
    are_words : All (IsWord (length w.tracks)) words

  words_to : (places : List (List ℕ)) → All (IsReached w) places → WordsTo places
  words_to [] reached = record { words = []; lead = refl; are_words = All-nil (IsWord (length w.tracks)) }
  words_to (place ∷ places) reached =
      let head = All-head (IsReached w) place places reached in
      let rest = words_to places (All-tail (IsReached w) place places reached) in
      record {
        words = head.word ∷ rest.words;
        lead = λ i. head.leads i ∷ rest.lead i;
        are_words = All-cons (IsWord (length w.tracks)) head.word rest.words head.is_word rest.are_words;
      }

  get_or-map_words : (words : List (List ℕ)) (k : ℕ) (d : List ℕ) → k < length words → get_or (map (place_of w) words) k (place_of w d) ≡ place_of w (get_or words k d)
  get_or-map_words words k d h = grind (arith, common_steps)

  -- words that lead to different places
  apart-from_map : (words : List (List ℕ)) → AllPairs (λ p q. p ≢ q) (map (place_of w) words) → AllPairs (λ u v. place_of w u ≢ place_of w v) words
  apart-from_map words h i j d less within =
      let inside : j < length (map (place_of w) words) = rw length-map within in
      let below : i < length words = omega arith in
      λ e. h i j (place_of w d) less inside (get_or-map_words words i d below ∙ e ∙ sym (get_or-map_words words j d within))

  pub apart_in_map : (words : List (List ℕ)) → AllPairs (λ u v. place_of w u ≢ place_of w v) words → AllPairs (λ p q. p ≢ q) (map (place_of w) words)
  apart_in_map words h i j d less within =
      let inside : j < length words = rw length-map at within in
      let below : i < length words = omega arith in
      let at = λ (k : ℕ) (l : k < length words). get_or_default (map (place_of w) words) k d (place_of w []) (rw length-map l) ∙ get_or-map_words words k [] l in
      λ e. h i j [] less inside (sym (at i below) ∙ e ∙ at j inside)

  apart_in_take : (n : ℕ) (words : List (List ℕ)) → n ≤ length words → AllPairs (λ u v. place_of w u ≢ place_of w v) words
      → AllPairs (λ u v. place_of w u ≢ place_of w v) (take n words)
  apart_in_take n words most h i j d less within =
      let size = length-take n words in
      let few : j < n = grind (arith, common_steps) in
      let inside : j < length words = omega arith in
      let at = λ (k : ℕ) (l : k < n) (m : k < length words). get_or-take words n k d l m in
      λ e. h i j d less inside (ap (place_of w) (sym (at i (omega arith) (omega arith))) ∙ e ∙ ap (place_of w) (at j few inside))

  -- more places than the budget are more words than the budget
  pub MoreThan-from : (budget : ℕ) {places : List (List ℕ)} → AreNumbered w places → budget < length places → MoreThan w budget
  MoreThan-from budget {places} n over =
      let all = words_to places n.reached in
      let count : length all.words ≡ length places = sym (length-map all.words (place_of w)) ∙ ap length all.lead in
      let enough : budget + 1 ≤ length all.words = omega (arith, count, over) in
      record {
        words = take (budget + 1) all.words;
        count = grind (arith, common_steps, enough);
        are_words = All-take (IsWord (length w.tracks)) (budget + 1) all.words all.are_words;
        apart = apart_in_take (budget + 1) all.words enough (apart-from_map all.words (subst (AllPairs (λ p q. p ≢ q)) (sym all.lead) n.different));
      }

-- places of which no two are equal, all of them among others, are at most as many
pub length_le-among : (xs ys : List (List ℕ)) → AllPairs (λ p q. p ≢ q) xs → ((q : List ℕ) → Contains xs q → Contains ys q) → length xs ≤ length ys
length_le-among xs ys apart among =
    length-le_from_is_member nat_list_eq_equiv xs ys (IsDistinct-from_AllPairs places_Decides xs apart)
    (λ q h. (is_member-Decides places_Decides ys q).1 (among q ((is_member-Decides places_Decides xs q).0 h)))
  where
    places_Decides : (p q : List ℕ) → Decides (pointwise nat_eq p q) (p ≡ q)
    places_Decides p q = slice_eq-Decides Decides-eqb p q _ refl
