-- TrackRows of the walk over sets of states.
use Rattle.std.proofs.Common.{◌≡◌, ◌≢◌, ℕ, ◌<◌, ◌%◌, ◌^◌, ◌||◌, nat_eq, List, [], ◌∷◌, length, get_or, slice_get, slice_index, Some, Contains, AllPairs, arith, refl, sym, ap, ◌∙◌, subst, inl, inr}
use Rattle.std.specs.List.{All, fold, range_with_len}
use Rattle.std.specs.List.Sorted.{IsStrictlyIncreasing}
use Rattle.std.specs.Int.{bit_at}
use Rattle.std.proofs.lemmas.Option.{slice_get-get_or}
use Rattle.std.proofs.lemmas.List.Elements.{All-get_or, All-head, All-from_get_or, Contains-get_or, All-contains}
use Rattle.std.proofs.lemmas.List.Kept.{IsStrictlyIncreasing-filter}
use Rattle.std.proofs.lemmas.Bool.Decides.{Decides-eqb}
use Rattle.std.proofs.lemmas.Nat.{mod_below, pow_pos}
use Rattle.track_word.specs.declared.tracks.Var.{Var}
use Rattle.track_word.specs.Word.{IsWord}
use Rattle.track_word.specs.Tracks.{without_var}
use Rattle.track_word.proofs.LetterBits.{low_bits}
use Rattle.letter_diagram.specs.declared.diagrams.Shape.{Shape}
use Rattle.letter_diagram.specs.Diagram.{map_at, Grows}
use Rattle.letter_diagram.specs.Sets.{SetsKept}
use Rattle.letter_diagram.specs.Merged.{HasSets}
use Rattle.letter_diagram.proofs.Mergings.{HasSets-grows}
use Rattle.letter_diagram.proofs.Lists.{one_place}
use Rattle.auto_core.specs.Automaton.{Automaton, IsAutomaton, first_state, next_state}
use Rattle.auto_walk.specs.Walker.{Walker, place_of, IsReached, AreTracks}
use Rattle.auto_walk.specs.Rows.{AreNumbered, IsRow}
use Rattle.auto_walk.proofs.WalkLemmas.{All-at}
use Rattle.auto_core.proofs.States.{state_within, run_within}
use Rattle.auto_project.specs.Lifted.{ReadsAs, Begins, Follows, LiftLeads}
use Rattle.auto_project.specs.Subsets.{lengthened, leads_to, next_set, set_walker}
use Rattle.auto_project.specs.SetMaps.{set_of, HasSomeStates, IsSetRow, AreSetRows, HasSetRows, HasClosedRows, HasPlaceRows, IsUnionRow}
use Rattle.auto_project.specs.Placed.{IsPlaced, AddsSetsOf}
use Rattle.auto_project.proofs.Lists.{same_sets, no-element, some-element, Contains-head, Contains-cases, Contains-filter, Contains-from_filter, Contains-from_range, Contains-range, increasing-range}
use Rattle.auto_project.proofs.Letters.{ascending-without, length-without, ReadsAs-lengthened}
use Rattle.std.proofs.lemmas.Bool.{or_left}
use Rattle.auto_project.proofs.Lifts.{any-from, any-to, steps-next, increasing-next, LiftLeads-begins}
use Rattle.auto_project.proofs.SetMapLemmas.{stays, had, AreSetRows-kept}

set-ascends : {shapes : List Shape} {sets : List (List ℕ)} {node : ℕ} (letter : ℕ) → HasSets shapes sets node
    → All IsStrictlyIncreasing sets → IsStrictlyIncreasing (set_of shapes sets node letter)
set-ascends {shapes} {sets} {node} letter is all = All-get_or IsStrictlyIncreasing sets (map_at shapes node letter) [] (is.numbered letter) all

-- each letter has a longer one that it reads as, so some state is there
pub HasSomeStates-from : {shapes : List Shape} {sets : List (List ℕ)} {a : Automaton} (x : Var) {some : List Var} {first : ℕ} {Holds : ℕ → ℕ → Type 0} → IsAutomaton a
    → some ≡ without_var x a.tracks → ((letter state : ℕ) → Begins a some letter state → Holds letter state)
    → IsSetRow shapes sets (length some) first Holds → HasSomeStates shapes sets (length some) first
HasSomeStates-from {shapes} {sets} {a} x {some} {first} valid same holds row letter below none =
    let longer = lengthened a.tracks some 0 letter in
    let reads = subst (λ tracks. letter < 2 ^ length tracks → ReadsAs a.tracks tracks letter (lengthened a.tracks tracks 0 letter)) (sym same)
    (λ h. ReadsAs-lengthened a.tracks x valid.ascending letter 0 h) below in
    let begins : Begins a some letter (first_state a longer) = record { longer = longer; is = reads; leads = refl } in
    no-element (set_of shapes sets first letter) (first_state a longer) none
    ((row.members letter (first_state a longer) below).1 (holds letter (first_state a longer) begins))

-- the rows of the walk are those that follow on the states
pub HasPlaceRows-from : {shapes : List Shape} {sets : List (List ℕ)} {a : Automaton} (x : Var) {first : ℕ} {rows : List ℕ}
    → HasClosedRows shapes sets a (without_var x a.tracks) first rows → HasPlaceRows shapes sets a (without_var x a.tracks) first rows
HasPlaceRows-from {shapes} {sets} {a} x {first} {rows} closed = record {
  valid = closed.valid;
  first_is = closed.first_row.is;
  first_some = HasSomeStates-from x closed.valid refl (λ letter state b. LiftLeads-begins a (without_var x a.tracks) b) closed.first_row;
  first_within = λ letter state below c. let l = (closed.first_row.members letter state below).0 c in subst (λ n. n < length a.accept) l.leads (state_within closed.valid l.lift);
  first_narrow = λ m n agree. alike first closed.first_row.is (λ p q state same c. closed.first_row.narrow.same p q state same c) m n agree;
  size = closed.state_rows.size;
  is = λ state h. (row state h).is;
  narrow = λ state m n h agree. alike (slice_index rows state) (row state h).is (λ p q t same c. (row state h).narrow.same p q t same c) m n agree;
  leads =
      λ state letter h below. same_sets (set_of shapes sets (slice_index rows state) letter) (next_set a (without_var x a.tracks) (state ∷ []) letter)
      (set-ascends letter (row state h).is closed.ascend)
      (increasing-next a x closed.valid (state ∷ []) letter)
      (λ t c. (steps-next a x closed.valid (state ∷ []) letter t below).1 (state, Contains-head state [], ((row state h).members letter t below).0 c))
      (λ t c. ((row state h).members letter t below).1 (only state letter t ((steps-next a x closed.valid (state ∷ []) letter t below).0 c)));
}
  where
    row : (state : ℕ) → state < length rows → IsSetRow shapes sets (length (without_var x a.tracks)) (slice_index rows state) (Follows a (without_var x a.tracks) state)
    row state h = closed.state_rows.each state (slice_index rows state) (slice_get-get_or rows state 0 h)

    only : (state letter t : ℕ) → (s : ℕ) × Contains (state ∷ []) s × Follows a (without_var x a.tracks) s letter t → Follows a (without_var x a.tracks) state letter t
    only state letter t (s, c, f) = elim (Contains-cases state [] s c) [
      | inl e ↦ subst (λ n. Follows a (without_var x a.tracks) n letter t) (sym e) f
      | inr none ↦ let h = none.1 in absurd (omega arith)
    ]

    alike : (node : ℕ) → HasSets shapes sets node
        → ((p q state : ℕ) → ((k : ℕ) → k < length (without_var x a.tracks) → bit_at p k ≡ bit_at q k)
        → Contains (set_of shapes sets node p) state → Contains (set_of shapes sets node q) state)
        → (m n : ℕ) → ((k : ℕ) → k < length (without_var x a.tracks) → bit_at m k ≡ bit_at n k) → set_of shapes sets node m ≡ set_of shapes sets node n
    alike node is same m n agree =
        same_sets (set_of shapes sets node m) (set_of shapes sets node n) (set-ascends m is closed.ascend) (set-ascends n is closed.ascend)
        (λ t c. same m n t agree c) (λ t c. same n m t (λ k h. sym (agree k h)) c)

module _ (shapes more : List Shape) (sets sets' : List (List ℕ)) (a : Automaton) (some : List Var) (first : ℕ) (rows : List ℕ) (grows : Grows shapes more) (kept : SetsKept sets sets') where
  pub HasPlaceRows-kept : HasPlaceRows shapes sets a some first rows → HasPlaceRows more sets' a some first rows
  HasPlaceRows-kept r = record {
    valid = r.valid;
    first_is = HasSets-grows grows kept r.first_is;
    first_some = λ letter below none. r.first_some letter below (sym (stays shapes more sets sets' grows kept letter r.first_is) ∙ none);
    first_within = λ letter state below c. r.first_within letter state below (had shapes more sets sets' grows kept letter state r.first_is c);
    first_narrow = λ x y agree. stays shapes more sets sets' grows kept x r.first_is ∙ r.first_narrow x y agree ∙ sym (stays shapes more sets sets' grows kept y r.first_is);
    size = r.size;
    is = λ state h. HasSets-grows grows kept (r.is state h);
    narrow =
        λ state x y h agree. stays shapes more sets sets' grows kept x (r.is state h) ∙ r.narrow state x y h agree
        ∙ sym (stays shapes more sets sets' grows kept y (r.is state h));
    leads = λ state letter h below. stays shapes more sets sets' grows kept letter (r.is state h) ∙ r.leads state letter h below;
  }

module _ (shapes : List Shape) (sets : List (List ℕ)) (a : Automaton) (some : List Var) (first : ℕ) (rows : List ℕ) (r : HasPlaceRows shapes sets a some first rows) where
  pub rows-have-sets : All (HasSets shapes sets) rows
  rows-have-sets = All-from_get_or (HasSets shapes sets) rows 0 (λ i h. r.is i h)

  next-within : (set : List ℕ) (letter t : ℕ) → Contains (next_set a some set letter) t → t < length a.accept
  next-within set letter t c = Contains-from_range (length a.accept) t (Contains-from_filter (leads_to a some set letter) _ t c).0

  fold-within : (letters set : List ℕ) (t : ℕ) → ((s : ℕ) → Contains set s → s < length a.accept) → Contains (fold (next_set a some) set letters) t → t < length a.accept
  fold-within [] set t within c = within t c
  fold-within (letter ∷ letters) set t within c = fold-within letters (next_set a some set letter) t (λ s d. next-within set letter s d) c

  place-within : {word : List ℕ} (t : ℕ) → IsWord (length some) word → Contains (place_of (set_walker a some shapes sets first) word) t → t < length a.accept
  place-within {word = []} t is c = absurd (is.nonempty refl)
  place-within {word = sign ∷ letters} t is c = fold-within letters (set_of shapes sets first sign) t (λ s d. r.first_within sign s (All-head (λ l. l < 2 ^ length some) sign letters is.letters) d) c

  -- the states of a numbered place are states of the automaton
  pub states-within : {places : List (List ℕ)} (number : ℕ) (set : List ℕ) → slice_get places number ≡ Some set → AreNumbered (set_walker a some shapes sets first) places
      → All (λ state. state < length a.accept) set
  states-within {places} number set at numbered =
      let reached = All-at (IsReached (set_walker a some shapes sets first)) places number set at numbered.reached in
      All-from_get_or (λ state. state < length a.accept) set 0
      (λ i h. place-within (get_or set i 0) reached.is_word
      (subst (λ l. Contains l (get_or set i 0)) (sym reached.leads) (Contains-get_or set i 0 h)))

  -- some state follows on a set with some state
  next-some : (set : List ℕ) (letter s : ℕ) → Contains set s → s < length a.accept → (t : ℕ) × Contains (next_set a some set letter) t
  next-some set letter s c h =
      let t = next_state a s (lengthened a.tracks some 0 letter) in
      let within : t < length a.accept = run_within r.valid (lengthened a.tracks some 0 letter ∷ []) s h in (
        t,
        Contains-filter (leads_to a some set letter) (range_with_len 0 (length a.accept)) t (Contains-range (length a.accept) t within)
            (any-to
            (λ from. nat_eq (next_state a from (lengthened a.tracks some 0 letter)) t || nat_eq
            (next_state a from (lengthened a.tracks some 1 letter)) t)
            set s c (or_left _ _ ((Decides-eqb t t).1 refl))),
      )

  fold-some : (letters set : List ℕ) (s : ℕ) → Contains set s → s < length a.accept → (t : ℕ) × Contains (fold (next_set a some) set letters) t
  fold-some [] set s c h = (s, c)
  fold-some (letter ∷ letters) set s c h = let one = next-some set letter s c h in fold-some letters (next_set a some set letter) one.0 one.1 (next-within set letter one.0 one.1)

  place-some : {word : List ℕ} → IsWord (length some) word → (t : ℕ) × Contains (place_of (set_walker a some shapes sets first) word) t
  place-some {word = []} is = absurd (is.nonempty refl)
  place-some {word = sign ∷ letters} is =
      let below = All-head (λ l. l < 2 ^ length some) sign letters is.letters in
      let one = some-element (set_of shapes sets first sign) (r.first_some sign below) in
      fold-some letters (set_of shapes sets first sign) one.0 one.1 (r.first_within sign one.0 below one.1)

  -- a numbered place has some state
  pub states-some : {places : List (List ℕ)} (number : ℕ) (set : List ℕ) → slice_get places number ≡ Some set → AreNumbered (set_walker a some shapes sets first) places → set ≢ []
  states-some {places} number set at numbered none =
      let reached = All-at (IsReached (set_walker a some shapes sets first)) places number set at numbered.reached in
      let one = place-some reached.is_word in
      no-element _ one.0 (reached.leads ∙ none) one.1

  module _ (set : List ℕ) (node : ℕ) (within : All (λ state. state < length rows) set) (union : IsUnionRow shapes sets rows set node) (ascend : All IsStrictlyIncreasing sets) where
    inside : (from : ℕ) → Contains set from → from < length rows
    inside from c = All-contains (λ state. state < length rows) set from within c

    pub union-narrow : (x y : ℕ) → ((k : ℕ) → k < length some → bit_at x k ≡ bit_at y k) → set_of shapes sets node x ≡ set_of shapes sets node y
    union-narrow x y agree =
        same_sets (set_of shapes sets node x) (set_of shapes sets node y) (set-ascends x union.is ascend) (set-ascends y union.is ascend)
        (λ t c. let one = (union.members x t).0 c in (union.members y t).1 (one.0, one.1, subst (λ l. Contains l t) (r.narrow one.0 x y (inside one.0 one.1) agree) one.2))
        (λ t c. let one = (union.members y t).0 c in (union.members x t).1 (one.0, one.1, subst (λ l. Contains l t) (sym (r.narrow one.0 x y (inside one.0 one.1) agree)) one.2))

    -- what is led to from one state is led to from a set with it
    passes : (from letter t : ℕ) → Contains set from → Contains (next_set a some (from ∷ []) letter) t → Contains (next_set a some set letter) t
    passes from letter t c d =
        let both = Contains-from_filter (leads_to a some (from ∷ []) letter) (range_with_len 0 (length a.accept)) t d in
        let one = any-from (λ s. nat_eq (next_state a s (lengthened a.tracks some 0 letter)) t || nat_eq (next_state a s (lengthened a.tracks some 1 letter)) t) (from ∷ []) both.1 in
        elim (Contains-cases from [] one.0 one.1) [
          | inl e ↦
              Contains-filter (leads_to a some set letter) (range_with_len 0 (length a.accept)) t both.0
              (any-to
              (λ s. nat_eq (next_state a s (lengthened a.tracks some 0 letter)) t || nat_eq
              (next_state a s (lengthened a.tracks some 1 letter)) t)
              set one.0 (subst (Contains set) e c) one.2)
          | inr none ↦ let h = none.1 in absurd (omega arith)
        ]

    comes-from : (letter t : ℕ) → Contains (next_set a some set letter) t → (from : ℕ) × Contains set from × Contains (next_set a some (from ∷ []) letter) t
    comes-from letter t c =
        let both = Contains-from_filter (leads_to a some set letter) (range_with_len 0 (length a.accept)) t c in
        let one = any-from (λ s. nat_eq (next_state a s (lengthened a.tracks some 0 letter)) t || nat_eq (next_state a s (lengthened a.tracks some 1 letter)) t) set both.1 in (
          one.0,
          one.1,
          Contains-filter (leads_to a some (one.0 ∷ []) letter) (range_with_len 0 (length a.accept)) t both.0
              (any-to
              (λ s. nat_eq (next_state a s (lengthened a.tracks some 0 letter)) t || nat_eq (next_state a s (lengthened a.tracks some 1 letter))
              t)
              (one.0 ∷ []) one.0 (Contains-head one.0 []) one.2),
        )

    pub union-next : (letter : ℕ) → letter < 2 ^ length some → IsStrictlyIncreasing (next_set a some set letter) → set_of shapes sets node letter ≡ next_set a some set letter
    union-next letter below up =
        same_sets (set_of shapes sets node letter) (next_set a some set letter) (set-ascends letter union.is ascend) up
        (λ t c. let one = (union.members letter t).0 c in passes one.0 letter t one.1 (subst (λ l. Contains l t) (r.leads one.0 letter (inside one.0 one.1) below) one.2))
        (λ t c. let one = comes-from letter t c in (union.members letter t).1 (one.0, one.1, subst (λ l. Contains l t) (sym (r.leads one.0 letter (inside one.0 one.1) below)) one.2))

-- a row of places
pub IsRow-placed : (w : Walker) {shapes : List Shape} {sets : List (List ℕ)} {more : List Shape} {before places : List (List ℕ)} {node row : ℕ} (lead : ℕ → List ℕ)
    → IsPlaced shapes sets more places node row → AddsSetsOf shapes sets before places node
    → ((x y : ℕ) → ((k : ℕ) → k < length w.tracks → bit_at x k ≡ bit_at y k) → set_of shapes sets node x ≡ set_of shapes sets node y)
    → ((letter : ℕ) → letter < 2 ^ length w.tracks → set_of shapes sets node letter ≡ lead letter) → AllPairs (λ p q. p ≢ q) places → IsRow w more before places lead row
IsRow-placed w {places} lead is adds narrow value apart = record {
  known = is.known;
  narrow = record { same = λ x y agree. one_place places apart _ _ _ (is.leads x) (is.leads y ∙ ap Some (sym (narrow x y agree))) };
  leads = λ letter below. is.leads letter ∙ ap Some (value letter below);
  different = apart;
  led = λ number from within.
      let one = adds.led number from within in
      let below : one.0 % 2 ^ length w.tracks < 2 ^ length w.tracks = mod_below one.0 (2 ^ length w.tracks) (pow_pos (length w.tracks)) in
      record {
        letter = one.0 % 2 ^ length w.tracks;
        below = below;
        leads = one.1 ∙ ap Some (narrow one.0 (one.0 % 2 ^ length w.tracks) (λ k h. low_bits one.0 (length w.tracks) k h) ∙ value (one.0 % 2 ^ length w.tracks) below);
      };
}

-- the closed rows of what was made
pub HasClosedRows-made : {old shapes : List Shape} {before sets : List (List ℕ)} {a : Automaton} {some listed : List Var} {begun first : ℕ} {rows : List ℕ} → listed ≡ some
    → HasSetRows old before a listed begun rows → Grows old shapes → SetsKept before sets → All IsStrictlyIncreasing sets
    → IsSetRow shapes sets (length some) first (λ letter state. LiftLeads a some (letter ∷ []) state) → HasClosedRows shapes sets a some first rows
HasClosedRows-made {old} {shapes} {before} {sets} {a} {some} {listed} {begun} {first} {rows} same made grows kept ascend closed = record {
  valid = made.valid;
  ascend = ascend;
  first_row = closed;
  state_rows = AreSetRows-kept old shapes before sets grows kept (subst (λ tracks. AreSetRows old before a tracks rows) same made.state_rows);
}

pub HasPlaceRows-made : {shapes : List Shape} {sets : List (List ℕ)} {a : Automaton} (x : Var) {some : List Var} {first : ℕ} {rows : List ℕ} → some ≡ without_var x a.tracks
    → HasClosedRows shapes sets a some first rows → HasPlaceRows shapes sets a some first rows
HasPlaceRows-made {shapes} {sets} {a} x {first} {rows} same closed =
    subst (λ tracks. HasPlaceRows shapes sets a tracks first rows) (sym same)
    (HasPlaceRows-from x (subst (λ tracks. HasClosedRows shapes sets a tracks first rows) same closed))

pub AreTracks-left : {a : Automaton} (x : Var) (some : List Var) → IsAutomaton a → some ≡ without_var x a.tracks → AreTracks some
AreTracks-left {a} x some valid same =
    subst AreTracks (sym same)
    (record {
      ascending = ascending-without a.tracks x valid.ascending;
      few = let l = length-without a.tracks x valid.ascending in
          let few = valid.few_tracks in omega (arith, l, few);
    })

-- the set that follows on a set ascends
pub increasing-set : (a : Automaton) (some : List Var) (set : List ℕ) (letter : ℕ) → IsStrictlyIncreasing (next_set a some set letter)
increasing-set a some set letter = IsStrictlyIncreasing-filter (leads_to a some set letter) (range_with_len 0 (length a.accept)) (increasing-range (length a.accept))

-- the row of the first sets
pub IsRow-first : {a : Automaton} {some : List Var} {shapes : List Shape} {sets : List (List ℕ)} {more : List Shape} {before places : List (List ℕ)} {first : ℕ} {rows : List ℕ} {row : ℕ}
    → HasPlaceRows shapes sets a some first rows → IsPlaced shapes sets more places first row
    → AddsSetsOf shapes sets before places first → AllPairs (λ p q. p ≢ q) places → IsRow (set_walker a some shapes sets first) more before places (set_of shapes sets first) row
IsRow-first {a} {some} {shapes} {sets} {first} r is adds apart =
    IsRow-placed (set_walker a some shapes sets first) (set_of shapes sets first) is adds r.first_narrow
    (λ letter below. refl) apart

-- the row of the sets that follow on a set
pub IsRow-union : {a : Automaton} {some : List Var} {shapes mid : List Shape} {sets sets' : List (List ℕ)} {more : List Shape}
    {before places : List (List ℕ)} {first : ℕ} {rows set : List ℕ} {union row : ℕ}
    → HasPlaceRows shapes sets a some first rows → Grows shapes mid → SetsKept sets sets'
    → All (λ state. state < length rows) set → IsUnionRow mid sets' rows set union → All IsStrictlyIncreasing sets' → IsPlaced mid sets' more places union row
    → AddsSetsOf mid sets' before places union → AllPairs (λ p q. p ≢ q) places
    → IsRow (set_walker a some shapes sets first) more before places (next_set a some set) row
IsRow-union {a} {some} {shapes} {mid} {sets} {sets'} {first} {rows} {set} {union} r grows kept within is ascend placed adds apart =
    let now = HasPlaceRows-kept shapes mid sets sets' a some first rows grows kept r in
    IsRow-placed (set_walker a some shapes sets first) (next_set a some set) placed adds
    (union-narrow mid sets' a some first rows now set union within is ascend)
    (λ letter below. union-next mid sets' a some first rows now set union within is ascend letter below (increasing-set a some set letter)) apart

-- the states of a numbered place have rows
pub rows-within : {set : List ℕ} {a : Automaton} {some : List Var} {shapes : List Shape} {sets places : List (List ℕ)} {first : ℕ} {rows : List ℕ} (number : ℕ)
    → HasPlaceRows shapes sets a some first rows → slice_get places number ≡ Some set → AreNumbered (set_walker a some shapes sets first) places
    → All (λ state. state < length rows) set
rows-within {set} number r at numbered =
    subst (λ n. All (λ state. state < n) set) (sym r.size) (states-within _ _ _ _ _ _ r number _ at numbered)
