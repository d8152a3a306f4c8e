-- The automaton over classes, and what it accepts.
use Rattle.std.proofs.Common.{◌≡◌, ◌≢◌, ℕ, ◌<◌, ◌≤◌, ◌^◌, Bool, List, [], ◌∷◌, ◌++◌, length, map, get_or, slice_get, Some, None, Contains, AllPairs, arith, refl, sym, ap, ◌∙◌, subst, inl, inr}
use Rattle.std.specs.List.{All, fold}
use Rattle.std.proofs.lemmas.Bool.{cases_lt}
use Rattle.std.proofs.lemmas.List.{length-map, get_or_default, length_push, get_or_append_left, get_or_push}
use Rattle.std.proofs.lemmas.List.Elements.{All-head, All-tail, All-from_get_or, All-map, All-weaker, All-contains}
use Rattle.std.proofs.lemmas.Option.{slice_get_within, slice_get-get_or, get_or_from_slice_get}
use Rattle.track_word.specs.Word.{IsWord}
use Rattle.letter_diagram.specs.declared.diagrams.Shape.{Shape}
use Rattle.letter_diagram.specs.Diagram.{map_at, LooksBelow, Grows}
use Rattle.letter_diagram.proofs.Narrow.{LooksBelow-grows}
use Rattle.auto_core.specs.Automaton.{next_state, run, state_of, is_final}
use Rattle.auto_core.specs.Reduced.{AllReached}
use Rattle.auto_core.specs.Rows.{dense, AreRows}
use Rattle.auto_core.proofs.RowLemmas.{get_or-row_of, next_state-dense}
use Rattle.auto_walk.specs.Walker.{Walker, place_of, IsReached, AreTracks, MoreThan}
use Rattle.auto_walk.specs.Rows.{Extends}
use Rattle.auto_walk.proofs.WalkLemmas.{length_le-among, All-at, apart_in_map}
use Rattle.auto_merge.specs.Graph.{Graph, AreSeen, IsRowSpot, IsRowAt}
use Rattle.auto_merge.specs.Keys.{HasClass, IsLedBy}
use Rattle.auto_merge.specs.Merging.{AreClasses}
use Rattle.auto_merge.specs.Merged.{IsRowTo, IsClassRow, AreClassRows, AreClassFlags, IsMerged}
use Rattle.auto_merge.proofs.Leads.{HaveMore, one_class}
use Rattle.auto_merge.proofs.Classes.{KeepsOwners, HasOwner-more, one_owner}

-- ---- rows, as more is known

pub IsRowTo-more : {w : Walker} {old new : List (List ℕ)} {table more : List ℕ} {shapes after : List Shape} {lead : ℕ → List ℕ} {node : ℕ} → HaveMore old table new more
    → Grows shapes after → IsRowTo w old table shapes lead node → IsRowTo w new more after lead node
IsRowTo-more {w} {old} {new} {table} {more} {shapes} {after} {lead} {node} have grows is =
    let known = is.known in
    let longer = grows.longer in
    record {
      known = omega (arith, known, longer);
      narrow = LooksBelow-grows is.known grows is.narrow;
      given = λ letter.
          let g = is.given letter in
          record { place = g.place; class_is = subst (HasClass new more g.place) (sym (grows.map node letter is.known)) (have.kept g.place _ g.class_is) };
      leads = λ letter below. subst (HasClass new more (lead letter)) (sym (grows.map node letter is.known)) (have.kept _ _ (is.leads letter below));
    }

pub AreClassRows-more : {w : Walker} {old new : List (List ℕ)} {table more owners after_owners : List ℕ} {shapes after : List Shape} {rows : List ℕ} → Extends old new → HaveMore old table new more
    → KeepsOwners owners after_owners → Grows shapes after → AreClassRows w old table owners shapes rows → AreClassRows w new more after_owners after rows
AreClassRows-more extends have keeps grows all = record {
  at = λ class node at.
      let is = all.at class node at in
      record { owner = is.owner; has = HasOwner-more extends keeps is.has; row = IsRowTo-more have grows is.row };
}

-- one more class has its row
pub AreClassRows-push : {w : Walker} {places : List (List ℕ)} {table owners : List ℕ} {shapes : List Shape} {rows : List ℕ} (class node : ℕ) → class ≡ length rows
    → AreClassRows w places table owners shapes rows → IsClassRow w places table owners shapes class node → AreClassRows w places table owners shapes (rows ++ node ∷ [])
AreClassRows-push {w} {places} {table} {owners} {shapes} {rows} class node is all one = record {
  at = λ c n at.
      let within = slice_get_within (rows ++ node ∷ []) c n at in
      let size = length_push rows node in
      let here = get_or_from_slice_get (rows ++ node ∷ []) c n n at in
      elim (cases_lt c (length rows)) [
        | inl before ↦
            let same : get_or rows c n ≡ n = sym (get_or_append_left rows (node ∷ []) n c before) ∙ here in
            all.at c n (slice_get-get_or rows c n before ∙ ap Some same)
        | inr past ↦
            let end : length rows ≡ c = omega (arith, within, size, past) in
            let same : node ≡ n = sym (get_or_push rows node n c end) ∙ here in
            subst (λ k. IsClassRow w places table owners shapes k n) (is ∙ end) (subst (IsClassRow w places table owners shapes class) same one)
      ];
}

-- a spot that leads each letter to a class is a row of classes
pub IsRowTo-led : {Spot : Type 0} {g : Graph Spot} {places : List (List ℕ)} {table : List ℕ} {shapes : List Shape} {lead : ℕ → List ℕ} {spot : Spot} {node : ℕ} → AllPairs (λ p q. p ≢ q) places
    → IsRowSpot g lead spot → IsLedBy g places table shapes None spot node → IsRowTo g.walker places table shapes lead node
IsRowTo-led {Spot} {g} {places} {table} {shapes} {lead} {spot} {node} different row led =
    let has = λ (letter : ℕ). let h : HasClass places table (g.leads spot letter) (map_at shapes node letter) = elim (led.values letter) [ inl has ↦ has | inr self ↦ absurd self.0 ] in h in
    record {
      known = led.known;
      narrow = record {
        same = λ a b agree.
            one_class (g.leads spot b) _ _ different (subst (λ p. HasClass places table p (map_at shapes node a)) (row.narrow a b agree) (has a)) (has b);
      };
      given = λ letter. record { place = g.leads spot letter; class_is = has letter };
      leads = λ letter below. subst (λ p. HasClass places table p (map_at shapes node letter)) (row.leads letter below) (has letter);
    }

-- the row of the owner of a class
pub IsClassRow-led : {Spot : Type 0} {g : Graph Spot} {places : List (List ℕ)} {table owners : List ℕ} {shapes : List Shape} {class owner : ℕ} {spot : Spot} {node : ℕ} → AllPairs (λ p q. p ≢ q) places
    → slice_get owners class ≡ Some owner → IsRowAt g places owner spot → IsLedBy g places table shapes None spot node → IsClassRow g.walker places table owners shapes class node
IsClassRow-led {owner = owner} different at row led = record {
  owner = row.place;
  has = record { number = owner; at = at; is = row.is };
  row = IsRowTo-led different row.row led;
}

-- ---- the automaton over the classes

-- words that lead to places among some, no two to one, are no more than these
pub not_MoreThan : (w : Walker) (places : List (List ℕ)) (most : ℕ) → ((word : List ℕ) → IsWord (length w.tracks) word → Contains places (place_of w word)) → length places ≤ most → ¬ MoreThan w most
not_MoreThan w places most there room more =
    let all = All-map (Contains places) (place_of w) more.words (All-weaker (IsWord (length w.tracks)) (λ v. Contains places (place_of w v)) there more.words more.are_words) in
    let among = λ (q : List ℕ) (h : Contains (map (place_of w) more.words) q). All-contains (Contains places) (map (place_of w) more.words) q all h in
    let most_are = length_le-among (map (place_of w) more.words) places (apart_in_map w more.words more.apart) among in
    omega (arith, most_are, room, more.count, length-map more.words (place_of w))

-- each class has a row and a flag, and the first row leads to classes
pub record AreMade (w : Walker) (places : List (List ℕ)) (table owners : List ℕ) (shapes : List Shape) (first : ℕ) (rows : List ℕ) (accept : List Bool) : Type 0 where
  pub tracks : AreTracks w.tracks
  pub different : AllPairs (λ p q. p ≢ q) places
  pub few : length owners < 2 ^ 31
  pub classes : AreClasses w places table owners
  pub first_row : IsRowTo w places table shapes w.first first
  pub class_rows : AreClassRows w places table owners shapes rows
  pub rows_size : length rows ≡ length owners
  pub flags : AreClassFlags w places owners accept

module _ {w : Walker} {places : List (List ℕ)} {table owners : List ℕ} {shapes : List Shape} {first : ℕ} {rows : List ℕ} {accept : List Bool}
    (made : AreMade w places table owners shapes first rows accept) where
  -- a class that a place has is that of an owner
  class_within : {place : List ℕ} {class : ℕ} → HasClass places table place class → class < length owners
  class_within {place} {class} has =
      let is = made.classes.classed place class has in
      slice_get_within owners class is.has.number is.has.at

  row_at : (class : ℕ) → class < length owners → IsClassRow w places table owners shapes class (get_or rows class 0)
  row_at class below = made.class_rows.at class (get_or rows class 0) (slice_get-get_or rows class 0 (let size = made.rows_size in omega (arith, size, below)))

  -- each value of a row is a class
  value_within : {lead : ℕ → List ℕ} {node : ℕ} → IsRowTo w places table shapes lead node → (letter : ℕ) → map_at shapes node letter < length accept
  value_within is letter =
      let within = class_within (is.given letter).class_is in
      let size = made.flags.size in
      omega (arith, within, size)

  pub AreRows-classes : AreRows w.tracks shapes first rows accept
  AreRows-classes =
      let size = made.flags.size in
      let rows_size = made.rows_size in
      let few = made.few in
      let some = value_within made.first_row 0 in
      let below = λ (k : ℕ) (h : k < length rows). let b : k < length owners = omega (arith, rows_size, h) in b in
      record {
        ascending = made.tracks.ascending;
        few_tracks = made.tracks.few;
        some_state = omega (arith, some);
        few_states = omega (arith, size, few);
        rows_size = rows_size ∙ sym size;
        first_known = made.first_row.known;
        first_narrow = made.first_row.narrow;
        first_within = value_within made.first_row;
        rows_known = All-from_get_or (λ node. node < length shapes) rows 0 (λ k h. (row_at k (below k h)).row.known);
        rows_narrow = All-from_get_or (λ node. LooksBelow shapes node (length w.tracks)) rows 0 (λ k h. (row_at k (below k h)).row.narrow);
        rows_within = All-from_get_or (λ node. (letter : ℕ) → map_at shapes node letter < length accept) rows 0 (λ k h. value_within (row_at k (below k h)).row);
      }

  -- a letter leads from the class of a place to the class of the next place
  step_leads : (place : List ℕ) (class letter : ℕ) → letter < 2 ^ length w.tracks → HasClass places table place class
      → HasClass places table (w.next place letter) (next_state (dense w.tracks shapes first rows accept) class letter)
  step_leads place class letter below has =
      let known = class_within has in
      let size = made.flags.size in
      let rows_size = made.rows_size in
      let is = made.classes.classed place class has in
      let at = row_at class known in
      let here = one_owner class at.owner is.owner at.has is.has in
      let Has : List ℕ → ℕ → Type 0 = HasClass places table in
      let lead : Has (w.next is.owner letter) (map_at shapes (get_or rows class 0) letter) =
      subst (λ p. Has (w.next p letter) (map_at shapes (get_or rows class 0) letter)) here (at.row.leads letter below) in
      let entry = next_state-dense w.tracks shapes first rows accept AreRows-classes class letter (get_or rows class 0) (omega (arith, known, size)) below
      (get_or_default rows class 0 (get_or rows class 0) (omega (arith, rows_size, known))) in
      subst (Has (w.next place letter)) (sym entry) (elim is.rows [
        | inl same ↦ subst (λ p. Has (w.next p letter) (map_at shapes (get_or rows class 0) letter)) same lead
        | inr settled ↦
            let one = settled.same letter below in
            subst (Has (w.next place letter)) (one_class (w.next is.owner letter) one.class _ made.different one.second lead) one.first
      ])

  run_leads : (letters : List ℕ) (place : List ℕ) (class : ℕ) → All (λ l. l < 2 ^ length w.tracks) letters → HasClass places table place class
      → HasClass places table (fold w.next place letters) (run (dense w.tracks shapes first rows accept) class letters)
  run_leads [] place class all has = has
  run_leads (letter ∷ letters) place class all has =
      run_leads letters _ _ (All-tail (λ l. l < 2 ^ length w.tracks) letter letters all) (step_leads place class letter (All-head (λ l. l < 2 ^ length w.tracks) letter letters all) has)

  -- a word leads to the class of the place to which it leads
  pub word_leads : {word : List ℕ} → IsWord (length w.tracks) word → HasClass places table (place_of w word) (state_of (dense w.tracks shapes first rows accept) word)
  word_leads {word = []} is = absurd (is.nonempty refl)
  word_leads {word = sign ∷ letters} is =
      let below = All-head (λ l. l < 2 ^ length w.tracks) sign letters is.letters in
      run_leads letters _ _ (All-tail (λ l. l < 2 ^ length w.tracks) sign letters is.letters)
      (subst (HasClass places table (w.first sign)) (sym (get_or-row_of shapes (2 ^ length w.tracks) first sign below)) (made.first_row.leads sign below))

  final_is : {word : List ℕ} → IsWord (length w.tracks) word
      → is_final (dense w.tracks shapes first rows accept) (state_of (dense w.tracks shapes first rows accept) word) ≡ w.final (place_of w word)
  final_is {word} word_is =
      let state = state_of (dense w.tracks shapes first rows accept) word in
      let is = made.classes.classed (place_of w word) state (word_leads word_is) in
      made.flags.at state is.owner is.has ∙ is.flag

  -- words lead to each class where words lead to the places
  reached : (Place : List ℕ → Type 0) → All Place places → ((place : List ℕ) → Place place → IsReached w place) → AllReached (dense w.tracks shapes first rows accept)
  reached Place all reach class below =
      let size = made.flags.size in
      let known : class < length owners = omega (arith, size, below) in
      let own = made.classes.own class known in
      let r = reach own.owner (All-at Place places own.class_is.number own.owner own.class_is.is all) in
      let state = state_of (dense w.tracks shapes first rows accept) r.word in
      let has : HasClass places table own.owner state = subst (λ p. HasClass places table p state) r.leads (word_leads r.is_word) in
      record { word = r.word; is_word = r.is_word; leads = one_class own.owner _ class made.different has own.class_is }

  there : (word : List ℕ) → IsWord (length w.tracks) word → Contains places (place_of w word)
  there word is =
      let has = word_leads is in (
        has.number,
        slice_get_within places has.number (place_of w word) has.is,
        get_or_from_slice_get places has.number (place_of w word) (place_of w word) has.is,
      )

-- the automaton over the classes
pub IsMerged-classes : {Spot : Type 0} {g : Graph Spot} {places : List (List ℕ)} {table owners : List ℕ} {shapes : List Shape} {first : ℕ} {rows : List ℕ} {accept : List Bool}
    → AreSeen g places → length owners ≤ length places → AreMade g.walker places table owners shapes first rows accept → IsMerged g (dense g.walker.tracks shapes first rows accept)
IsMerged-classes {g = g} {places = places} seen fewer made =
    let size = made.flags.size in
    let few = seen.few in
    record {
      tracks = refl;
      words = λ word is. let flag = final_is made is in (λ h. sym flag ∙ h, λ h. flag ∙ h);
      reached = reached made g.is_place seen.are_places;
      few = omega (arith, size, few, fewer);
      within = not_MoreThan g.walker places g.most (there made) seen.few;
    }
