-- The states of an automaton as places, and its nodes as spots.
use Rattle.std.proofs.Common.{◌≡◌, ◌≢◌, ℕ, ◌<◌, Bool, true, false, List, [], ◌∷◌, length, get_or, slice_get, nat_eq, Some, arith, refl, sym, ap, ◌∙◌, subst, if◌then◌else◌}
use Rattle.std.specs.List.{fold}
use Rattle.std.specs.Int.{bit_at}
use Rattle.std.proofs.lemmas.List.Elements.{All-from_get_or}
use Rattle.std.proofs.lemmas.List.FromFn.{get_or-map-range_with_len, length-map-range_with_len}
use Rattle.std.proofs.lemmas.Option.{slice_get_within, slice_get-get_or, get_or_from_slice_get}
use Rattle.letter_diagram.specs.declared.diagrams.Shape.TheVariants.{Leaf, Test}
use Rattle.letter_diagram.specs.Diagram.{map_at, IsAt, IsTest, HasChildren, LooksBelow}
use Rattle.auto_core.specs.Automaton.{Automaton, IsAutomaton, first_state, next_state, run, state_of, is_final}
use Rattle.auto_core.specs.Reduced.{AllReached}
use Rattle.auto_core.specs.Words.{HasSameWords}
use Rattle.auto_core.specs.Rows.{IsNodeOfRow}
use Rattle.auto_core.proofs.States.{state_within}
use Rattle.auto_walk.specs.Walker.{place_of, MoreThan}
use Rattle.auto_walk.specs.Rows.{IsFlagOf}
use Rattle.auto_merge.specs.Graph.{AreSeen, LeadsToOne, LeadsByTrack, IsRowSpot, IsRowAt}
use Rattle.auto_merge.specs.Merged.{IsMerged}
use Rattle.auto_merge.specs.StateRows.{place_of_state, places_of_states, state_walker, IsPlaceOfState, IsNodeOf, state_graph}
use Rattle.auto_merge.proofs.ClassStates.{not_MoreThan}

-- ---- places

pub length-places_of_states : (count : ℕ) → length (places_of_states count) ≡ count
length-places_of_states count = length-map-range_with_len place_of_state 0 count

pub place_at_state : (count state : ℕ) → state < count → slice_get (places_of_states count) state ≡ Some (place_of_state state)
place_at_state count state below =
    slice_get-get_or (places_of_states count) state [] (let size = length-places_of_states count in omega (arith, size, below))
    ∙ ap Some (get_or-map-range_with_len place_of_state 0 count state state [] below (omega arith))

same_state : (j k : ℕ) → place_of_state j ≡ place_of_state k → j ≡ k
same_state j k e = ap (λ l. get_or l 0 0) e

pub AreSeen-states : {a : Automaton} → IsAutomaton a → AreSeen (state_graph a) (places_of_states (length a.accept))
AreSeen-states {a} valid =
    let size = length-places_of_states (length a.accept) in
    let at = λ (k : ℕ) (d : List ℕ) (h : k < length (places_of_states (length a.accept))). get_or-map-range_with_len place_of_state 0 (length a.accept) k k d (omega (arith, h, size)) (omega arith) in
    record {
      are_places = All-from_get_or (IsPlaceOfState a) (places_of_states (length a.accept)) [] (λ k h. record { state = k; within = omega (arith, h, size); is = at k [] h });
      different = λ i j d less within e.
          let same = same_state i j (sym (at i d (omega (arith, less, within))) ∙ e ∙ at j d within) in
          absurd (omega (arith, same, less));
      few = omega (arith, size);
      most_few = valid.few_states;
    }

-- ---- nodes

pub LeadsToOne-leaf : {a : Automaton} {node state : ℕ} → IsNodeOf a node → IsAt a.shapes node (Leaf state) → LeadsToOne (state_graph a) (places_of_states (length a.accept)) node state
LeadsToOne-leaf {a} {node} {state} is at = record {
  place = place_of_state state;
  is = place_at_state (length a.accept) state (subst (λ s. s < length a.accept) (at.map 0) (is.within 0));
  leads = λ letter. ap place_of_state (at.map letter);
  top = let top = at.top in omega (arith, top);
}

either_place : (bit : Bool) (j k : ℕ) → place_of_state (if bit then j else k) ≡ (if bit then place_of_state j else place_of_state k)
either_place true j k = refl
either_place false j k = refl

pub LeadsByTrack-test : {a : Automaton} {node track low high : ℕ} → IsNodeOf a node → IsAt a.shapes node (Test track low high) → IsTest a.shapes node track low high
    → HasChildren a.shapes node (Test track low high) → LeadsByTrack (state_graph a) node track low high
LeadsByTrack-test {a} {node} {track} {low} {high} is at fits children =
    let known = is.known in
    let low_before = fits.low_before in
    let high_before = fits.high_before in
    let top = at.top in
    record {
      track_low = fits.track_low;
      low_read = record {
        known = omega (arith, known, low_before);
        within = λ letter. let v = (children letter).0 in subst (λ s. s < length a.accept) v.1 (is.within v.0);
      };
      high_read = record {
        known = omega (arith, known, high_before);
        within = λ letter. let v = (children letter).1 in subst (λ s. s < length a.accept) v.1 (is.within v.0);
      };
      leads = λ letter. ap place_of_state (at.map letter) ∙ either_place (nat_eq (bit_at letter track) 0) (map_at a.shapes low letter) (map_at a.shapes high letter);
      top = omega (arith, top);
      low_above = fits.low_above;
      high_above = fits.high_above;
      low_smaller = fits.low_before;
      high_smaller = fits.high_before;
    }

-- a node of a row
pub IsRowSpot-row : {a : Automaton} {node : ℕ} (row : ℕ → ℕ) → node < length a.shapes → LooksBelow a.shapes node (length a.tracks) → IsNodeOfRow a row node
    → ((letter : ℕ) → map_at a.shapes node letter < length a.accept) → IsRowSpot (state_graph a) (λ letter. place_of_state (row letter)) node
IsRowSpot-row {a} {node} row known narrow is within = record {
  read = record { known = known; within = within };
  narrow = λ x y agree. ap place_of_state (narrow.same x y agree);
  leads = λ letter below. ap place_of_state (is letter below);
}

pub IsRowAt-row : {a : Automaton} {state node : ℕ} → state < length a.accept → node < length a.shapes → LooksBelow a.shapes node (length a.tracks) → IsNodeOfRow a (next_state a state) node
    → ((letter : ℕ) → map_at a.shapes node letter < length a.accept) → IsRowAt (state_graph a) (places_of_states (length a.accept)) state node
IsRowAt-row {a} {state} below known narrow is within = record {
  place = place_of_state state;
  is = place_at_state (length a.accept) state below;
  row = IsRowSpot-row (next_state a state) known narrow is within;
}

pub IsFlagOf-state : (a : Automaton) (state : ℕ) (flag : Bool) → state < length a.accept → flag ≡ is_final a state → IsFlagOf (state_walker a) (places_of_states (length a.accept)) state flag
IsFlagOf-state a state flag below is = (place_of_state state, place_at_state (length a.accept) state below, is)

-- ---- words

runs : (a : Automaton) (letters : List ℕ) (state : ℕ) → fold (state_walker a).next (place_of_state state) letters ≡ place_of_state (run a state letters)
runs a [] state = refl
runs a (letter ∷ letters) state = runs a letters (next_state a state letter)

pub place_of-state : (a : Automaton) (word : List ℕ) → word ≢ [] → place_of (state_walker a) word ≡ place_of_state (state_of a word)
place_of-state a [] some = absurd (some refl)
place_of-state a (sign ∷ letters) some = runs a letters (first_state a sign)

-- words lead to no more places than there are states
pub not_MoreThan-states : {a : Automaton} → IsAutomaton a → ¬ MoreThan (state_walker a) (length a.accept)
not_MoreThan-states {a} valid =
    not_MoreThan (state_walker a) (places_of_states (length a.accept)) (length a.accept)
    (λ word is.
    let state = state_of a word in
    let at = place_at_state (length a.accept) state (state_within valid word) ∙ ap Some (sym (place_of-state a word is.nonempty)) in
    (state, slice_get_within (places_of_states (length a.accept)) state _ at, get_or_from_slice_get (places_of_states (length a.accept)) state _ _ at))
    (let size = length-places_of_states (length a.accept) in omega (arith, size))

pub HasSameWords-merged : {a m : Automaton} → IsMerged (state_graph a) m → HasSameWords a m
HasSameWords-merged {a} merged word is =
    let here = merged.words word is in
    let same : (state_walker a).final (place_of (state_walker a) word) ≡ is_final a (state_of a word) = ap (state_walker a).final (place_of-state a word is.nonempty) in
    (λ accepts. sym same ∙ here.0 accepts, λ accepts. here.1 (same ∙ accepts))

pub AllReached-merged : {a m : Automaton} → IsMerged (state_graph a) m → AllReached a → AllReached m
AllReached-merged {a} merged all = merged.reached (λ place is.
    let r = all is.state is.within in
    record { word = r.word; is_word = r.is_word; leads = place_of-state a r.word r.is_word.nonempty ∙ ap place_of_state r.leads ∙ sym is.is })
