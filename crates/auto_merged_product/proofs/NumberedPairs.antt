-- Pairs of states as places that are numbered.
use Rattle.std.proofs.Common.{◌≡◌, ◌≢◌, ℕ, ◌<◌, ◌≤◌, ◌^◌, List, [], ◌∷◌, ◌++◌, length, map, All, AllPairs, Contains, arith, refl, sym, ap, ◌∙◌, subst, inl, inr}
use Rattle.std.proofs.lemmas.List.{length-map, length_push, get_or-map, map_push}
use Rattle.std.proofs.lemmas.List.Elements.{All-push}
use Rattle.letter_diagram.specs.Numbering.{Numbers}
use Rattle.letter_diagram.specs.Sets.{NumbersSet}
use Rattle.letter_diagram.proofs.SetNumbers.{unrepeated_still}
use Rattle.auto_walk.specs.Walker.{Walker, IsReached, MoreThan}
use Rattle.auto_walk.proofs.WalkLemmas.{MoreThan-from}
use Rattle.auto_bool.specs.Both.{place_of_pair}
use Rattle.auto_bool.proofs.PairLemmas.{same_pair}
use Rattle.auto_merge.specs.Graph.{Graph, AreSeen}

-- a place that is there is that of a pair that is there
pub Contains-pair : (pairs : List (ℕ × ℕ)) (pair : ℕ × ℕ) → Contains (map place_of_pair pairs) (place_of_pair pair) → Contains pairs pair
Contains-pair pairs pair at =
    let size = length-map pairs place_of_pair in
    let within : at.0 < length pairs = omega (arith, size, at.1) in
    (at.0, within, same_pair _ _ (sym (get_or-map place_of_pair pairs at.0 pair (place_of_pair pair) within) ∙ at.2))

-- a pair that is numbered is a place that is numbered
pub NumbersSet-places : {old new : List (ℕ × ℕ)} {pair : ℕ × ℕ} → Numbers old new pair → NumbersSet (map place_of_pair old) (map place_of_pair new) (place_of_pair pair)
NumbersSet-places (inl e) = inl (ap (map place_of_pair) e)
NumbersSet-places {old} {pair} (inr (e, absent)) = inr (
  ap (map place_of_pair) e ∙ map_push place_of_pair old pair,
  λ at. absent (Contains-pair old pair at),
)

-- what is so of a place that is numbered and of those that were before is so of all
numbered-all : (P : List ℕ → Type 0) {old new : List (List ℕ)} {place : List ℕ} → NumbersSet old new place → All P old → P place → All P new
numbered-all P (inl e) before here = subst (All P) (sym e) before
numbered-all P {old} {place} (inr (e, absent)) before here = subst (All P) (sym e) (All-push P old place before here)

-- a place that is numbered among those that were
pub AreSeen-more : {Spot : Type 0} {g : Graph Spot} {old new : List (List ℕ)} {place : List ℕ} → AreSeen g old → NumbersSet old new place → g.is_place place → length new ≤ g.most
    → AreSeen g new
AreSeen-more {g} {old} {new} {place} seen numbers here few = record {
  are_places = numbered-all g.is_place numbers seen.are_places here;
  different = unrepeated_still old new place numbers seen.different;
  few = few;
  most_few = seen.most_few;
}

-- a place that is reached and not numbered is one more
pub MoreThan-new : (w : Walker) (budget : ℕ) (places : List (List ℕ)) (place : List ℕ) → All (IsReached w) places → AllPairs (λ p q. p ≢ q) places → budget ≤ length places
    → IsReached w place → (Contains places place → ⊥) → MoreThan w budget
MoreThan-new w budget places place reached different many here absent =
    let size = length_push places place in
    MoreThan-from w budget {places = places ++ place ∷ []} (record {
      reached = All-push (IsReached w) places place reached here;
      different = unrepeated_still places (places ++ place ∷ []) place (inr (refl, absent)) different;
    }) (omega (arith, size, many))
