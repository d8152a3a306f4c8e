-- Pairs of nodes as spots.
use Rattle.std.proofs.Common.{◌≡◌, ℕ, ◌<◌, ◌%◌, ◌^◌, Bool, true, false, List, length, map, slice_get, nat_eq, Some, arith, refl, sym, ap, ◌∙◌, subst, if◌then◌else◌}
use Rattle.std.specs.Int.{bit_at}
use Rattle.std.proofs.lemmas.Nat.{mod_below, pow_pos}
use Rattle.letter_diagram.specs.declared.diagrams.Shape.{Shape}
use Rattle.letter_diagram.proofs.Splittings.{sides-fall}
use Rattle.diagram_product.specs.declared.sides.PairTest.{PairTest}
use Rattle.diagram_product.specs.Absorbed.{absorbed}
use Rattle.diagram_product.specs.Sided.{Sides, CanBePaired, read_at, pair_at}
use Rattle.diagram_product.specs.Shapes.{IsOnePair, IsPairTest}
use Rattle.diagram_product.proofs.SidedPairs.{CanBePaired-low, CanBePaired-high, pair_at-split, pair_top-low, pair_top-high, low_answer, high_answer}
use Rattle.track_word.proofs.LetterBits.{low_bits}
use Rattle.auto_walk.specs.Walker.{Walker, IsReached}
use Rattle.auto_bool.specs.Both.{place_of_pair}
use Rattle.auto_bool.specs.Sides.{Reads}
use Rattle.auto_bool.proofs.PairLemmas.{get_pair}
use Rattle.auto_merge.specs.Graph.{LeadsToOne, LeadsByTrack, IsRowSpot}
use Rattle.auto_merged_product.specs.PairGraph.{CanLead, pair_graph}

-- one pair at each letter, which has a number
pub LeadsToOne-pair : {sides : Sides} {shapes : List Shape} {walker : Walker} {most : ℕ} {spot : ℕ × ℕ} (pairs : List (ℕ × ℕ)) {number : ℕ} {pair : ℕ × ℕ}
    → IsOnePair sides shapes spot.0 spot.1 pair → slice_get pairs number ≡ Some pair → LeadsToOne (pair_graph sides shapes walker most) (map place_of_pair pairs) spot number
LeadsToOne-pair pairs {number} {pair} one at = record {
  place = place_of_pair pair;
  is = get_pair pairs number pair at;
  leads = λ letter. ap place_of_pair (one.same letter);
  top = one.top;
}

-- the pair is one to which a word leads
pub IsReached-pair : {sides : Sides} {shapes : List Shape} {walker : Walker} {spot : ℕ × ℕ} {pair : ℕ × ℕ} → CanLead sides shapes walker spot
    → IsOnePair sides shapes spot.0 spot.1 pair → IsReached walker (place_of_pair pair)
IsReached-pair {walker} read one = subst (λ (p : ℕ × ℕ). IsReached walker (place_of_pair p)) (one.same 0) (read.reached 0)

choose : (c : Bool) (p q : ℕ × ℕ) → place_of_pair (if c then p else q) ≡ (if c then place_of_pair p else place_of_pair q)
choose true p q = refl
choose false p q = refl

-- both maps by the bit of a track
module _ {sides : Sides} {shapes : List Shape} {walker : Walker} {spot : ℕ × ℕ} {test : PairTest} (read : CanLead sides shapes walker spot) (is : IsPairTest sides shapes spot.0 spot.1 test) where
  CanLead-low : CanLead sides shapes walker test.low
  CanLead-low = record {
    read = CanBePaired-low read.read is.left is.right;
    reached = λ letter.
        let l = low_answer read.read is.left is.right letter in
        subst (λ (p : ℕ × ℕ). IsReached walker (place_of_pair p)) (sym l.1) (read.reached l.0);
  }

  CanLead-high : CanLead sides shapes walker test.high
  CanLead-high = record {
    read = CanBePaired-high read.read is.left is.right;
    reached = λ letter.
        let l = high_answer read.read is.left is.right letter in
        subst (λ (p : ℕ × ℕ). IsReached walker (place_of_pair p)) (sym l.1) (read.reached l.0);
  }

  pub LeadsByTrack-test : (most : ℕ) → LeadsByTrack (pair_graph sides shapes walker most) spot test.track test.low test.high
  LeadsByTrack-test most = record {
    track_low = is.track_low;
    low_read = CanLead-low;
    high_read = CanLead-high;
    leads = λ letter. ap place_of_pair (pair_at-split read.read is.left is.right letter) ∙ choose (nat_eq (bit_at letter test.track) 0) _ _;
    top = let e = is.top in omega (arith, e);
    low_above = pair_top-low read.read is.left is.right;
    high_above = pair_top-high read.read is.left is.right;
    low_smaller = let l = is.left in let r = is.right in sides-fall _ _ _ _ _ _ _ is.top l.low_within r.low_within l.low_smaller r.low_smaller;
    high_smaller = let l = is.left in let r = is.right in sides-fall _ _ _ _ _ _ _ is.top l.high_within r.high_within l.high_smaller r.high_smaller;
  }

-- the row of the pairs of two rows
pub IsRowSpot-pair : {sides : Sides} {shapes : List Shape} (walker : Walker) {most : ℕ} (lead : ℕ → List ℕ) (spot : ℕ × ℕ) {left_value right_value : ℕ → ℕ}
    → CanBePaired sides shapes spot.0 spot.1 → Reads (length walker.tracks) (read_at sides.left shapes spot.0) left_value
    → Reads (length walker.tracks) (read_at sides.right shapes spot.1) right_value
    → ((letter : ℕ) → lead letter ≡ place_of_pair (absorbed sides.absorbing (left_value letter) (right_value letter)))
    → ((letter : ℕ) → letter < 2 ^ length walker.tracks → IsReached walker (lead letter)) → IsRowSpot (pair_graph sides shapes walker most) lead spot
IsRowSpot-pair {sides} {shapes} walker {most} lead spot {left_value} {right_value} can l r leads_to reached =
    let narrow : (x y : ℕ) → ((k : ℕ) → k < length walker.tracks → bit_at x k ≡ bit_at y k)
    → place_of_pair (pair_at sides shapes spot.0 spot.1 x) ≡ place_of_pair (pair_at sides shapes spot.0 spot.1 y) =
    λ x y agree. λ i. place_of_pair (absorbed sides.absorbing (l.narrow x y agree i) (r.narrow x y agree i)) in
    let value : (letter : ℕ) → letter < 2 ^ length walker.tracks → place_of_pair (pair_at sides shapes spot.0 spot.1 letter) ≡ lead letter =
    λ letter below. (λ i. place_of_pair (absorbed sides.absorbing (l.reads letter below i) (r.reads letter below i))) ∙ sym (leads_to letter) in
    record {
      read = record {
        read = can;
        reached = λ letter.
            let low = letter % 2 ^ length walker.tracks in
            let below : low < 2 ^ length walker.tracks = mod_below letter (2 ^ length walker.tracks) (pow_pos (length walker.tracks)) in
            let same = narrow letter low (λ k inside. low_bits letter (length walker.tracks) k inside) ∙ value low below in
            subst (IsReached walker) (sym same) (reached low below);
      };
      narrow = narrow;
      leads = value;
    }
