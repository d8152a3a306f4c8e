-- Nodes that are led to places, as nodes, sets and places are added.
use Rattle.std.proofs.Common.{◌≡◌, ℕ, ◌<◌, ◌≤◌, Bool, true, false, List, length, nat_eq, slice_get, Option, None, Some, arith, sym, ap, ◌∙◌, subst, inl, inr, if◌then◌else◌}
use Rattle.std.specs.Int.{bit_at}
use Rattle.std.proofs.lemmas.Bool.{cases_lt}
use Rattle.letter_diagram.specs.declared.diagrams.Shape.{Shape}
use Rattle.letter_diagram.specs.declared.diagrams.Shape.TheVariants.{Leaf, Test}
use Rattle.letter_diagram.specs.Diagram.{map_at, top_track, chosen, IsAt, HasChildren, Grows}
use Rattle.letter_diagram.specs.Sets.{set_at, SetsKept}
use Rattle.letter_diagram.specs.Merged.{HasSets}
use Rattle.letter_diagram.specs.NodeMemo.{answer_of, Remembers}
use Rattle.letter_diagram.proofs.Mergings.{HasSets-grows}
use Rattle.letter_diagram.proofs.Memos.{node_answers-insert}
use Rattle.auto_project.specs.Placed.{IsPlaced, AddsSetsOf, RemembersPlaced}
use Rattle.auto_project.proofs.SetMapLemmas.{stays}

-- what leads to places still does where the rows and the places grow
pub IsPlaced-grows : {shapes : List Shape} {sets : List (List ℕ)} {rows more : List Shape} {places after : List (List ℕ)} {node row : ℕ} → Grows rows more → SetsKept places after
    → IsPlaced shapes sets rows places node row → IsPlaced shapes sets more after node row
IsPlaced-grows {shapes} {sets} {rows} {more} {places} {after} {node} {row} grows kept is =
    let known = is.known in
    let longer = grows.longer in
    let top = is.top in
    let top_row = grows.top row is.known in
    record {
      source = is.source;
      known = omega (arith, known, longer);
      leads = λ letter. ap (slice_get after) (grows.map row letter is.known) ∙ kept.at _ _ (is.leads letter);
      top = omega (arith, top, top_row);
    }

pub RemembersPlaced-grows : {shapes : List Shape} {sets : List (List ℕ)} {rows more : List Shape} {places after : List (List ℕ)} {memo : List (Option ℕ)} → Grows rows more
    → SetsKept places after → RemembersPlaced shapes sets rows places memo → RemembersPlaced shapes sets more after memo
RemembersPlaced-grows grows kept all = record { placed = λ node row at. IsPlaced-grows grows kept (all.placed node row at) }

-- and where the nodes and the sets grow
pub RemembersPlaced-over : {shapes more : List Shape} {sets sets' : List (List ℕ)} {rows : List Shape} {places : List (List ℕ)} {memo : List (Option ℕ)} → Grows shapes more
    → SetsKept sets sets' → RemembersPlaced shapes sets rows places memo → RemembersPlaced more sets' rows places memo
RemembersPlaced-over {shapes} {more} {sets} {sets'} grows kept all = record {
  placed = λ node row at.
      let is = all.placed node row at in
      let top = is.top in
      let top_node = grows.top node is.source.known in
      record {
        source = HasSets-grows grows kept is.source;
        known = is.known;
        leads = λ letter. is.leads letter ∙ ap Some (sym (stays shapes more sets sets' grows kept letter is.source));
        top = omega (arith, top, top_node);
      };
}

pub RemembersPlaced-none : (shapes : List Shape) (sets : List (List ℕ)) (rows : List Shape) (places : List (List ℕ)) (memo : List (Option ℕ))
    → ((node : ℕ) → answer_of memo node ≡ None) → RemembersPlaced shapes sets rows places memo
RemembersPlaced-none shapes sets rows places memo none = record { placed = λ node row at. let never = none node in cc }

pub RemembersPlaced-same : {shapes : List Shape} {sets : List (List ℕ)} {rows : List Shape} {places : List (List ℕ)} {memo new : List (Option ℕ)}
    → ((node : ℕ) → answer_of new node ≡ answer_of memo node) → RemembersPlaced shapes sets rows places memo → RemembersPlaced shapes sets rows places new
RemembersPlaced-same same all = record { placed = λ node row at. all.placed node row (sym (same node) ∙ at) }

pub RemembersPlaced-insert : {shapes : List Shape} {sets : List (List ℕ)} {rows : List Shape} {places : List (List ℕ)} {memo new : List (Option ℕ)} {node row : ℕ}
    → RemembersPlaced shapes sets rows places memo → Remembers memo new node row → IsPlaced shapes sets rows places node row
    → RemembersPlaced shapes sets rows places new
RemembersPlaced-insert {shapes} {sets} {rows} {places} all remembers is = record { placed = node_answers-insert (IsPlaced shapes sets rows places) all.placed remembers is }

-- the sets of the two sides of a test
pub HasSets-side : {shapes : List Shape} {sets : List (List ℕ)} {node : ℕ} (side : ℕ) → side < node → HasSets shapes sets node
    → ((letter : ℕ) → (l : ℕ) × (map_at shapes node l ≡ map_at shapes side letter)) → HasSets shapes sets side
HasSets-side {sets} side before has child =
    let known = has.known in
    record { known = omega (arith, before, known); numbered = λ letter. let l = child letter in subst (λ n. n < length sets) l.1 (has.numbered l.0) }

pub IsPlaced-leaf : {shapes : List Shape} {sets : List (List ℕ)} (rows : List Shape) (places : List (List ℕ)) {node : ℕ} (row number : ℕ) → IsAt shapes node (Leaf number)
    → HasSets shapes sets node → row < length rows → ((letter : ℕ) → slice_get places (map_at rows row letter) ≡ Some (set_at sets number))
    → top_track rows row ≡ 20 → IsPlaced shapes sets rows places node row
IsPlaced-leaf {sets} rows places row number at has known leads top = record {
  source = has;
  known = known;
  leads = λ letter. leads letter ∙ ap (λ n. Some (set_at sets n)) (sym (at.map letter));
  top = let t = at.top in omega (arith, t, top);
}

either-side : (sets places : List (List ℕ)) (b : Bool) (v w v' w' : ℕ) → slice_get places v' ≡ Some (set_at sets v) → slice_get places w' ≡ Some (set_at sets w)
    → slice_get places (if b then v' else w') ≡ Some (set_at sets (if b then v else w))
either-side sets places true v w v' w' low high = low
either-side sets places false v w v' w' low high = high

pub IsPlaced-test : {shapes : List Shape} {sets : List (List ℕ)} {mid : List Shape} (rows : List Shape) {places : List (List ℕ)} {node : ℕ} (row track : ℕ) {low high low' high' : ℕ}
    → IsAt shapes node (Test track low high) → HasSets shapes sets node → IsPlaced shapes sets mid places low low' → IsPlaced shapes sets mid places high high'
    → row < length rows → ((letter : ℕ) → map_at rows row letter ≡ chosen mid track low' high' letter) → track ≤ top_track rows row → IsPlaced shapes sets rows places node row
IsPlaced-test {shapes} {sets} {mid} rows {places} row track {low} {high} {low'} {high'} at has l h known map top = record {
  source = has;
  known = known;
  leads = λ letter.
      ap (slice_get places) (map letter)
      ∙ either-side sets places (nat_eq (bit_at letter track) 0) (map_at shapes low letter) (map_at shapes high letter) (map_at mid low' letter)
      (map_at mid high' letter) (l.leads letter) (h.leads letter)
      ∙ ap (λ n. Some (set_at sets n)) (sym (at.map letter));
  top = subst (λ t. t ≤ top_track rows row) (sym at.top) top;
}

pub AddsSetsOf-leaf : {shapes : List Shape} (sets before places : List (List ℕ)) {node : ℕ} (number : ℕ) → IsAt shapes node (Leaf number)
    → ((place : ℕ) → length before ≤ place → place < length places → slice_get places place ≡ Some (set_at sets number)) → AddsSetsOf shapes sets before places node
AddsSetsOf-leaf sets before places number at added = record { led = λ place from within. (0, added place from within ∙ ap (λ n. Some (set_at sets n)) (sym (at.map 0))) }

pub AddsSetsOf-test : {shapes : List Shape} {sets before mid places : List (List ℕ)} (node track : ℕ) {low high : ℕ} → HasChildren shapes node (Test track low high) → SetsKept mid places
    → AddsSetsOf shapes sets before mid low → AddsSetsOf shapes sets mid places high → AddsSetsOf shapes sets before places node
AddsSetsOf-test {shapes} {sets} {mid} node track {low} children kept l h = record {
  led = λ place from within. elim (cases_lt place (length mid)) [
    | inl old ↦
        let one = l.led place from old in
        let child = (children one.0).0 in
        (child.0, kept.at place (set_at sets (map_at shapes low one.0)) one.1 ∙ ap (λ n. Some (set_at sets n)) (sym child.1))
    | inr new ↦
        let one = h.led place new within in
        let child = (children one.0).1 in
        (child.0, one.1 ∙ ap (λ n. Some (set_at sets n)) (sym child.1))
  ];
}
