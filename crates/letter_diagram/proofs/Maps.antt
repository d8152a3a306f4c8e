-- The maps of nodes, as nodes are added.
use Rattle.std.proofs.Common.{◌≡◌, ℕ, ◌<◌, ◌+◌, List, [], ◌∷◌, ◌++◌, length, take, drop, slice_get, get_or, nat_eq, Some, arith, refl, sym, ap, ◌∙◌, subst, if◌then◌else◌}
use Rattle.std.specs.List.{fold}
use Rattle.std.proofs.lemmas.List.{length-append, length_push, get_or_append_left, get_or_push, take-append-drop, length-take-le, drop_more}
use Rattle.std.proofs.lemmas.Option.{get_or_from_slice_get, slice_get_within}
use Rattle.std.proofs.lemmas.List.Sums.{fold-append}
use Rattle.letter_diagram.specs.declared.diagrams.Shape.{Shape}
use Rattle.letter_diagram.specs.declared.diagrams.Shape.TheVariants.{Leaf, Test}
use Rattle.std.specs.Int.{bit_at}
use Rattle.letter_diagram.specs.Diagram.{value_of, values_at, map_at, track_of, top_track, value_in, FitsBelow, IsAt, Grows}

length-more : (letter : ℕ) (shapes : List Shape) (values : List ℕ) → length (fold (λ vs s. vs ++ value_of letter vs s ∷ []) values shapes) ≡ length values + length shapes
length-more letter [] values = omega arith
length-more letter (s ∷ shapes) values = let l = length-more letter shapes (values ++ value_of letter values s ∷ []) in let m = length_push values (value_of letter values s) in omega (arith, l, m)

-- the values that are there stay
kept-more : (letter : ℕ) (shapes : List Shape) (values : List ℕ) (k : ℕ) → k < length values
    → get_or (fold (λ vs s. vs ++ value_of letter vs s ∷ []) values shapes) k 0 ≡ get_or values k 0
kept-more letter [] values k h = refl
kept-more letter (s ∷ shapes) values k h =
    let m = length_push values (value_of letter values s) in
    kept-more letter shapes (values ++ value_of letter values s ∷ []) k (omega (arith, m, h)) ∙ get_or_append_left values (value_of letter values s ∷ []) 0 k h

length-values_at : (letter : ℕ) (shapes : List Shape) → length (values_at letter shapes) ≡ length shapes
unfolding values_at
length-values_at letter shapes = length-more letter shapes [] ∙ omega arith

-- a node's map in a longer list
pub map_at-append : (xs ys : List Shape) (node letter : ℕ) → node < length xs → map_at (xs ++ ys) node letter ≡ map_at xs node letter
unfolding map_at values_at
map_at-append xs ys node letter h =
    ap (λ l. get_or l node 0) (fold-append (λ (vs : List ℕ) (s : Shape). vs ++ value_of letter vs s ∷ []) [] xs ys)
    ∙ kept-more letter ys (values_at letter xs) node (let l = length-values_at letter xs in omega (arith, l, h))

pub top_track-append : (xs ys : List Shape) (node : ℕ) → node < length xs → top_track (xs ++ ys) node ≡ top_track xs node
unfolding top_track
top_track-append xs ys node h = ap track_of (get_or_append_left xs ys (Leaf 0) node h)

pub Grows-append : (xs ys : List Shape) → Grows xs (xs ++ ys)
Grows-append xs ys = record {
  longer = let l = length-append xs ys in omega (arith, l);
  map = λ node letter h. map_at-append xs ys node letter h;
  top = λ node h. top_track-append xs ys node h;
}

pub Grows-refl : (xs : List Shape) → Grows xs xs
Grows-refl xs = record { longer = omega arith; map = λ node letter h. refl; top = λ node h. refl }

pub Grows-trans : {xs ys zs : List Shape} → Grows xs ys → Grows ys zs → Grows xs zs
Grows-trans g h = record {
  longer = omega arith;
  map = λ node letter k. h.map node letter (omega arith) ∙ g.map node letter k;
  top = λ node k. h.top node (omega arith) ∙ g.top node k;
}

-- the value of the shape that follows some nodes
map_at-push : (before after : List Shape) (shape : Shape) (letter : ℕ) → map_at (before ++ shape ∷ after) (length before) letter ≡ value_of letter (values_at letter before) shape
unfolding map_at values_at
map_at-push before after shape letter =
    let lengths = length-values_at letter before in
    let push = length_push (values_at letter before) (value_of letter (values_at letter before) shape) in
    ap (λ l. get_or l (length before) 0) (fold-append (λ (vs : List ℕ) (s : Shape). vs ++ value_of letter vs s ∷ []) [] before (shape ∷ after))
    ∙ kept-more letter after (values_at letter before ++ value_of letter (values_at letter before) shape ∷ []) (length before) (omega (arith, lengths, push))
    ∙ get_or_push (values_at letter before) (value_of letter (values_at letter before) shape) 0 (length before) lengths

-- the value of a shape over earlier nodes, in a longer list
value_of-append : (before after : List Shape) (shape : Shape) (letter : ℕ) → FitsBelow (before ++ after) (length before) shape
    → value_of letter (values_at letter before) shape ≡ value_in (before ++ after) shape letter
unfolding map_at
value_of-append before after (Leaf value) letter h = refl
value_of-append before after (Test track low high) letter h =
    let l = map_at-append before after low letter h.low_before in
    let r = map_at-append before after high letter h.high_before in
    λ i. if nat_eq (bit_at letter track) 0 then sym l i else sym r i

top_at : (shapes : List Shape) (node : ℕ) (shape : Shape) → slice_get shapes node ≡ Some shape → top_track shapes node ≡ track_of shape
unfolding top_track
top_at shapes node shape at = ap track_of (get_or_from_slice_get shapes node shape (Leaf 0) at)

pub IsAt-get : (shapes : List Shape) (node : ℕ) (shape : Shape) → slice_get shapes node ≡ Some shape → FitsBelow shapes node shape → IsAt shapes node shape
IsAt-get shapes node shape at fits =
    let within = slice_get_within shapes node shape at in
    let before = take node shapes in
    let after = shape ∷ drop (node + 1) shapes in
    let size = length-take-le node shapes (omega arith) in
    let cut : shapes ≡ before ++ after =
    sym (take-append-drop node shapes)
    ∙ ap (λ l. take node shapes ++ l)
    (drop_more shapes node shape within ∙ ap (λ s. s ∷ drop (node + 1) shapes) (get_or_from_slice_get shapes node shape shape at)) in
    record {
      is = at;
      within = within;
      map = λ letter.
          let P : List Shape → ℕ → Type 0 = λ l n. FitsBelow l n shape in
          let fits_here = subst (λ n. P (before ++ after) n) (sym size) (subst (λ l. P l node) cut fits) in
          (λ i. map_at (cut i) (sym size i) letter)
          ∙ map_at-push before (drop (node + 1) shapes) shape letter
          ∙ value_of-append before after shape letter fits_here
          ∙ ap (λ l. value_in l shape letter) (sym cut);
      top = top_at shapes node shape at;
    }
