-- The values of a map, by the letters at which they come first.
use Rattle.std.proofs.Common.{◌≡◌, ℕ, ◌<◌, List, length, get_or, arith, sym, ap, ◌∙◌}
use Rattle.std.specs.Ordering.{nat_cmp}
use Rattle.std.specs.BTreeMap.{BTreeMap, is_at, IsOrdered}
use Rattle.std.specs.Map.{keys_of, values_of}
use Rattle.std.proofs.lemmas.Cmp.{nat_cmp_total}
use Rattle.std.proofs.lemmas.List.{get_or-map}
use Rattle.std.proofs.lemmas.List.Kept.{AllPairs-from_increasing}
use Rattle.std.proofs.lemmas.Map.Keys.{IsStrictlyIncreasing-from_sorted}
use Rattle.std.proofs.lemmas.Map.Entries.{place_from_lookup, btree_map_get_place, length-keys_of, length-values_of}
use Rattle.std.proofs.lemmas.Option.{slice_get-get_or, slice_get_within, get_or_from_slice_get}
use Rattle.letter_diagram.specs.declared.diagrams.Shape.{Shape}
use Rattle.letter_diagram.specs.Diagram.{map_at}
use Rattle.letter_diagram.specs.Least.{IsFirst, AreFirsts}
use Rattle.letter_diagram.specs.Leaves.{AreLeaves}

-- an entry that is found gives its value at its letter
module _ (shapes : List Shape) (node : ℕ) (firsts : BTreeMap ℕ ℕ) (ordered : IsOrdered nat_cmp firsts) where
  key_at : ℕ → ℕ
  key_at i = (get_or firsts.entries i (0, 0)).0

  value_at : ℕ → ℕ
  value_at i = (get_or firsts.entries i (0, 0)).1

  -- the i-th value, with its letter
  found_at : AreFirsts shapes node firsts → (i : ℕ) → i < length firsts.entries → IsFirst shapes node (value_at i) (key_at i)
  unfolding key_at value_at
  found_at are i below =
      are.first _ _
      (btree_map_get_place nat_cmp_total firsts i (get_or firsts.entries i (0, 0)).0 (get_or firsts.entries i (0, 0)).1 ordered
      (slice_get-get_or firsts.entries i (0, 0) below))

  value_is : (i : ℕ) → i < length firsts.entries → get_or (values_of firsts.entries) i 0 ≡ value_at i
  unfolding value_at
  value_is i below = get_or-map (λ (e : ℕ × ℕ). e.1) firsts.entries i (0, 0) 0 below

  rising : (i j : ℕ) → i < j → j < length firsts.entries → key_at i < key_at j
  unfolding key_at
  rising i j lt below =
      let l = length-keys_of firsts.entries in
      let up = AllPairs-from_increasing (keys_of firsts.entries) (IsStrictlyIncreasing-from_sorted (keys_of firsts.entries) ordered) i j 0 lt (omega (arith, l, below)) in
      let ei = get_or-map (λ (e : ℕ × ℕ). e.0) firsts.entries i (0, 0) 0 (omega (arith, lt, below)) in
      let ej = get_or-map (λ (e : ℕ × ℕ). e.0) firsts.entries j (0, 0) 0 below in
      omega (arith, up, ei, ej)

  pub AreLeaves-values : AreFirsts shapes node firsts → AreLeaves shapes node (values_of firsts.entries)
  AreLeaves-values are =
      let l = length-values_of firsts.entries in
      record {
        all = λ letter.
            let f = are.has letter in
            let d = map_at shapes node letter in
            let place = place_from_lookup (is_at (nat_cmp f.0)) firsts.entries d f.1 in
            let within = slice_get_within firsts.entries place.0 (place.1, d) place.2 in (
              place.0,
              omega (arith, l, within),
              get_or-map (λ (e : ℕ × ℕ). e.1) firsts.entries place.0 (0, d) d within ∙ ap (λ (e : ℕ × ℕ). e.1) (get_or_from_slice_get firsts.entries place.0 (place.1, d) (0, d) place.2),
            );
        given = λ i below. let within : i < length firsts.entries = omega (arith, l, below) in (key_at i, (found_at are i within).map ∙ sym (value_is i within));
        ordered = λ i j lt below.
            let j_within : j < length firsts.entries = omega (arith, l, below) in
            let i_within : i < length firsts.entries = omega (arith, lt, j_within) in (
              key_at i,
              (found_at are i i_within).map ∙ sym (value_is i i_within),
              λ letter e.
                  let le = (found_at are j j_within).least letter (e ∙ value_is j j_within) in
                  let up = rising i j lt j_within in
                  omega (arith, le, up),
            );
      }
