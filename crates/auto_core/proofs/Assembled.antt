-- The parts of an automaton of sums.
use Rattle.std.proofs.Common.{◌≡◌, ◌↔◌, ℕ, ℤ, pos, negsuc, neg_ℤ, ◌+ℤ◌, ◌-ℤ◌, ◌≤ℤ◌, ◌<ℤ◌, ◌+◌, ◌≤◌, Bool, false, List, [], ◌∷◌, ◌++◌, length, get_or, slice_index, arith, inl, inr, refl, sym, ap, ◌∙◌, subst, IsTrue, w32, to_z, of_z}
use Rattle.std.specs.List.{sum_by}
use mir.Val.{SFits}
use Rattle.std.proofs.lemmas.Grind.{common_steps}
use Rattle.std.proofs.lemmas.Bool.{cases_lt}
use Rattle.std.proofs.lemmas.Int.{ints, clamps, to_z-of_z}
use Rattle.std.specs.Int.{int_min, int_max}
use Rattle.std.proofs.lemmas.List.{get_or_append_left, get_or_push}
use Rattle.track_word.specs.declared.atoms.Rel.{Rel}
use Rattle.track_word.specs.Atom.{Compares}
use Rattle.letter_diagram.specs.declared.diagrams.Shape.{Shape}
use Rattle.letter_diagram.specs.Diagram.{Grows}
use Rattle.auto_core.specs.declared.sums.ValueRange.{ValueRange}
use Rattle.auto_core.specs.Sums.{gain, loss, IsNear, IsSmall, IsSpan, IsSpanOf, IsSumRow, AreSumRows, AreFlagsOf}
use Rattle.auto_core.proofs.SumRows.{IsSumRow-grows}

pub gain-is : (w : ℤ) → pos 0 <ℤ w → w ≡ pos (gain w)
gain-is (pos n) h = refl
gain-is (negsuc n) h = absurd (omega (arith, ints, h))

pub gain-none : (w : ℤ) → w ≤ℤ pos 0 → pos 0 ≡ pos (gain w)
gain-none (pos n) h = omega (arith, ints, h)
gain-none (negsuc n) h = refl

pub loss-is : (w : ℤ) → w <ℤ pos 0 → neg_ℤ w ≡ pos (loss w)
loss-is (pos n) h = absurd (omega (arith, ints, h))
loss-is (negsuc n) h = refl

pub loss-none : (w : ℤ) → pos 0 ≤ℤ w → pos 0 ≡ pos (loss w)
loss-none (pos n) h = refl
loss-none (negsuc n) h = absurd (omega (arith, ints, h))

pub gain-small : (w : ℤ) → w ≤ℤ pos 64 → gain w ≤ 64
gain-small (pos n) h = omega (arith, ints, h)
gain-small (negsuc n) h = omega arith

pub loss-small : (w : ℤ) → negsuc 63 ≤ℤ w → loss w ≤ 64
loss-small (pos n) h = omega arith
loss-small (negsuc n) h = omega (arith, ints, h)

pub SFits-near : {z : ℤ} → IsNear 0 z → SFits w32 z
SFits-near near = let low = near.low in let high = near.high in omega (arith, ints, low, high)

pub AreFlagsOf-push : {rel : Rel} {bound : ℤ} {span : ValueRange} {flags : List Bool} (b : Bool) (state : ℕ) → length flags ≡ state → AreFlagsOf rel bound span flags
    → IsTrue b ↔ Compares rel (span.low +ℤ pos state) bound → AreFlagsOf rel bound span (flags ++ b ∷ [])
AreFlagsOf-push {flags} b state size are is = record {
  tells = λ i h. elim (cases_lt i (length flags)) [
    | inl below ↦ rw (get_or_append_left flags (b ∷ []) false i below) (are.tells i below)
    | inr past ↦
        let e : i ≡ state = grind (arith, common_steps, h, past, size) in
        let at : get_or (flags ++ b ∷ []) i false ≡ b = get_or_push flags b false i (size ∙ sym e) in
        rw (at, e) is
  ];
}

pub AreSumRows-grows : {old new : List Shape} {weights : List ℤ} {span : ValueRange} {nodes : List ℕ} → Grows old new → AreSumRows old weights span nodes → AreSumRows new weights span nodes
AreSumRows-grows grows are =
    record {
      rows =
          λ i h. IsSumRow-grows grows (are.rows i h);
    }

pub AreSumRows-push : {shapes : List Shape} {weights : List ℤ} {span : ValueRange} {nodes : List ℕ} {node : ℕ} (state : ℕ) → length nodes ≡ state → AreSumRows shapes weights span nodes
    → IsSumRow shapes weights span 0 ((span.low +ℤ pos state) +ℤ (span.low +ℤ pos state)) node → AreSumRows shapes weights span (nodes ++ node ∷ [])
AreSumRows-push {nodes} {node} state size are is = record {
  rows = λ i h. elim (cases_lt i (length nodes)) [
    | inl below ↦ rw (get_or_append_left nodes (node ∷ []) 0 i below) (are.rows i below)
    | inr past ↦
        let e : i ≡ state = grind (arith, common_steps, h, past, size) in
        let at : get_or (nodes ++ node ∷ []) i 0 ≡ node = get_or_push nodes node 0 i (size ∙ sym e) in
        rw (at, e) is
  ];
}

-- a row that was made for a number that is twice the state's value
pub IsSumRow-doubled : {shapes : List Shape} {weights : List ℤ} {span : ValueRange} (state : ℕ) {sum : ℤ} {node : ℕ} → IsNear 0 sum
    → sum ≡ (span.low +ℤ pos state) +ℤ (span.low +ℤ pos state) → IsSumRow shapes weights span 0 (to_z w32 (of_z w32 sum)) node
    → IsSumRow shapes weights span 0 ((span.low +ℤ pos state) +ℤ (span.low +ℤ pos state)) node
IsSumRow-doubled {shapes} {weights} {span} state {sum} {node} near same is = subst (λ s. IsSumRow shapes weights span 0 s node) (to_z-of_z w32 sum (SFits-near near) ∙ same) is

pub flag-is : (rel : Rel) (bound : ℤ) {span : ValueRange} (state : ℕ) (value : ℤ) (b : Bool) → IsSpan span → (span.low +ℤ pos state) ≤ℤ span.high → value ≡ span.low +ℤ pos state
    → IsTrue b ↔ Compares rel (to_z w32 (of_z w32 value)) bound → IsTrue b ↔ Compares rel (span.low +ℤ pos state) bound
flag-is rel bound {span} state value b is within same tells = subst (λ v. IsTrue b ↔ Compares rel v bound) (roundtrip value span state is within same) tells
  where
    roundtrip : (value : ℤ) (span : ValueRange) (state : ℕ) → IsSpan span → (span.low +ℤ pos state) ≤ℤ span.high
        → value ≡ span.low +ℤ pos state → to_z w32 (of_z w32 value) ≡ span.low +ℤ pos state
    roundtrip value span state is within same = let low = is.low in let high = is.high in omega (arith, ints, low, high, within, same)

pub SFits-small : (w : ℤ) → IsSmall w → SFits w32 w
SFits-small w small = let low = small.0 in let high = small.1 in omega (arith, ints, low, high)

-- one more weight of a sum
pub summed : (z r : ℤ) (m g : ℕ) → z ≡ pos m → r ≡ pos g → m ≤ 512 → g ≤ 64 → to_z w32 (of_z w32 (z +ℤ to_z w32 (of_z w32 r))) ≡ pos (m + g)
summed z r m g e f ms gs = omega (arith, ints, e, f, ms, gs)

-- the values lie around the bound, and beyond what letters can bring back
pub IsSpanOf-made : (weights : List ℤ) (bound low high : ℤ) → negsuc 999 ≤ℤ bound → bound ≤ℤ pos 1000 → sum_by gain weights ≤ 512 → sum_by loss weights ≤ 512
    → low ≡ int_min (bound -ℤ pos 1) (neg_ℤ (pos (sum_by gain weights))) → high ≡ int_max (bound +ℤ pos 1) (pos (sum_by loss weights))
    → IsSpanOf weights bound (record { low = low; high = high })
IsSpanOf-made weights bound low high b c g l e f = record {
  is_span = record { some = omega (arith, ints, clamps, b, c, g, l, e, f); low = omega (arith, ints, clamps, b, c, g, l, e); high = omega (arith, ints, clamps, b, c, g, l, f) };
  below = omega (arith, ints, clamps, e);
  above = omega (arith, ints, clamps, f);
  gains = omega (arith, ints, clamps, e);
  losses = omega (arith, ints, clamps, f);
  size = omega (arith, ints, clamps, e, f);
}

-- the same, as the code computes them
pub IsSpanOf-cast : (weights : List ℤ) (bound most least low high : ℤ) → SFits w32 bound → negsuc 999 ≤ℤ bound → bound ≤ℤ pos 1000 → sum_by gain weights ≤ 512
    → sum_by loss weights ≤ 512 → most ≡ pos (sum_by gain weights) → least ≡ pos (sum_by loss weights)
    → low ≡ int_min (to_z w32 (of_z w32 (to_z w32 (of_z w32 bound) -ℤ pos 1))) (to_z w32 (of_z w32 (pos 0 -ℤ to_z w32 (of_z w32 most))))
    → high ≡ int_max (to_z w32 (of_z w32 (to_z w32 (of_z w32 bound) +ℤ pos 1))) (to_z w32 (of_z w32 least))
    → IsSpanOf weights bound (record { low = to_z w32 (of_z w32 low); high = to_z w32 (of_z w32 high) })
IsSpanOf-cast weights bound most least low high fits b c g l m n e f =
    let e1 : to_z w32 (of_z w32 (to_z w32 (of_z w32 bound) -ℤ pos 1)) ≡ bound -ℤ pos 1 = omega (arith, ints, fits, b, c) in
    let e2 : to_z w32 (of_z w32 (pos 0 -ℤ to_z w32 (of_z w32 most))) ≡ neg_ℤ (pos (sum_by gain weights)) = omega (arith, ints, m, g) in
    let e3 : to_z w32 (of_z w32 (to_z w32 (of_z w32 bound) +ℤ pos 1)) ≡ bound +ℤ pos 1 = omega (arith, ints, fits, b, c) in
    let e4 : to_z w32 (of_z w32 least) ≡ pos (sum_by loss weights) = omega (arith, ints, n, l) in
    let low_is : low ≡ int_min (bound -ℤ pos 1) (neg_ℤ (pos (sum_by gain weights))) =
    e ∙ ap (λ z. int_min z (to_z w32 (of_z w32 (pos 0 -ℤ to_z w32 (of_z w32 most))))) e1 ∙ ap (λ z. int_min (bound -ℤ pos 1) z) e2 in
    let high_is : high ≡ int_max (bound +ℤ pos 1) (pos (sum_by loss weights)) = f ∙ ap (λ z. int_max z (to_z w32 (of_z w32 least))) e3 ∙ ap (λ z. int_max (bound +ℤ pos 1) z) e4 in
    IsSpanOf-made weights bound (to_z w32 (of_z w32 low)) (to_z w32 (of_z w32 high)) b c g l
    (same low (sum_by gain weights) bound b c g low_is ∙ low_is) (same-high high (sum_by loss weights) bound b c l high_is ∙ high_is)
  where
    same : (low : ℤ) (m : ℕ) (bound : ℤ) → negsuc 999 ≤ℤ bound → bound ≤ℤ pos 1000 → m ≤ 512
        → low ≡ int_min (bound -ℤ pos 1) (neg_ℤ (pos m)) → to_z w32 (of_z w32 low) ≡ low
    same low m bound b c g e = omega (arith, ints, clamps, b, c, g, e)

    same-high : (high : ℤ) (m : ℕ) (bound : ℤ) → negsuc 999 ≤ℤ bound → bound ≤ℤ pos 1000 → m ≤ 512
        → high ≡ int_max (bound +ℤ pos 1) (pos m) → to_z w32 (of_z w32 high) ≡ high
    same-high high m bound b c g e = omega (arith, ints, clamps, b, c, g, e)
