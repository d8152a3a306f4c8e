-- What comparing lists of flags says.
use Rattle.std.proofs.Common.{◌≡◌, Bool, true, false, refl, sym, ap, ◌∙◌, List, not, true≢false}
use Rattle.std.specs.Cmp.Lexicographic.{pointwise}
use Rattle.std.proofs.lemmas.Slice.Eq.{slice_eq-Decides}
use Rattle.std.specs.Cmp.{booleans_Decides}
use mathlib.Core.Bool.{beq}

-- what `!=` says of two lists of flags
pub flags_differ : (xs ys : List Bool) (r : Bool) → r ≡ not (pointwise beq xs ys) → r ≡ true → xs ≡ ys → ⊥
flags_differ xs ys r is set same =
    let equal = (slice_eq-Decides booleans_Decides xs ys (pointwise beq xs ys) refl).1 same in
    true≢false (sym set ∙ is ∙ ap not equal)

pub flags_agree : (xs ys : List Bool) (r : Bool) → r ≡ not (pointwise beq xs ys) → r ≡ false → xs ≡ ys
flags_agree xs ys r is unset =
    (slice_eq-Decides booleans_Decides xs ys (pointwise beq xs ys) refl).0 (turned (pointwise beq xs ys) (sym is ∙ unset))
  where
    turned : (b : Bool) → not b ≡ false → b ≡ true
    turned true e = refl
    turned false e = absurd (true≢false e)
