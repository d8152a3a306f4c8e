use Rattle.std.proofs.Common.{arith, ◌≡◌, ◌<◌, ◌^◌, ℕ, ℤ, pos, ◌+ℤ◌, ◌*ℤ◌, w64, to_z, of_z, subst}
use Rattle.std.proofs.lemmas.Int.{ints, to_z-of_z}
use Rattle.std.specs.Int.{int_shr, w128}
use lib.Signed.{mag_shr}
use mir.Val.{SFits}
use Rattle.auto_core.specs.Prefix.{IsPrefixState}
use Rattle.auto_core.proofs.value.state_after_bit.Goals as goal

casts : (s : ℤ) (bit : ℕ) → SFits w64 s → bit < 2
    → to_z w128 (of_z w128 (to_z w128 (of_z w128 (pos 2 *ℤ to_z w128 (of_z w128 (to_z w64 (of_z w64 s))))) +ℤ to_z w128 bit)) ≡ s +ℤ s +ℤ pos bit
casts s bit fits below = omega (arith, ints)

shifted : (z : ℤ) (k : ℕ) → SFits w64 z → SFits w64 (int_shr z k)
shifted z k fits = record { sfits = let m = mag_shr z (2 ^ k) in let f = fits.sfits in omega (arith, m, f) }

read : (value : ℤ) (left bit : ℕ) {state : ℕ} → SFits w64 value → bit < 2
    → IsPrefixState (to_z w64 (of_z w64 value))
    (to_z w128
    (of_z w128
    (to_z w128 (of_z w128 (pos 2 *ℤ to_z w128 (of_z w128 (to_z w64 (of_z w64 (int_shr (to_z w64 (of_z w64 value)) left)))))) +ℤ to_z w128
    bit)))
    state
    → IsPrefixState value (int_shr value left +ℤ int_shr value left +ℤ pos bit) state
read value left bit {state} fits below h =
    let same = to_z-of_z w64 value fits in
    let h' = rw same at h in
    subst (λ r. IsPrefixState value r state) (casts (int_shr value left) bit (shifted value left fits) below) h'

pub returns : goal.returns
returns c = read c.args.value c.args.left c.args.bit c.ranges.value c.requires.bit c.state_after.ensures
