-- The values along a ray, without their last bits.
use Rattle.std.proofs.Common.{◌≡◌, ℕ, suc, ℤ, pos, ◌+ℤ◌, ◌*ℤ◌, ◌+◌, ◌*◌, ◌%◌, ◌^◌, ◌≤◌, Bool, true, false, cond, List, [], ◌∷◌, length, set, arith, refl, ap, ◌∙◌}
use Rattle.std.specs.Int.{int_shr}
use Rattle.std.proofs.lemmas.Int.{ints}
use Rattle.track_word.specs.Word.{integer_bit, letter_of, letters_below}
use Rattle.track_word.proofs.Spelling.{integer_bit-lt}
use Rattle.auto_core.proofs.Prefixes.{int_shr-none}
use Rattle.auto_search.specs.declared.axis.Axis.{Axis}
use Rattle.auto_search.specs.declared.ray.TrackRay.{TrackRay}
use Rattle.auto_search.specs.declared.tuple_ray.TupleRay.{TupleRay}
use Rattle.auto_search.specs.TupleRay.{IsTupleRay, IsSlope, tuple_at}
use Rattle.auto_search.specs.Bits.{number, sum_at, carry, letter_at, letters, fall, rise, IsAxis, IsRay}
use Rattle.auto_search.proofs.Sums.{added, int_shr-suc, each_slope, times-double, times-add, carry-step, letter_of-set2}

-- the value at so many steps from the near end
abbrev pub along : Axis → ℤ → ℕ → ℤ
along axis d t = axis.base +ℤ (pos t *ℤ d)

-- a distance whose last bits are these, and whose first bits are a number
abbrev pub whole : ℕ → List Bool → ℕ
whole hi bits = hi * 2 ^ length bits + number bits

abbrev pub bit_number : Bool → ℕ
bit_number bit = cond bit 1 0

whole-cons : (hi : ℕ) (bit : Bool) (bits : List Bool) → whole hi (bit ∷ bits) ≡ whole (2 * hi + bit_number bit) bits
whole-cons hi true bits = let p : 2 ^ suc (length bits) ≡ 2 * 2 ^ length bits = omega arith in rw p (omega arith)
whole-cons hi false bits = let p : 2 ^ suc (length bits) ≡ 2 * 2 ^ length bits = omega arith in rw p (omega arith)

pub added-is : (axis : Axis) (d : ℤ) (bit : Bool) → IsSlope d → axis.zero ≡ fall d → axis.one ≡ rise d → pos (added axis bit) ≡ pos axis.zero +ℤ (pos (bit_number bit) *ℤ d)
added-is axis d true is z o = rw (z, o) (each_slope (λ d. pos (rise d) ≡ pos (fall d) +ℤ (pos 1 *ℤ d)) refl refl refl refl refl d is)
added-is axis d false is z o = rw z (each_slope (λ d. pos (fall d) ≡ pos (fall d) +ℤ (pos 0 *ℤ d)) refl refl refl refl refl d is)

pub none-times : (d : ℤ) → IsSlope d → pos 0 *ℤ d ≡ pos 0
none-times d is = each_slope (λ d. pos 0 *ℤ d ≡ pos 0) refl refl refl refl refl d is

module _ (axis : Axis) (d : ℤ) (is : IsSlope d) (falls : axis.zero ≡ fall d) (rises : axis.one ≡ rise d) where
  abbrev Carried : List Bool → ℕ → Type 0
  Carried bits hi = int_shr (along axis d (whole hi bits)) (length bits) +ℤ pos axis.zero ≡ int_shr axis.base (length bits) +ℤ (pos hi *ℤ d) +ℤ pos (carry axis bits)

  more : (bit : Bool) (bits : List Bool) (hi : ℕ) → Carried bits (2 * hi + bit_number bit)
      → Carried (bit ∷ bits) hi × (sum_at axis (length bits) (carry axis bits) bit % 2 ≡ integer_bit (along axis d (whole hi (bit ∷ bits))) (length bits))
  more bit bits hi before =
      let x = along axis d (whole hi (bit ∷ bits)) in
      let p = length bits in
      let same = ap (λ t. int_shr (along axis d t) p +ℤ pos axis.zero) (whole-cons hi bit bits) in
      carry-step (int_shr x (suc p)) (int_shr x p) (int_shr axis.base (suc p)) (int_shr axis.base p) (pos hi *ℤ d) (pos (2 * hi + bit_number bit) *ℤ d) (pos (bit_number bit) *ℤ d)
      (carry axis bits) (integer_bit axis.base p) (added axis bit) (integer_bit x p) axis.zero
      (same ∙ before) (int_shr-suc axis.base p) (int_shr-suc x p) (integer_bit-lt x p) (times-double d is hi (bit_number bit)) (added-is axis d bit is falls rises)

  pub carried : (bits : List Bool) (hi : ℕ) → Carried bits hi
  carried [] hi =
      let t : whole hi [] ≡ hi = omega arith in
      rw (int_shr-none (along axis d (whole hi [])), int_shr-none axis.base, t)
      (let h : axis.base +ℤ (pos hi *ℤ d) +ℤ pos axis.zero ≡ axis.base +ℤ (pos hi *ℤ d) +ℤ pos axis.zero = refl in h)
  carried (bit ∷ bits) hi = (more bit bits hi (carried bits (2 * hi + bit_number bit))).0

  -- the bit of a place
  pub sum-bit : (bit : Bool) (bits : List Bool) (hi : ℕ) → sum_at axis (length bits) (carry axis bits) bit % 2 ≡ integer_bit (along axis d (whole hi (bit ∷ bits))) (length bits)
  sum-bit bit bits hi = (more bit bits hi (carried bits (2 * hi + bit_number bit))).1

-- the value of a track after the near end's steps and more
pub along-is : {value d : ℤ} {near track : ℕ} (t : ℕ) {axis : Axis} → IsSlope d → IsAxis value d near track axis → value +ℤ (pos (near + t) *ℤ d) ≡ along axis d t
along-is {value} {d} {near} t slope is =
    let m = times-add d slope near t in
    let b = is.base in
    rw (b, m) (regroup value (pos near *ℤ d) (pos t *ℤ d))
  where
    regroup : (v m n : ℤ) → v +ℤ (m +ℤ n) ≡ v +ℤ m +ℤ n
    regroup v m n = omega (arith, ints)

module _ (way : TupleRay) (near : ℕ) {steps : ℕ} (ray : TrackRay) (is_tuple_ray : IsTupleRay way) (is : IsRay way near steps ray) where
  -- the letter at sums whose bits are those of two values
  pub letter-is : (place sx sy : ℕ) (x y : ℤ) → place ≤ ray.top → sx % 2 ≡ integer_bit x place → sy % 2 ≡ integer_bit y place
      → letter_at ray place sx sy ≡ letter_of (set (set way.fixed.now way.x_track x) way.y_track y) place
  letter-is place sx sy x y small hx hy =
      let still = is.still place small in
      let both = letter_of-set2 way.fixed.now way.x_track way.y_track place x y is_tuple_ray.x_track is_tuple_ray.y_track is_tuple_ray.apart in
      rw (hx, hy, is.x.unit, is.y.unit) (omega (arith, still, both))

  pub tuple-is : (t : ℕ) → tuple_at way (near + t) ≡ set (set way.fixed.now way.x_track (along ray.x way.dx t)) way.y_track (along ray.y way.dy t)
  tuple-is t =
      let ex = along-is t is_tuple_ray.dx is.x in
      let ey = along-is t is_tuple_ray.dy is.y in
      rw (ex, ey) refl

  -- the last letters of the tuple at a distance
  pub letters-are : (bits : List Bool) (hi : ℕ) → length bits ≤ ray.top
      → letters ray bits ≡ letters_below
      (set (set way.fixed.now way.x_track (along ray.x way.dx (whole hi bits))) way.y_track (along ray.y way.dy (whole hi bits))) (length bits)
  letters-are [] hi small = refl
  letters-are (bit ∷ bits) hi small =
      let first =
      letter-is (length bits) (sum_at ray.x (length bits) (carry ray.x bits) bit) (sum_at ray.y (length bits) (carry ray.y bits) bit)
      (along ray.x way.dx (whole hi (bit ∷ bits))) (along ray.y way.dy (whole hi (bit ∷ bits))) (omega (arith, small))
      (sum-bit ray.x way.dx is_tuple_ray.dx is.x.zero is.x.one bit bits hi) (sum-bit ray.y way.dy is_tuple_ray.dy is.y.zero is.y.one bit bits hi) in
      let others = letters-are bits (2 * hi + bit_number bit) (omega (arith, small)) in
      let same = whole-cons hi bit bits in
      let others' = rw (← same) at others in
      rw (first, others') refl
