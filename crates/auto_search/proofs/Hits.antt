-- Bits that complete the front before all bits, and distances whose tuple is in the set.
use Rattle.std.proofs.Common.{◌≡◌, ℕ, zero, suc, ℤ, pos, negsuc, neg_ℤ, ◌+ℤ◌, ◌*ℤ◌, ◌+◌, ◌-◌, ◌*◌, ◌/◌, ◌%◌, ◌^◌, ◌<◌, ◌≤◌, Bool, true, false, cond, nat_eq, List, [], ◌∷◌, length, All, get_or, set, Option, Some, None, option_map, unsigned_abs, arith, inl, inr, refl, sym, ap, ◌∙◌, subst}
use Rattle.std.specs.Int.{int_shr}
use Rattle.std.proofs.lemmas.Bool.{cases_eq, cases_lt}
use Rattle.std.proofs.lemmas.Bool.Decides.{nat_tests}
use Rattle.std.proofs.lemmas.Int.{ints}
use Rattle.std.proofs.lemmas.List.{length-set, get_or-set_same, get_or-set_other}
use Rattle.std.proofs.lemmas.Nat.{pow_pos}
use Rattle.std.proofs.lemmas.Nat.Bits.{bit_at-zero, bit_at-pow_same}
use Rattle.std.proofs.lemmas.Option.{option_and_then_some}
use Rattle.std.proofs.Math.Nat.{div-eq_of_lt, lt-div-mul-add}
use Rattle.track_word.specs.Word.{integer_bit, letter_of, letters_below, spelled, FitsBelow, BitsSpell, RepeatKeepsValues, EqualValuesEqualWords}
use Rattle.track_word.proofs.Spelling.{integer_bit-lt, letter-lt}
use Rattle.auto_core.specs.Automaton.{Automaton, IsAutomaton, Accepts, width, first_state}
use Rattle.auto_core.specs.Integers.{DecidesIntegers}
use Rattle.auto_core.proofs.Members.{accepted-spelled}
use Rattle.auto_search.specs.declared.axis.Axis.{Axis}
use Rattle.auto_search.specs.declared.ray.TrackRay.{TrackRay}
use Rattle.auto_search.specs.declared.tuple_ray.TupleRay.{TupleRay}
use Rattle.auto_search.specs.TupleRay.{IsTupleRay, IsSlope, tuple_at, IsHit, IsLeastFound}
use Rattle.auto_search.specs.Bits.{number, carry, letter_at, letters, slot_of, fall, rise, IsAxis, IsRay}
use Rattle.auto_search.specs.Search.{Suits, Leads, Completes, IsDead, IsLeastAhead, sign_of, started, IsStart}
use Rattle.auto_search.proofs.Sums.{each_slope, carry-le}
use Rattle.auto_search.proofs.Fronts.{option_map-some, slot-parts, pow_le}
use Rattle.auto_search.proofs.Carries.{along, whole, carried, none-times, letter-is, tuple-is, letters-are}

-- the bits of a number
pub bits-for : (place v : ℕ) → v < 2 ^ place → (bits : List Bool) × (length bits ≡ place) × (number bits ≡ v)
bits-for zero v h = ([], refl, omega (arith, h))
bits-for (suc place) v h =
    let e : 2 ^ suc place ≡ 2 * 2 ^ place = omega arith in
    elim (cases_lt v (2 ^ place)) [
      | inl below ↦ let r = bits-for place v below in (false ∷ r.0, ap suc r.1, (let s = r.2 in omega (arith, s)))
      | inr past ↦
          let r = bits-for place (v - 2 ^ place) (omega (arith, h, e, past)) in
          let p = ap (λ k. 2 ^ k) r.1 in
          (true ∷ r.0, ap suc r.1, (let s = r.2 in omega (arith, s, p, past)))
    ]

-- a value without the bits below a place past them is its sign
pub fits-sign : (z : ℤ) (place : ℕ) → FitsBelow place z → int_shr z place ≡ neg_ℤ (pos (integer_bit z place))
fits-sign (pos n) place fits = let q : n / 2 ^ place ≡ 0 = div-eq_of_lt fits in rw q refl
fits-sign (negsuc n) place fits = let q : n / 2 ^ place ≡ 0 = div-eq_of_lt fits in rw q refl

below-power : (n place : ℕ) → n / 2 ^ place ≡ 0 → n < 2 ^ place
below-power n place q = let h = lt-div-mul-add {a = n} {b = 2 ^ place} (pow_pos place) in let h' = rw q at h in omega (arith, h')

sign-fits : (z : ℤ) (place s : ℕ) → s < 2 → int_shr z place ≡ neg_ℤ (pos s) → FitsBelow place z × (integer_bit z place ≡ s)
sign-fits (pos n) place s small e =
    let q : n / 2 ^ place ≡ 0 = omega (arith, ints, e) in
    let o : s ≡ 0 = omega (arith, ints, e) in
    (below-power n place q, rw (q, o) refl)
sign-fits (negsuc n) place s small e =
    let q : n / 2 ^ place ≡ 0 = omega (arith, ints, e, small) in
    let o : s ≡ 1 = omega (arith, ints, e, small) in
    (below-power n place q, rw (q, o) refl)

pub fits-abs : (z : ℤ) (place : ℕ) → unsigned_abs z < 2 ^ place → FitsBelow place z
fits-abs (pos n) place h = h
fits-abs (negsuc n) place h = omega (arith, h)

pub fits-past : (z : ℤ) (p q : ℕ) → p ≤ q → FitsBelow p z → FitsBelow q z
fits-past (pos n) p q h fits = let w = pow_le p q h in omega (arith, w, fits)
fits-past (negsuc n) p q h fits = let w = pow_le p q h in omega (arith, w, fits)

pub choice : ℕ → ℕ → Option ℕ
choice c start = cond (nat_eq c start) (Some 0) (cond (nat_eq (c + 1) start) (Some 1) None)

choice-some : (c start s : ℕ) → choice c start ≡ Some s → (s < 2) × (c + s ≡ start)
unfolding choice
choice-some c start s e = grind (arith, nat_tests, e)

pub choice-is : (c start s : ℕ) → s < 2 → c + s ≡ start → choice c start ≡ Some s
unfolding choice
choice-is c start s small e = grind (arith, nat_tests, e)

pub sign-choice : (axis : Axis) (place c : ℕ) → sign_of axis place c ≡ choice c (axis.zero + integer_bit axis.base place)
unfolding choice
sign-choice axis place c = refl

-- the sign bit for what all bits carry over
module _ (value d : ℤ) (near track place : ℕ) (axis : Axis) (slope : IsSlope d) (is : IsAxis value d near track axis)
    (short : FitsBelow place axis.base) (bits : List Bool) (size : length bits ≡ place) where
  top : int_shr (along axis d (number bits)) place +ℤ pos (axis.zero + integer_bit axis.base place) ≡ pos (carry axis bits)
  top =
      let c = carried axis d slope is.zero is.one bits 0 in
      let t : whole 0 bits ≡ number bits = omega arith in
      let c' = rw (t, size, none-times d slope, fits-sign axis.base place short) at c in
      omega (arith, ints, c')

  pub sign-to : (s : ℕ) → sign_of axis place (carry axis bits) ≡ Some s → FitsBelow place (along axis d (number bits)) × (integer_bit (along axis d (number bits)) place ≡ s)
  sign-to s e =
      let h = choice-some (carry axis bits) (axis.zero + integer_bit axis.base place) s (sym (sign-choice axis place (carry axis bits)) ∙ e) in
      let t = top in
      let sum = h.1 in
      sign-fits (along axis d (number bits)) place s h.0 (omega (arith, ints, t, sum))

  pub sign-from : FitsBelow place (along axis d (number bits)) → sign_of axis place (carry axis bits) ≡ Some (integer_bit (along axis d (number bits)) place)
  sign-from fits =
      let t = top in
      let sign = fits-sign (along axis d (number bits)) place fits in
      let b = integer_bit-lt (along axis d (number bits)) place in
      sign-choice axis place (carry axis bits)
      ∙ choice-is (carry axis bits) (axis.zero + integer_bit axis.base place) (integer_bit (along axis d (number bits)) place) b (omega (arith, ints, t, sign))

-- a value does not get longer within the steps that there is room for
along-fits : (d : ℤ) (axis : Axis) (v steps place : ℕ) → IsSlope d → unsigned_abs axis.base + 2 * steps < 2 ^ place → v ≤ steps → FitsBelow place (along axis d v)
along-fits d axis v steps place slope b small =
    fits-abs (along axis d v) place (each_slope (λ d. unsigned_abs (axis.base +ℤ (pos v *ℤ d)) < 2 ^ place)
    (omega (arith, ints, b, small)) (omega (arith, ints, b, small)) (omega (arith, ints, b, small)) (omega (arith, ints, b, small)) (omega (arith, ints, b, small)) d slope)

-- small values fit
pub all-small : (values : List ℤ) (n place : ℕ) → All (λ value. unsigned_abs value ≤ n) values → n < 2 ^ place → All (FitsBelow place) values
all-small values n place small h = λ k d inside. fits-abs (get_or values k d) place (let b = small k d inside in omega (arith, b, h))

pub base-fits : (axis : Axis) (steps place : ℕ) → unsigned_abs axis.base + 2 * steps < 2 ^ place → FitsBelow place axis.base
base-fits axis steps place b = fits-abs axis.base place (omega (arith, b))

pub all-fit : (values : List ℤ) (i j place : ℕ) (x y : ℤ) → All (FitsBelow place) values → FitsBelow place x → FitsBelow place y → All (FitsBelow place) (set (set values i x) j y)
all-fit values i j place x y all fx fy k d h =
    at k (rw (length-set, length-set) at h)
  where
    at : (k : ℕ) → k < length values → FitsBelow place (get_or (set (set values i x) j y) k d)
    at k h = elim (cases_eq k j) [
      | inl same ↦ rw (same, get_or-set_same (set values i x) j y d (rw length-set (rw (← same) h))) fy
      | inr other ↦ rw (get_or-set_other (set values i x) j k y d other) (elim (cases_eq k i) [
        | inl same ↦ rw (same, get_or-set_same values i x d (rw (← same) h)) fx
        | inr apart ↦ rw (get_or-set_other values i k x d apart) (all k d h)
      ])
    ]

module _ (a : Automaton) (valid : IsAutomaton a) (decides : DecidesIntegers a) (spell : BitsSpell) (keeps : RepeatKeepsValues) (equal : EqualValuesEqualWords)
    (way : TupleRay) (near : ℕ) {steps : ℕ} (ray : TrackRay) (is_tuple_ray : IsTupleRay way) (is : IsRay way near steps ray) (count : length way.fixed.now ≡ length a.tracks) where
  -- the letters of the ray are those of the automaton
  pub suits : Suits a ray
  suits = record {
    x_small = small way.dx is_tuple_ray.dx ray.x is.x.zero is.x.one;
    y_small = small way.dy is_tuple_ray.dy ray.y is.y.zero is.y.one;
    narrow = λ place sx sy h. narrow place sx sy h;
    few = let h = valid.few_tracks in pow_le (length a.tracks) 20 h;
    few_places = is.few_places;
  }
    where
      small : (d : ℤ) → IsSlope d → (axis : Axis) → axis.zero ≡ fall d → axis.one ≡ rise d → axis.zero + axis.one ≤ 2
      small d slope axis z o = rw (z, o) (each_slope (λ d. fall d + rise d ≤ 2) (omega arith) (omega arith) (omega arith) (omega arith) (omega arith) d slope)

      bit-at : (b place : ℕ) → b % 2 ≡ integer_bit (pos (b % 2 * 2 ^ place)) place
      bit-at b place = elim (cases_eq (b % 2) 0) [
        | inl e ↦ rw e (let z : 0 * 2 ^ place ≡ 0 = omega arith in rw z (sym (bit_at-zero place)))
        | inr ne ↦ let o : b % 2 ≡ 1 = omega (arith, ne) in rw o (let z : 1 * 2 ^ place ≡ 2 ^ place = omega arith in rw z (sym (bit_at-pow_same place)))
      ]

      narrow : (place sx sy : ℕ) → place ≤ ray.top → letter_at ray place sx sy < width a
      narrow place sx sy h =
          let x = pos (sx % 2 * 2 ^ place) in
          let y = pos (sy % 2 * 2 ^ place) in
          let e = letter-is way near ray is_tuple_ray is place sx sy x y h (bit-at sx place) (bit-at sy place) in
          let l = letter-lt (set (set way.fixed.now way.x_track x) way.y_track y) place in
          let s : length (set (set way.fixed.now way.x_track x) way.y_track y) ≡ length a.tracks =
          length-set (set way.fixed.now way.x_track x) way.y_track y ∙ length-set way.fixed.now way.x_track x ∙ count in
          rw e (subst (λ n. letter_of (set (set way.fixed.now way.x_track x) way.y_track y) place < 2 ^ n) s l)

  module _ (front : List (Option ℕ)) (start : IsStart a ray front) (bits : List Bool) (size : length bits ≡ ray.top) where
    x-value : ℤ
    x-value = along ray.x way.dx (number bits)

    y-value : ℤ
    y-value = along ray.y way.dy (number bits)

    tuple : List ℤ
    tuple = set (set way.fixed.now way.x_track x-value) way.y_track y-value

    first-is : get_or front (slot_of ray bits) None ≡ started a ray (carry ray.x bits) (carry ray.y bits)
    first-is =
        let s = suits in
        let hx = carry-le ray.x bits in
        let hy = carry-le ray.y bits in
        let sx = s.x_small in
        let sy = s.y_small in
        let parts = slot-parts (carry ray.x bits) (carry ray.y bits) (omega (arith, hy, sy)) in
        rw (parts.0, parts.1) at (start.at (slot_of ray bits) (omega (arith, hx, hy, sx, sy)))

    letters-here : letters ray bits ≡ letters_below tuple (length bits)
    unfolding tuple x-value y-value
    letters-here =
        let t : whole 0 bits ≡ number bits = omega arith in
        rw t at (letters-are way near ray is_tuple_ray is bits 0 (omega (arith, size)))

    top-letter : letter_at ray ray.top (integer_bit x-value ray.top) (integer_bit y-value ray.top) ≡ letter_of tuple (length bits)
    unfolding tuple
    top-letter =
        rw size (letter-is way near ray is_tuple_ray is ray.top (integer_bit x-value ray.top) (integer_bit y-value ray.top) x-value y-value (omega arith)
        (let h = integer_bit-lt x-value ray.top in omega (arith, h)) (let h = integer_bit-lt y-value ray.top in omega (arith, h)))

    fit : FitsBelow ray.top x-value → FitsBelow ray.top y-value → All (FitsBelow (length bits)) tuple
    unfolding tuple
    fit fx fy = rw size (all-fit way.fixed.now way.x_track way.y_track ray.top x-value y-value is.fits fx fy)

    sized : length tuple ≡ length a.tracks
    unfolding tuple
    sized = length-set (set way.fixed.now way.x_track x-value) way.y_track y-value ∙ length-set way.fixed.now way.x_track x-value ∙ count

    is-tuple : tuple_at way (near + number bits) ≡ tuple
    unfolding tuple x-value y-value
    is-tuple = tuple-is way near ray is_tuple_ray is (number bits)

    -- the state after the sign letter, and what it leads to
    leads-is : (state : ℕ) → state ≡ first_state a (letter_of tuple (length bits)) → Leads a ray state bits ≡ Accepts a (spelled tuple (length bits))
    leads-is state e = rw (e, letters-here) refl

    pub hit-from : Completes a ray front bits → IsHit a way (near + number bits)
    unfolding x-value y-value
    hit-from done =
        let f =
        option_and_then_some
        (λ (sx : ℕ). option_map (λ (sy : ℕ). first_state a (letter_at ray ray.top sx sy)) (sign_of ray.y ray.top (carry ray.y bits)))
        (sign_of ray.x ray.top (carry ray.x bits)) done.state (sym first-is ∙ done.found) in
        f (λ sx ex e.
        let some = option_map-some (λ (sy : ℕ). first_state a (letter_at ray ray.top sx sy)) (sign_of ray.y ray.top (carry ray.y bits)) done.state e in
        let x = sign-to (get_or way.fixed.now way.x_track (pos 0)) way.dx near way.x_track ray.top ray.x is_tuple_ray.dx is.x (base-fits ray.x steps ray.top is.x_fits) bits size sx ex in
        let y = sign-to (get_or way.fixed.now way.y_track (pos 0)) way.dy near way.y_track ray.top ray.y is_tuple_ray.dy is.y (base-fits ray.y steps ray.top is.y_fits) bits size some.0 some.1 in
        let state : done.state ≡ first_state a (letter_of tuple (length bits)) =
        sym some.2
        ∙ ap (first_state a)
        (ap (λ s. letter_at ray ray.top s some.0) (sym x.1) ∙ ap (λ s. letter_at ray ray.top (integer_bit x-value ray.top) s) (sym y.1)
        ∙ top-letter) in
        let accepted = subst (λ (T : Type 0). T) (leads-is done.state state) done.leads in
        rw is-tuple ((accepted-spelled a tuple (length bits) valid sized decides (fit x.0 y.0) spell keeps equal).0 accepted))

    pub hit-to : number bits ≤ steps → IsHit a way (near + number bits) → Completes a ray front bits
    unfolding x-value y-value
    hit-to small hit =
        let fx = along-fits way.dx ray.x (number bits) steps ray.top is_tuple_ray.dx is.x_fits small in
        let fy = along-fits way.dy ray.y (number bits) steps ray.top is_tuple_ray.dy is.y_fits small in
        let x = sign-from (get_or way.fixed.now way.x_track (pos 0)) way.dx near way.x_track ray.top ray.x is_tuple_ray.dx is.x (base-fits ray.x steps ray.top is.x_fits) bits size fx in
        let y = sign-from (get_or way.fixed.now way.y_track (pos 0)) way.dy near way.y_track ray.top ray.y is_tuple_ray.dy is.y (base-fits ray.y steps ray.top is.y_fits) bits size fy in
        let state = first_state a (letter_of tuple (length bits)) in
        let found : started a ray (carry ray.x bits) (carry ray.y bits) ≡ Some state = rw (x, y) (ap (λ l. Some (first_state a l)) top-letter) in
        let accepted = (accepted-spelled a tuple (length bits) valid sized decides (fit fx fy) spell keeps equal).1 (rw is-tuple at hit) in
        record { state = state; found = first-is ∙ found; leads = subst (λ (T : Type 0). T) (sym (leads-is state refl)) accepted }

-- the least distance is the least number ahead
module _ (a : Automaton) (valid : IsAutomaton a) (decides : DecidesIntegers a) (spell : BitsSpell) (keeps : RepeatKeepsValues) (equal : EqualValuesEqualWords)
    (way : TupleRay) (near far : ℕ) (ray : TrackRay) (is_tuple_ray : IsTupleRay way) (is : IsRay way near (far - near) ray) (count : length way.fixed.now ≡ length a.tracks)
    (front : List (Option ℕ)) (start : IsStart a ray front) (order : near ≤ far) where
  -- the bits of a distance that is met
  met : (t : ℕ) → near ≤ t → t ≤ far → IsHit a way t → (bits : List Bool) × (length bits ≡ ray.top) × (number bits ≡ t - near) × Completes a ray front bits
  met t from to hit =
      let short = is.x_fits in
      let b = bits-for ray.top (t - near) (omega (arith, from, to, short)) in
      let n = b.2 in
      let same : near + number b.0 ≡ t = omega (arith, n, from) in
      (b.0, b.1, n, hit-to a valid decides spell keeps equal way near ray is_tuple_ray is count front start b.0 b.1 (omega (arith, n, to)) (rw same hit))

  pub none-found : IsDead a ray ray.top front → IsLeastFound a way near far None
  none-found dead = λ t from to hit.
      let m = met t from to hit in
      dead.none m.0 m.1 m.3

  pub too-far : (ahead : ℕ) → far - near < ahead → IsLeastAhead a ray ray.top front ahead → IsLeastFound a way near far None
  too-far ahead past found = λ t from to hit.
      let m = met t from to hit in
      let l = found.least m.0 m.1 m.3 in
      let n = m.2 in
      omega (arith, l, n, past, to, from)

  pub one-found : (ahead : ℕ) → ahead ≤ far - near → IsLeastAhead a ray ray.top front ahead → IsLeastFound a way near far (Some (near + ahead))
  one-found ahead within found = record {
    from = omega arith;
    to = omega (arith, within, order);
    hit =
        let i = found.is in
        let h = hit-from a valid decides spell keeps equal way near ray is_tuple_ray is count front start found.bits found.size found.completes in
        rw (ap (λ n. near + n) i) at h;
    least = λ u from hit. elim (cases_lt u (near + ahead)) [
      | inl below ↦
          let m = met u from (omega (arith, below, within, order)) hit in
          let l = found.least m.0 m.1 m.3 in
          let n = m.2 in
          omega (arith, l, n, below, from)
      | inr above ↦ above
    ];
  }
