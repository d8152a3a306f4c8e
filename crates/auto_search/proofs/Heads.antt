-- The states that the first bits of a distance lead to.
use Rattle.std.proofs.Common.{◌≡◌, ◌↔◌, ℕ, zero, suc, ℤ, pos, negsuc, ◌+ℤ◌, ◌*ℤ◌, ◌+◌, ◌*◌, ◌/◌, ◌%◌, ◌^◌, ◌<◌, ◌≤◌, Bool, true, false, cond, List, [], ◌∷◌, ◌++◌, length, All, get_or, set, Some, option_map, IsTrue, unsigned_abs, arith, refl, sym, ap, ◌∙◌, subst}
use Rattle.std.specs.Int.{int_shr}
use Rattle.std.proofs.lemmas.Int.{ints}
use Rattle.std.proofs.lemmas.List.{length-set, length-append}
use Rattle.std.proofs.lemmas.Nat.{pow-add}
use Rattle.std.proofs.Math.Nat.{div-eq_of_lt, mul-le-mul_left}
use Rattle.track_word.specs.Word.{integer_bit, letter_of, letters_below, spelled, FitsBelow, BitsSpell, RepeatKeepsValues, EqualValuesEqualWords}
use Rattle.track_word.proofs.Spelling.{integer_bit-lt}
use Rattle.auto_core.specs.Automaton.{Automaton, IsAutomaton, Accepts, first_state, next_state, run, state_of, is_final}
use Rattle.auto_core.specs.Integers.{DecidesIntegers, IsAccepted}
use Rattle.auto_core.proofs.Members.{accepted-spelled}
use Rattle.auto_search.specs.declared.axis.Axis.{Axis}
use Rattle.auto_search.specs.declared.ray.TrackRay.{TrackRay}
use Rattle.auto_search.specs.declared.tuple_ray.TupleRay.{TupleRay}
use Rattle.auto_search.specs.TupleRay.{IsTupleRay, IsSlope, tuple_at, IsHit}
use Rattle.auto_search.specs.Bits.{number, sum_at, carry, letter_at, IsAxis, IsRay}
use Rattle.auto_search.specs.Search.{Leads, sign_of}
use Rattle.auto_search.specs.Heads.{head_number, read, zeros, headed}
use Rattle.auto_search.proofs.Sums.{added, int_shr-suc, each_slope, times-double, carry-step, letter_of-set2}
use Rattle.auto_search.proofs.Fronts.{pow_le, number-lt}
use Rattle.auto_search.proofs.Carries.{along, whole, carried, bit_number, added-is, none-times, tuple-is, letters-are}
use Rattle.auto_search.proofs.Hits.{choice-is, sign-choice, fits-sign, fits-abs, fits-past, base-fits, all-fit}

-- past its top a value has its sign alone
high-bit : (z : ℤ) (p q : ℕ) → p ≤ q → FitsBelow p z → integer_bit z q ≡ integer_bit z p
high-bit (pos n) p q h fits =
    let w = pow_le p q h in
    let e : n / 2 ^ p ≡ 0 = div-eq_of_lt fits in
    let f : n / 2 ^ q ≡ 0 = div-eq_of_lt (omega (arith, w, fits)) in
    rw (e, f) refl
high-bit (negsuc n) p q h fits =
    let w = pow_le p q h in
    let e : n / 2 ^ p ≡ 0 = div-eq_of_lt fits in
    let f : n / 2 ^ q ≡ 0 = div-eq_of_lt (omega (arith, w, fits)) in
    rw (e, f) refl

high-letter : (values : List ℤ) (p q : ℕ) → p ≤ q → All (FitsBelow p) values → letter_of values q ≡ letter_of values p
high-letter [] p q h fits = refl
high-letter (v ∷ values) p q h fits =
    let b = high-bit v p q h (fits 0 (pos 0) (omega arith)) in
    let r = high-letter values p q h (λ i d k. fits (suc i) d (omega (arith, k))) in
    rw (b, r) refl

-- the state after the sign letter and the letters down to a place
pub down : Automaton → List ℤ → ℕ → ℕ → ℕ
down a tuple place zero = first_state a (letter_of tuple place)
down a tuple place (suc n) = next_state a (down a tuple (suc place) n) (letter_of tuple place)

down-run : (a : Automaton) (tuple : List ℤ) (place n : ℕ) → run a (down a tuple place n) (letters_below tuple place) ≡ state_of a (spelled tuple (place + n))
unfolding down
down-run a tuple place zero = (let e : place ≡ place + 0 = omega arith in ap (λ k. state_of a (spelled tuple k)) e)
down-run a tuple place (suc n) = down-run a tuple (suc place) n ∙ (let e : suc place + n ≡ place + suc n = omega arith in ap (λ k. state_of a (spelled tuple k)) e)

module _ (a : Automaton) (way : TupleRay) (near : ℕ) {steps : ℕ} (ray : TrackRay) (is_tuple_ray : IsTupleRay way) (is : IsRay way near steps ray) (x y : ℤ) where
  pub changed : List ℤ
  changed = set (set way.fixed.now way.x_track x) way.y_track y

  letter-high : (place sx sy : ℕ) → ray.top ≤ place → sx % 2 ≡ integer_bit x place → sy % 2 ≡ integer_bit y place → letter_at ray ray.top sx sy ≡ letter_of changed place
  unfolding changed
  letter-high place sx sy high hx hy =
      let still = is.still ray.top (omega arith) in
      let both = letter_of-set2 way.fixed.now way.x_track way.y_track place x y is_tuple_ray.x_track is_tuple_ray.y_track is_tuple_ray.apart in
      let whole = high-letter way.fixed.now ray.top place high is.fits in
      let bx = high-bit (get_or way.fixed.now way.x_track (pos 0)) ray.top place high (is.fits way.x_track (pos 0) is_tuple_ray.x_track) in
      let by = high-bit (get_or way.fixed.now way.y_track (pos 0)) ray.top place high (is.fits way.y_track (pos 0) is_tuple_ray.y_track) in
      let both' = rw (whole, bx, by) at both in
      rw (hx, hy, is.x.unit, is.y.unit) (omega (arith, still, both'))

  -- what is carried over to a place from the bits after it, where a head stands from it on
  abbrev pub IsCarried : Axis → ℤ → ℤ → List Bool → ℕ → ℕ → Type 0
  IsCarried axis d z head place c = int_shr z place +ℤ pos axis.zero ≡ int_shr axis.base place +ℤ (pos (head_number head) *ℤ d) +ℤ pos c

  carried-more : {value d : ℤ} (z : ℤ) {track : ℕ} {axis : Axis} (bit : Bool) (head : List Bool) (place c : ℕ) → IsSlope d → IsAxis value d near track axis
      → FitsBelow ray.top axis.base → ray.top ≤ place → IsCarried axis d z (bit ∷ head) place c
      → IsCarried axis d z head (suc place) (sum_at axis ray.top c bit / 2) × (sum_at axis ray.top c bit % 2 ≡ integer_bit z place)
  carried-more {d} z {axis} bit head place c slope i short high e =
      let fixed = high-bit axis.base ray.top place high short in
      let a' = rw fixed at (int_shr-suc axis.base place) in
      carry-step (int_shr z (suc place)) (int_shr z place) (int_shr axis.base (suc place)) (int_shr axis.base place) (pos (head_number head) *ℤ d)
      (pos (head_number (bit ∷ head)) *ℤ d) (pos (bit_number bit) *ℤ d)
      c (integer_bit axis.base ray.top) (added axis bit) (integer_bit z place) axis.zero
      e a' (int_shr-suc z place) (integer_bit-lt z place) (times-double d slope (head_number head) (bit_number bit)) (added-is axis d bit slope i.zero i.one)

  sign-here : {value d : ℤ} (z : ℤ) {track : ℕ} {axis : Axis} (place c : ℕ) → IsSlope d → IsAxis value d near track axis → FitsBelow ray.top axis.base
      → ray.top ≤ place → IsCarried axis d z [] place c → FitsBelow place z → sign_of axis ray.top c ≡ Some (integer_bit z place)
  sign-here {d} z {axis} place c slope i short high e fits =
      let fixed = high-bit axis.base ray.top place high short in
      let s = fits-sign axis.base place (fits-past axis.base ray.top place high short) in
      let s' = rw fixed at s in
      let t = fits-sign z place fits in
      let n = none-times d slope in
      let b = integer_bit-lt z place in
      let e' = rw (n, s', t) at e in
      sign-choice axis ray.top c ∙ choice-is c (axis.zero + integer_bit axis.base ray.top) (integer_bit z place) b (omega (arith, ints, e'))

  -- a head leads to the state that the first letters lead to
  pub read-is : (head : List Bool) (place cx cy : ℕ) → ray.top ≤ place → IsCarried ray.x way.dx x head place cx
      → IsCarried ray.y way.dy y head place cy → FitsBelow (place + length head) x → FitsBelow (place + length head) y
      → read a ray head cx cy ≡ Some (down a changed place (length head))
  unfolding down
  read-is [] place cx cy high ex ey fx fy =
      let zero : place + 0 ≡ place = omega arith in
      let sx = sign-here x place cx is_tuple_ray.dx is.x (base-fits ray.x steps ray.top is.x_fits) high ex (rw zero at fx) in
      let sy = sign-here y place cy is_tuple_ray.dy is.y (base-fits ray.y steps ray.top is.y_fits) high ey (rw zero at fy) in
      let l = letter-high place (integer_bit x place) (integer_bit y place) high (let b = integer_bit-lt x place in omega (arith, b)) (let b = integer_bit-lt y place in omega (arith, b)) in
      rw (sx, sy) (ap (λ l. Some (first_state a l)) l)
  read-is (bit ∷ head) place cx cy high ex ey fx fy =
      let next : place + suc (length head) ≡ suc place + length head = omega arith in
      let hx = carried-more x bit head place cx is_tuple_ray.dx is.x (base-fits ray.x steps ray.top is.x_fits) high ex in
      let hy = carried-more y bit head place cy is_tuple_ray.dy is.y (base-fits ray.y steps ray.top is.y_fits) high ey in
      let sx = sum_at ray.x ray.top cx bit in
      let sy = sum_at ray.y ray.top cy bit in
      let before = read-is head (suc place) (sx / 2) (sy / 2) (omega (arith, high)) hx.0 hy.0 (rw next at fx) (rw next at fy) in
      ap (option_map (λ state. next_state a state (letter_at ray ray.top sx sy))) before
      ∙ ap (λ l. Some (next_state a (down a changed (suc place) (length head)) l)) (letter-high place sx sy high hx.1 hy.1)

head_number-zeros : (head : List Bool) → head_number (head ++ zeros) ≡ head_number head
head_number-zeros [] = refl
head_number-zeros (bit ∷ head) = ap (λ n. 2 * n + cond bit 1 0) (head_number-zeros head)

head_number-lt : (head : List Bool) → head_number head < 2 ^ length head
head_number-lt [] = omega arith
head_number-lt (true ∷ head) = let h = head_number-lt head in let p : 2 ^ suc (length head) ≡ 2 * 2 ^ length head = omega arith in omega (arith, h, p)
head_number-lt (false ∷ head) = let h = head_number-lt head in let p : 2 ^ suc (length head) ≡ 2 * 2 ^ length head = omega arith in omega (arith, h, p)

-- three more bits than a distance has are enough for its values
along-fits-at : (d : ℤ) (axis : Axis) (t steps top n : ℕ) → IsSlope d → unsigned_abs axis.base + 2 * steps < 2 ^ top → top ≤ n → t < 2 ^ n → FitsBelow (n + 3) (along axis d t)
along-fits-at d axis t steps top n slope b high small =
    let w = pow_le top n high in
    let e : 2 ^ (n + 3) ≡ 2 ^ n * 8 = pow-add 2 n 3 in
    fits-abs (along axis d t) (n + 3) (each_slope (λ d. unsigned_abs (axis.base +ℤ (pos t *ℤ d)) < 2 ^ (n + 3))
    (omega (arith, ints, b, small, w, e)) (omega (arith, ints, b, small, w, e)) (omega (arith, ints, b, small, w, e))
    (omega (arith, ints, b, small, w, e)) (omega (arith, ints, b, small, w, e)) d slope)

whole-lt : (head lo : List Bool) → whole (head_number head) lo < 2 ^ (length lo + length head)
whole-lt head lo =
    let h = head_number-lt head in
    let l = number-lt lo in
    let e : 2 ^ (length lo + length head) ≡ 2 ^ length lo * 2 ^ length head = pow-add 2 (length lo) (length head) in
    let m = mul-le-mul_left (2 ^ length lo) h in
    rw e (below (head_number head) (2 ^ length lo) (2 ^ length head) (number lo) l m)
  where
    below : (hi p q n : ℕ) → n < p → p * suc hi ≤ p * q → hi * p + n < p * q
    below hi p q n l m = omega (arith, l, m)

module _ (a : Automaton) (valid : IsAutomaton a) (decides : DecidesIntegers a) (spell : BitsSpell) (keeps : RepeatKeepsValues) (equal : EqualValuesEqualWords)
    (way : TupleRay) (near : ℕ) {steps : ℕ} (ray : TrackRay) (is_tuple_ray : IsTupleRay way) (is : IsRay way near steps ray)
    (count : length way.fixed.now ≡ length a.tracks) (head lo : List Bool) (size : length lo ≡ ray.top) where
  -- the state of a head decides, together with the bits after it, whether the tuple is in the set
  pub record Decided (state : ℕ) : Type 0 where
    pub reads : headed a ray head (carry ray.x lo) (carry ray.y lo) ≡ Some state
    pub to : Leads a ray state lo → IsHit a way (near + whole (head_number head) lo)
    pub from : IsHit a way (near + whole (head_number head) lo) → Leads a ray state lo

  x-here : ℤ
  x-here = along ray.x way.dx (whole (head_number head) lo)

  y-here : ℤ
  y-here = along ray.y way.dy (whole (head_number head) lo)

  fits-here : (d : ℤ) (axis : Axis) → IsSlope d → unsigned_abs axis.base + 2 * steps < 2 ^ ray.top → FitsBelow (length lo + length (head ++ zeros)) (along axis d (whole (head_number head) lo))
  fits-here d axis slope short =
      let f = along-fits-at d axis (whole (head_number head) lo) steps ray.top (length lo + length head) slope short (omega (arith, size)) (whole-lt head lo) in
      let e : length lo + length head + 3 ≡ length lo + length (head ++ zeros) = let l = length-append head zeros in omega (arith, l) in
      subst (λ n. FitsBelow n (along axis d (whole (head_number head) lo))) e f

  carried-here : {value d : ℤ} {track : ℕ} {axis : Axis} → IsSlope d → IsAxis value d near track axis
      → int_shr (along axis d (whole (head_number head) lo)) (length lo) +ℤ pos axis.zero ≡ int_shr axis.base (length lo) +ℤ (pos (head_number (head ++ zeros)) *ℤ d) +ℤ pos (carry axis lo)
  carried-here {d} {axis} slope i = rw (head_number-zeros head) (carried axis d slope i.zero i.one lo (head_number head))

  state-here : ℕ
  state-here = down a (changed a way near ray is_tuple_ray is x-here y-here) (length lo) (length (head ++ zeros))

  reads-here : headed a ray head (carry ray.x lo) (carry ray.y lo) ≡ Some state-here
  unfolding state-here x-here y-here
  reads-here =
      read-is a way near ray is_tuple_ray is (along ray.x way.dx (whole (head_number head) lo)) (along ray.y way.dy (whole (head_number head) lo))
      (head ++ zeros) (length lo) (carry ray.x lo) (carry ray.y lo) (omega (arith, size))
      (carried-here is_tuple_ray.dx is.x)
      (carried-here is_tuple_ray.dy is.y)
      (fits-here way.dx ray.x is_tuple_ray.dx is.x_fits) (fits-here way.dy ray.y is_tuple_ray.dy is.y_fits)

  tuple-here : List ℤ
  tuple-here = set (set way.fixed.now way.x_track (along ray.x way.dx (whole (head_number head) lo))) way.y_track (along ray.y way.dy (whole (head_number head) lo))

  leads-here : Leads a ray state-here lo ≡ Accepts a (spelled tuple-here (length lo + length (head ++ zeros)))
  unfolding state-here x-here y-here tuple-here changed
  leads-here =
      let l = letters-are way near ray is_tuple_ray is lo (head_number head) (omega (arith, size)) in
      rw l (ap (λ s. IsTrue (is_final a s)) (down-run a tuple-here (length lo) (length (head ++ zeros))))

  all-here : All (FitsBelow (length lo + length (head ++ zeros))) tuple-here
  unfolding tuple-here
  all-here =
      all-fit way.fixed.now way.x_track way.y_track (length lo + length (head ++ zeros)) (along ray.x way.dx (whole (head_number head) lo)) (along ray.y way.dy (whole (head_number head) lo))
      (λ k d h. fits-past (get_or way.fixed.now k d) ray.top (length lo + length (head ++ zeros)) (omega (arith, size)) (is.fits k d h))
      (fits-here way.dx ray.x is_tuple_ray.dx is.x_fits) (fits-here way.dy ray.y is_tuple_ray.dy is.y_fits)

  accepted-here : Accepts a (spelled tuple-here (length lo + length (head ++ zeros))) ↔ IsAccepted a tuple-here
  unfolding tuple-here
  accepted-here =
      accepted-spelled a tuple-here (length lo + length (head ++ zeros)) valid
      (length-set (set way.fixed.now way.x_track (along ray.x way.dx (whole (head_number head) lo))) way.y_track
      (along ray.y way.dy (whole (head_number head) lo))
      ∙ length-set way.fixed.now way.x_track (along ray.x way.dx (whole (head_number head) lo)) ∙ count)
      decides all-here spell keeps equal

  is-here : tuple_at way (near + whole (head_number head) lo) ≡ tuple-here
  unfolding tuple-here
  is-here = tuple-is way near ray is_tuple_ray is (whole (head_number head) lo)

  pub head-decides : (state : ℕ) × Decided state
  head-decides = (
    state-here,
    record {
      reads = reads-here;
      to = λ leads. rw is-here (accepted-here.0 (subst (λ (T : Type 0). T) leads-here leads));
      from = λ hit. subst (λ (T : Type 0). T) (sym leads-here) (accepted-here.1 (rw is-here at hit));
    },
  )
