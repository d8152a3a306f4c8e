-- The free variables of a formula are those of the live men.
use Rattle.std.proofs.Common.{◌≡◌, ◌≢◌, ◌⊎◌, ◌↔◌, ℕ, zero, suc, ◌+◌, ◌*◌, ◌<◌, ◌≤◌, ℤ, pos, negsuc, unsigned_abs, Bool, true, false, List, [], ◌∷◌, ◌++◌, length, map, All, AllPairs, ◌==◌, if◌then◌else◌, inl, inr, refl, sym, ap, ◌∙◌, subst, arith}
use Rattle.std.proofs.lemmas.Int.{ints}
use Rattle.std.proofs.lemmas.List.Kept.{AllPairs-from_increasing}
use Rattle.std.proofs.lemmas.Bool.Decides.{nat_tests}
use Rattle.track_word.specs.declared.tracks.Var.{Var}
use Rattle.track_word.specs.declared.atoms.Rel.TheVariants.{Eq}
use Rattle.lin_formula.specs.Tree.{Tree, free_vars}
use Rattle.lin_formula.specs.Tree as tree
use Rattle.lin_formula.specs.Free.{IsFree, IsOneOf}
use Rattle.lin_formula.proofs.FreeVars.{free_vars-ascend, free_vars-free, same-var}
use Rattle.game_rules.specs.declared.men.Man.{Man}
use Rattle.game_rules.specs.declared.men.Ray.{Ray}
use Rattle.game_rules.specs.declared.men.Side.{Side}
use Rattle.rule_formula.specs.declared.opt.Opt.{Opt}
use Rattle.rule_formula.specs.declared.atoms.Extent.TheVariants.{Onto, Before}
use Rattle.rule_formula.specs.declared.seats.Seat.{Seat}
use Rattle.rule_formula.specs.Paths.{IsJourney, IsRayStep}
use Rattle.rule_formula.specs.Placed.{is_live, without}
use Rattle.rule_formula.specs.Seats.{elsewhere, new_seat, new_seats, old_seats, own, seats_with, spare, swept, var, vars_to}
use Rattle.rule_formula.specs.Trees.{ahead, and_all, atoms_as, bear_of, bear_tree, clear, clear_as, difference, ex_swept, image_body, image_of, image_tree, is_other, line, line_atoms, on, ordered, past, pre_body, pre_of, pre_tree, ray_at, ray_atoms, safe_of, tracks_of, unless_same, twins_tree}
use Rattle.rule_formula.specs.Meaning.{IsBearer, IsOptionOf, IsPrey}
use Rattle.game_laws.proofs.MoveLemmas.{same_or_not}
use Rattle.rule_formula.proofs.BearLemmas.{IsNumber, stock_number}
use Rattle.rule_formula.proofs.FineLemmas.{FreeIn, fine_free}
use Rattle.rule_formula.proofs.LineTrees.{line_atoms_hold, line_holds}
use Rattle.rule_formula.proofs.MoveLemmas.{kept_live, same_number, was_live}
use Rattle.rule_formula.proofs.PathLemmas.{bearer_journey, journey_is, journey_step, option_journey}
use Rattle.rule_formula.proofs.SizeTheorem.{AreSeated, IsGood, any_set, bear_fit, chosen_tree, image_body_fit, own_good, pre_body_fit, spare_seat, twins_fit}
use Rattle.rule_formula.specs.Fine.{IsFine}

-- they ascend from n on
abbrev pub Rises : ℕ → List Var → Type 0
Rises n [] = Unit {0}
Rises n (x ∷ xs) = (n ≤ x.0) × Rises (suc x.0) xs

rises_pairs : (n : ℕ) (xs : List Var) → All (λ y. n ≤ y) (map (λ v. v.0) xs) → AllPairs (λ x y. x < y) (map (λ v. v.0) xs) → Rises n xs
rises_pairs n [] low h = tt
rises_pairs n (x ∷ xs) low h = (
  low 0 x.0 (omega arith),
  rises_pairs (suc x.0) xs (λ j y within. h 0 (suc j) y (omega arith) (omega (arith, within))) (λ i j d less within. h (suc i) (suc j) d (omega (arith, less)) (omega (arith, within))),
)

-- they ascend from m on, below k
abbrev pub Spans : ℕ → ℕ → List Var → Type 0
Spans m k [] = m ≤ k
Spans m k (x ∷ xs) = (m ≤ x.0) × Spans (suc x.0) k xs

spans_more : (m k : ℕ) (xs : List Var) (x y : Var) → k ≤ x.0 → x.0 < y.0 → Spans m k xs → Spans m (suc y.0) (xs ++ x ∷ y ∷ [])
spans_more m k [] x y low order h = (omega (arith, low, h), (omega (arith, order), omega arith))
spans_more m k (z ∷ zs) x y low order h = (h.0, spans_more (suc z.0) k zs x y low order h.1)

spans_wider : (m k l : ℕ) (xs : List Var) → k ≤ l → Spans m k xs → Spans m l xs
spans_wider m k l [] low h = omega (arith, low, h)
spans_wider m k l (x ∷ xs) low h = (h.0, spans_wider (suc x.0) k l xs low h.1)

spans_if : (b : Bool) (n : ℕ) (xs : List Var) → Spans 0 (2 * n) xs → Spans 0 (2 * (n + 1)) (if b then xs ++ (own (suc n)).x ∷ (own (suc n)).y ∷ [] else xs)
spans_if true n xs h =
    spans_wider 0 (suc (own (suc n)).y.0) (2 * (n + 1)) (xs ++ (own (suc n)).x ∷ (own (suc n)).y ∷ []) (omega arith)
    (spans_more 0 (2 * n) xs (own (suc n)).x (own (suc n)).y (omega arith) (omega arith) h)
spans_if false n xs h = spans_wider 0 (2 * n) (2 * (n + 1)) xs (omega arith) h

pub spans_own : (live : ℕ → Bool) (n : ℕ) → Spans 0 (2 * n) (vars_to own live n)
spans_own live zero = omega arith
spans_own live (suc n) =
    let e : 2 * (n + 1) ≡ 2 * suc n = omega arith in
    subst (λ k. Spans 0 k (vars_to own live (suc n))) e (spans_if (live (suc n)) n (vars_to own live n) (spans_own live n))

pub spans_rise : (m k : ℕ) (xs : List Var) → Spans m k xs → Rises m xs
spans_rise m k [] h = tt
spans_rise m k (x ∷ xs) h = (h.0, spans_rise (suc x.0) k xs h.1)

pub risen : (n : ℕ) (xs : List Var) (z : Var) → Rises n xs → IsOneOf z xs → n ≤ z.0
risen n [] z h is = absurd is
risen n (x ∷ xs) z h (inl e) = let same : z.0 ≡ x.0 = ap (λ (v : Var). v.0) e in omega (arith, same, h.0)
risen n (x ∷ xs) z h (inr is) = let rest = risen (suc x.0) xs z h.1 is in omega (arith, rest, h.0)

-- the first of two ascending lists with the same members
first_same : (m n : ℕ) (x y : Var) (xs ys : List Var) → Rises m (x ∷ xs) → Rises n (y ∷ ys) → IsOneOf x (y ∷ ys) → IsOneOf y (x ∷ xs) → x.0 ≡ y.0
first_same m n x y xs ys h k (inl e) there = ap (λ (v : Var). v.0) e
first_same m n x y xs ys h k (inr is) (inl e) = sym (ap (λ (v : Var). v.0) e)
first_same m n x y xs ys h k (inr is) (inr at) =
    let above = risen (suc y.0) ys x k.1 is in
    let below = risen (suc x.0) xs y h.1 at in absurd (omega (arith, above, below))

later : (n : ℕ) (x z : Var) (xs ys : List Var) → Rises (suc x.0) xs → IsOneOf z xs → IsOneOf z (x ∷ ys) → IsOneOf z ys
later n x z xs ys h is (inl e) = let above = risen (suc x.0) xs z h is in let same : z.0 ≡ x.0 = ap (λ (v : Var). v.0) e in absurd (omega (arith, above, same))
later n x z xs ys h is (inr at) = at

same_list : (m n : ℕ) (xs ys : List Var) → Rises m xs → Rises n ys → ((z : Var) → IsOneOf z xs → IsOneOf z ys) → ((z : Var) → IsOneOf z ys → IsOneOf z xs) → xs ≡ ys
same_list m n [] [] h k there back = refl
same_list m n [] (y ∷ ys) h k there back = absurd (back y (inl refl))
same_list m n (x ∷ xs) [] h k there back = absurd (there x (inl refl))
same_list m n (x ∷ xs) (y ∷ ys) h k there back =
    let e : x ≡ y = same-var x y (first_same m n x y xs ys h k (there x (inl refl)) (back y (inl refl))) in
    let rises : Rises (suc x.0) ys = subst (λ (v : Var). Rises (suc v.0) ys) (sym e) k.1 in
    ap (λ v. v ∷ xs) e
    ∙ ap (λ l. y ∷ l) (same_list (suc x.0) (suc x.0) xs ys h.1 rises
    (λ z is. later m x z xs ys h.1 is (subst (λ v. IsOneOf z (v ∷ ys)) (sym e) (there z (inr is))))
    (λ z is. later m x z ys xs rises is (back z (inr is))))

-- the variable is one of the seat's two
abbrev pub IsOf : Seat → Var → Type 0
IsOf s z = (z ≡ s.x) ⊎ (z ≡ s.y)

pub record IsSeated (seats : ℕ → Seat) (live : ℕ → Bool) (n : ℕ) (z : Var) : Type 0 where
  pub number : ℕ
  pub low : 0 < number
  pub high : number ≤ n
  pub on : live number ≡ true
  pub is : IsOf (seats number) z

one_of-append : (z x y : Var) (xs : List Var) → IsOneOf z (xs ++ x ∷ y ∷ []) ↔ (IsOneOf z xs ⊎ ((z ≡ x) ⊎ (z ≡ y)))
one_of-append z x y [] = (
  λ h. elim h [ inl e ↦ inr (inl e) | inr k ↦ elim k [ inl e ↦ inr (inr e) | inr none ↦ absurd none ] ],
  λ h. elim h [ inl none ↦ absurd none | inr k ↦ elim k [ inl e ↦ inl e | inr e ↦ inr (inl e) ] ],
)
one_of-append z x y (w ∷ ws) =
    let rest = one_of-append z x y ws in (
      λ h. elim h [ inl e ↦ inl (inl e) | inr k ↦ elim (rest.0 k) [ inl l ↦ inl (inr l) | inr l ↦ inr l ] ],
      λ h. elim h [ inl k ↦ elim k [ inl e ↦ inl e | inr l ↦ inr (rest.1 (inl l)) ] | inr k ↦ inr (rest.1 (inr k)) ],
    )

one_of-if : (b : Bool) (z x y : Var) (xs : List Var) → IsOneOf z (if b then xs ++ x ∷ y ∷ [] else xs) ↔ (IsOneOf z xs ⊎ ((b ≡ true) × ((z ≡ x) ⊎ (z ≡ y))))
one_of-if true z x y xs =
    let all = one_of-append z x y xs in
    (λ h. elim (all.0 h) [ inl k ↦ inl k | inr k ↦ inr (refl, k) ], λ h. all.1 (elim h [ inl k ↦ inl k | inr k ↦ inr k.1 ]))
one_of-if false z x y xs = (λ h. inl h, λ h. elim h [ inl k ↦ k | inr k ↦ absurd (cc) ])

pub seated : (seats : ℕ → Seat) (live : ℕ → Bool) (n : ℕ) (z : Var) → IsOneOf z (vars_to seats live n) → IsSeated seats live n z
seated seats live zero z h = absurd h
seated seats live (suc n) z h =
    elim ((one_of-if (live (suc n)) z (seats (suc n)).x (seats (suc n)).y (vars_to seats live n)).0 h) [
      | inl k ↦ let w = seated seats live n z k in let high : w.number ≤ n = w.high in record { number = w.number; low = w.low; high = omega arith; on = w.on; is = w.is }
      | inr k ↦ record { number = suc n; low = omega arith; high = omega arith; on = k.0; is = k.1 }
    ]

pub seat_in : (seats : ℕ → Seat) (live : ℕ → Bool) (n : ℕ) (z : Var) (k : ℕ) → 0 < k → k ≤ n → live k ≡ true → IsOf (seats k) z → IsOneOf z (vars_to seats live n)
seat_in seats live zero z k low high on is = absurd (omega (arith, low, high))
seat_in seats live (suc n) z k low high on is =
    let step = one_of-if (live (suc n)) z (seats (suc n)).x (seats (suc n)).y (vars_to seats live n) in
    elim (same_number k (suc n)) [
      | inl e ↦ step.1 (inr (subst (λ j. live j ≡ true) e on, subst (λ j. IsOf (seats j) z) e is))
      | inr ne ↦ step.1 (inl (seat_in seats live n z k low (omega (arith, high, ne)) on is))
    ]

-- what stays free when a variable is quantified where the ray sweeps it
swept_in : (T : Var → Type 0) (d : ℤ) (x : Var) (f : Tree) → FreeIn (λ z. T z ⊎ ((z ≡ x) × (d ≢ pos 0))) f → FreeIn T (ex_swept d x f)
swept_in T (pos zero) x f h z w = elim (h z w) [ inl is ↦ is | inr k ↦ absurd (k.1 refl) ]
swept_in T (pos (suc d)) x f h z w = elim (h z w.1) [ inl is ↦ is | inr k ↦ absurd (w.0 k.0) ]
swept_in T (negsuc d) x f h z w = elim (h z w.1) [ inl is ↦ is | inr k ↦ absurd (w.0 k.0) ]

swept_seat : (T : Var → Type 0) (d : ℤ) (x y : Var) → T x → T (swept d x y) ⊎ ((swept d x y ≡ y) × (d ≢ pos 0))
swept_seat T (pos zero) x y h = inl h
swept_seat T (pos (suc d)) x y h = inr (refl, λ e. omega (arith, ints, e))
swept_seat T (negsuc d) x y h = inr (refl, λ e. omega (arith, ints, e))

-- a seat of the live men, or what is swept
abbrev InBody : (Var → Type 0) → Ray → Var → Type 0
InBody T r z = (T z ⊎ ((z ≡ elsewhere.x) × (r.dx ≢ pos 0))) ⊎ ((z ≡ elsewhere.y) × (r.dy ≢ pos 0))

in_body : (T : Var → Type 0) (r : Ray) (s : Seat) → IsGood T s → IsGood (InBody T r) s
in_body T r s h = record { seat = h.seat; across = inl (inl h.across); along = inl (inl h.along) }

spare_in : (T : Var → Type 0) (r : Ray) (i : ℕ) → 0 < i → IsGood T (own i) → IsGood (InBody T r) (spare r i)
spare_in T r i low h =
    record {
      seat = spare_seat r i low;
      across = elim (swept_seat T r.dx (own i).x elsewhere.x h.across) [ inl is ↦ inl (inl is) | inr k ↦ inl (inr k) ];
      along = elim (swept_seat T r.dy (own i).y elsewhere.y h.along) [ inl is ↦ inl (inl is) | inr k ↦ inr k ];
    }

-- the seats of the live men
own_seated : (live : ℕ → Bool) (n : ℕ) → AreSeated (IsSeated own live n) own live n
own_seated live n k low high on =
    own_good (IsSeated own live n) k low (record { number = k; low = low; high = high; on = on; is = inl refl }) (record { number = k; low = low; high = high; on = on; is = inr refl })

-- what is free when both variables are quantified
body_in : (T : Var → Type 0) (r : Ray) (f : Tree) → IsFine (InBody T r) any_set f → FreeIn T (ex_swept r.dx elsewhere.x (ex_swept r.dy elsewhere.y f))
body_in T r f fine =
    swept_in T r.dx elsewhere.x (ex_swept r.dy elsewhere.y f)
    (swept_in (λ z. T z ⊎ ((z ≡ elsewhere.x) × (r.dx ≢ pos 0))) r.dy elsewhere.y f (fine_free (InBody T r) any_set f fine))

pre_tree_in : (n mask i t s q : ℕ) {r : Ray} → n ≤ 8 → IsJourney i r t → i ≤ n → is_live mask i ≡ true
    → (0 < t → (t ≤ n) × (is_live mask t ≡ true)) → FreeIn (IsSeated own (is_live mask) n) (pre_tree n mask i r t s q)
pre_tree_in n mask i zero s q {r} few j high on prey =
    let T = IsSeated own (is_live mask) n in
    let low : 0 < i = omega (arith, j.low) in
    let each : AreSeated T own (is_live mask) n = own_seated (is_live mask) n in
    let mover : IsGood T (own i) = each i low high on in
    body_in T r (pre_body n mask i r 0 s q)
    (pre_body_fit (InBody T r) any_set n mask i 0 s q few j tt tt (in_body T r (own i) mover) (spare_in T r i low mover) (λ k first last alive. in_body T r (own k) (each k first last alive))).fine
pre_tree_in n mask i (suc t) s q {r} few j high on prey =
    let T = IsSeated own (is_live mask) n in
    let each : AreSeated T own (is_live mask) n = own_seated (is_live mask) n in
    let w = prey (omega arith) in
    fine_free T any_set (pre_body n mask i r (suc t) s q)
    (pre_body_fit T any_set n mask i (suc t) s q few j tt tt (each i (omega (arith, j.low)) high on) (each (suc t) (omega arith) w.0 w.1) each).fine

-- a variable that is free in the first stays free
if_free : (b : Bool) (f g : Tree) (z : Var) → IsFree z f → IsFree z (if b then tree.And f g else f)
if_free true f g z h = inl h
if_free false f g z h = h

clear_free : (f : Tree) (hit : ℕ → Tree) (live : ℕ → Bool) (i j n : ℕ) (z : Var) → IsFree z f → IsFree z (clear f hit live i j n)
clear_free f hit live i j zero z h = h
clear_free f hit live i j (suc n) z h = if_free (is_other live i j (suc n)) (clear f hit live i j n) (tree.Not (hit (suc n))) z (clear_free f hit live i j n z h)

clear_as_free : (b : Bool) (f : Tree) (hit : ℕ → Tree) (live : ℕ → Bool) (i j n : ℕ) (z : Var) → IsFree z f → IsFree z (clear_as b f hit live i j n)
clear_as_free true f hit live i j n z h = clear_free f hit live i j n z h
clear_as_free false f hit live i j n z h = h

and_all_free : (f : Tree) (gs : List Tree) (z : Var) → IsFree z f → IsFree z (and_all f gs)
and_all_free f [] z h = h
and_all_free f (g ∷ gs) z h = and_all_free (tree.And f g) gs z (inl h)

swept_free : (d : ℤ) (x : Var) (f : Tree) (z : Var) → z ≢ x → IsFree z f → IsFree z (ex_swept d x f)
swept_free (pos zero) x f z ne h = h
swept_free (pos (suc d)) x f z ne h = (ne, h)
swept_free (negsuc d) x f z ne h = (ne, h)

pub own_low : {live : ℕ → Bool} {n : ℕ} {z : Var} → n ≤ 8 → IsSeated own live n z → z.0 < 16
own_low {n} {z} few w =
    let high : w.number ≤ n = w.high in
    let low : 0 < w.number = w.low in
    elim w.is [
      | inl e ↦ let same : z.0 ≡ (own w.number).x.0 = ap (λ (v : Var). v.0) e in omega (arith, same)
      | inr e ↦ let same : z.0 ≡ (own w.number).y.0 = ap (λ (v : Var). v.0) e in omega (arith, same)
    ]

not_var : (z : Var) (n : ℕ) → z.0 < n → z ≢ var n
not_var z n low e = let same : z.0 ≡ n = ap (λ (v : Var). v.0) e in omega (arith, same, low)

pub seated_in : {live : ℕ → Bool} {n : ℕ} {z : Var} → IsSeated own live n z → IsOneOf z (vars_to own live n)
seated_in {live} {n} {z} w = seat_in own live n z w.number w.low w.high w.on w.is

pre_free : {n : ℕ} (mask i t s q : ℕ) (r : Ray) {z : Var} → n ≤ 8 → IsSeated own (is_live mask) n z → IsFree z (pre_tree n mask i r t s q)
pre_free {n} mask i t s q r {z} few w =
    let low : z.0 < 16 = own_low few w in
    let both = tree.And (tree.Among s (vars_to own (is_live mask) n)) (tree.Among q (vars_to (new_seats r i t) (without (is_live mask) t) n)) in
    let body : IsFree z (pre_body n mask i r t s q) = clear_free (and_all both (ray_atoms r (own i) (new_seat r i t))) (λ k. on r (own i) (new_seat r i t) Onto (own k)) (is_live mask) i t n z
    (and_all_free both (ray_atoms r (own i) (new_seat r i t)) z (inl (seated_in w)))
    in
    whole t body low
  where
    whole : (t : ℕ) → IsFree z (pre_body n mask i r t s q) → z.0 < 16 → IsFree z (pre_tree n mask i r t s q)
    whole zero body low = swept_free r.dx elsewhere.x (ex_swept r.dy elsewhere.y (pre_body n mask i r 0 s q)) z (not_var z 16 low)
        (swept_free r.dy elsewhere.y (pre_body n mask i r 0 s q) z (not_var z 17 (omega (arith, low))) body)
    whole (suc t) body low = body

bear_free : {n : ℕ} (mask k g s : ℕ) (r : Ray) {z : Var} → IsSeated own (is_live mask) n z → IsFree z (bear_tree n mask k r g s)
bear_free {n} mask k g s r {z} w =
    clear_as_free r.far (and_all (tree.Among s (vars_to own (is_live mask) n)) (ray_atoms r (own k) (own g))) (λ l. on r (own k) (own g) Before (own l)) (is_live mask) k g n z
    (and_all_free (tree.Among s (vars_to own (is_live mask) n)) (ray_atoms r (own k) (own g)) z (seated_in w))

-- the free variables are the tracks, where those and no others are free
pub tracks_are : (live : ℕ → Bool) (n : ℕ) (f : Tree) → FreeIn (IsSeated own live n) f → ((z : Var) → IsSeated own live n z → IsFree z f) → free_vars f ≡ vars_to own live n
tracks_are live n f only all =
    same_list 0 0 (free_vars f) (vars_to own live n) (rises_pairs 0 (free_vars f) (λ j y within. omega arith) (AllPairs-from_increasing (map (λ v. v.0) (free_vars f)) (free_vars-ascend f))) (spans_rise 0 (2 * n) (vars_to own live n) (spans_own live n))
    (λ z is. seated_in (only z ((free_vars-free f z).0 is)))
    (λ z is. (free_vars-free f z).1 (all z (seated own live n z is)))

-- the free variables of twins are those of the live men
pub twins_tracks : (n mask a b s : ℕ) → 0 < a → a ≤ n → is_live mask a ≡ true → 0 < b → b ≤ n → is_live mask b ≡ true → a ≢ b
    → free_vars (twins_tree n mask a b s) ≡ vars_to own (is_live mask) n
twins_tracks n mask a b s low_a high_a on_a low_b high_b on_b ne =
    let T = IsSeated own (is_live mask) n in
    let each : AreSeated T own (is_live mask) n = own_seated (is_live mask) n in
    tracks_are (is_live mask) n (twins_tree n mask a b s)
    (fine_free T any_set (twins_tree n mask a b s) (twins_fit T any_set n mask a b s low_a low_b ne tt (each a low_a high_a on_a) (each b low_b high_b on_b) each).fine)
    (λ z w. inl (inl (seated_in w)))

-- tracks twice are the tracks
pub tracks_twice : (live : ℕ → Bool) (n s t : ℕ) → free_vars (tree.Or (tree.Among s (vars_to own live n)) (tree.Among t (vars_to own live n))) ≡ vars_to own live n
tracks_twice live n s t =
    tracks_are live n (tree.Or (tree.Among s (vars_to own live n)) (tree.Among t (vars_to own live n)))
    (λ z h. elim h [ inl a ↦ seated own live n z a | inr b ↦ seated own live n z b ])
    (λ z w. inl (seated_in w))

-- the same men have the same tracks
pub tracks_alike : (live more : ℕ → Bool) (n : ℕ) → ((k : ℕ) → 0 < k → live k ≡ more k) → vars_to own live n ≡ vars_to own more n
tracks_alike live more zero h = refl
tracks_alike live more (suc n) h =
    ap (λ xs. if live (suc n) then xs ++ (own (suc n)).x ∷ (own (suc n)).y ∷ [] else xs) (tracks_alike live more n h)
    ∙ ap (λ (b : Bool). if b then vars_to own more n ++ (own (suc n)).x ∷ (own (suc n)).y ∷ [] else vars_to own more n) (h (suc n) (omega arith))

prey_is_live : (stock : List Man) (mask t : ℕ) (side : Side) → IsPrey stock mask side t → 0 < t → (t ≤ length stock) × (is_live mask t ≡ true)
prey_is_live stock mask zero side h low = absurd (omega (arith, low))
prey_is_live stock mask (suc t) side h low = ((stock_number stock (suc t) h.0 h.1).high, h.2)

pub pre_tracks : (stock : List Man) (mask : ℕ) (o : Opt) (s q : ℕ) → length stock ≤ 8 → IsOptionOf stock mask o → free_vars (pre_of stock mask o s q) ≡ tracks_of stock (is_live mask)
pre_tracks stock mask o s q few w =
    tracks_are (is_live mask) (length stock) (pre_of stock mask o s q)
    (pre_tree_in (length stock) mask o.man o.taken s q few (journey_is few (option_journey w)) (stock_number stock o.man w.man w.is.is_man).high w.is.live
    (prey_is_live stock mask o.taken w.man.side w.is.prey))
    (λ z is. pre_free mask o.man o.taken s q (ray_at stock o.man o.ray) few is)

bear_in : {stock : List Man} {mask k n g : ℕ} (s : ℕ) → IsBearer stock mask k n g → FreeIn (IsSeated own (is_live mask) (length stock)) (bear_of stock mask k n g s)
bear_in {stock} {mask} {k} {n} {g} s w =
    let T = IsSeated own (is_live mask) (length stock) in
    let each : AreSeated T own (is_live mask) (length stock) = own_seated (is_live mask) (length stock) in
    let from : IsNumber stock k = stock_number stock k w.man w.is.is_man in
    let to : IsNumber stock g = stock_number stock g w.target w.is.is_target in
    fine_free T any_set (bear_of stock mask k n g s)
    (bear_fit T any_set (length stock) mask k g s (ray_at stock k n) from.low to.low w.is.apart (journey_step (bearer_journey w)) tt
    (each k from.low from.high w.is.live) (each g to.low to.high w.is.target_live) each).fine

pub bear_tracks : (stock : List Man) (mask k n g s : ℕ) → IsBearer stock mask k n g → free_vars (bear_of stock mask k n g s) ≡ tracks_of stock (is_live mask)
bear_tracks stock mask k n g s w =
    tracks_are (is_live mask) (length stock) (bear_of stock mask k n g s) (bear_in s w) (λ z is. bear_free mask k g s (ray_at stock k n) is)

pub safe_tracks : (stock : List Man) (mask k n g s : ℕ) → IsBearer stock mask k n g → free_vars (safe_of stock mask k n g s) ≡ tracks_of stock (is_live mask)
safe_tracks stock mask k n g s w =
    tracks_are (is_live mask) (length stock) (safe_of stock mask k n g s)
    (λ z is. elim is [ inl among ↦ seated own (is_live mask) (length stock) z among | inr bears ↦ bear_in s w z bears ])
    (λ z is. inl (seated_in is))

-- the variable is free in one of a list
abbrev AnyFree : Var → List Tree → Type 0
AnyFree z [] = ⊥
AnyFree z (g ∷ gs) = IsFree z g ⊎ AnyFree z gs

any_left : (z : Var) (gs hs : List Tree) → AnyFree z gs → AnyFree z (gs ++ hs)
any_left z [] hs h = absurd h
any_left z (g ∷ gs) hs (inl h) = inl h
any_left z (g ∷ gs) hs (inr h) = inr (any_left z gs hs h)

any_right : (z : Var) (gs hs : List Tree) → AnyFree z hs → AnyFree z (gs ++ hs)
any_right z [] hs h = h
any_right z (g ∷ gs) hs h = inr (any_right z gs hs h)

and_all_any : (f : Tree) (gs : List Tree) (z : Var) → AnyFree z gs → IsFree z (and_all f gs)
and_all_any f [] z h = absurd h
and_all_any f (g ∷ gs) z (inl h) = and_all_free (tree.And f g) gs z (inr h)
and_all_any f (g ∷ gs) z (inr h) = and_all_any (tree.And f g) gs z h

unless_any : (x y : Var) (f : Tree) (z : Var) → x.0 ≢ y.0 → IsFree z f → AnyFree z (unless_same x y f)
unless_any x y f z ne h = cases (x.0 == y.0) (λ e. same x.0 y.0 e)
  where
    same : (a b : ℕ) → (a == b) ≡ true → a ≡ b
    same a b e = grind (arith, nat_tests)

    cases : (b : Bool) → (b ≡ true → x.0 ≡ y.0) → AnyFree z (if b then [] else f ∷ [])
    cases true e = absurd (ne (e refl))
    cases false e = inl h

-- the end's variables are free in the atom of a line that is no row and no column
slanting_free : (dx dy : ℤ) (a b : Seat) → dx ≢ pos 0 → dy ≢ pos 0 → IsFree b.x (line dx dy a b) × IsFree b.y (line dx dy a b)
slanting_free dx dy a b right up =
    let both : IsOneOf b.x (b.x ∷ a.x ∷ b.y ∷ a.y ∷ []) × IsOneOf b.y (b.x ∷ a.x ∷ b.y ∷ a.y ∷ []) = (inl refl, inr (inr (inl refl))) in
    line_holds (λ f. IsFree b.x f × IsFree b.y f) dx dy a b (record { column = λ e. absurd (right e); row = λ e. absurd (up e); slanting = λ _ _. (both, both, both) })

-- so they are free in its list
slanting_any : (dx dy : ℤ) (a b : Seat) (z : Var) → dx ≢ pos 0 → dy ≢ pos 0 → IsFree z (line dx dy a b) → AnyFree z (line_atoms dx dy a b)
slanting_any dx dy a b z right up h =
    line_atoms_hold (AnyFree z) dx dy a b (record { column = λ e. absurd (right e); row = λ _ e. absurd (up e); slanting = λ _ _. inl h })

ordered_free : (d : ℤ) (x y : Var) (n : ℤ) → IsFree y (ordered d x y n)
ordered_free (pos d) x y n = inr (inl refl)
ordered_free (negsuc d) x y n = inl refl

-- where the ray moves, the end's variable is free in its atoms
across_free : (far : Bool) (dx dy : ℤ) (a b : Seat) → IsRayStep dx dy → dx ≢ pos 0 → b.x.0 ≢ a.x.0 → AnyFree b.x (atoms_as far dx dy a b)
across_free true dx dy a b step moves ne =
    elim (same_or_not dy (pos 0)) [
      | inl level ↦
          any_right b.x (line_atoms dx dy a b) (ahead dx dy a b Before ∷ [])
          (inl (chosen_tree (IsFree b.x) (unsigned_abs dx) 1 (ordered dx a.x b.x (past Before)) (ordered dy a.y b.y (past Before))
          (λ one. ordered_free dx a.x b.x (past Before)) (λ off. absurd (omega (arith, step.one off, ap unsigned_abs level)))))
      | inr up ↦ any_left b.x (line_atoms dx dy a b) (ahead dx dy a b Before ∷ []) (slanting_any dx dy a b b.x moves up (slanting_free dx dy a b moves up).0)
    ]
across_free false dx dy a b step moves ne =
    any_left b.x (unless_same b.x a.x (difference b.x a.x Eq dx)) (unless_same b.y a.y (difference b.y a.y Eq dy)) (unless_any b.x a.x (difference b.x a.x Eq dx) b.x ne (inl refl))

along_free : (far : Bool) (dx dy : ℤ) (a b : Seat) → dy ≢ pos 0 → b.y.0 ≢ a.y.0 → AnyFree b.y (atoms_as far dx dy a b)
along_free true dx dy a b moves ne =
    elim (same_or_not dx (pos 0)) [
      | inl level ↦
          any_right b.y (line_atoms dx dy a b) (ahead dx dy a b Before ∷ [])
          (inl (chosen_tree (IsFree b.y) (unsigned_abs dx) 1 (ordered dx a.x b.x (past Before)) (ordered dy a.y b.y (past Before))
          (λ one. absurd (omega (arith, one, ap unsigned_abs level))) (λ off. ordered_free dy a.y b.y (past Before))))
      | inr right ↦ any_left b.y (line_atoms dx dy a b) (ahead dx dy a b Before ∷ []) (slanting_any dx dy a b b.y right moves (slanting_free dx dy a b right moves).1)
    ]
along_free false dx dy a b moves ne =
    any_right b.y (unless_same b.x a.x (difference b.x a.x Eq dx)) (unless_same b.y a.y (difference b.y a.y Eq dy)) (unless_any b.y a.y (difference b.y a.y Eq dy) b.y ne (inl refl))

-- a swept variable is the old one, or another where the ray moves
swept_or : (d : ℤ) (x y : Var) → (swept d x y ≡ x) ⊎ ((d ≢ pos 0) × (swept d x y ≡ y))
swept_or (pos zero) x y = inl refl
swept_or (pos (suc d)) x y = inr (λ e. omega (arith, ints, e), refl)
swept_or (negsuc d) x y = inr (λ e. omega (arith, ints, e), refl)

with_first : (i j : ℕ) (a b : Seat) → seats_with i a j b i ≡ a
with_first i j a b = grind (arith, nat_tests)

with_other : (i j k : ℕ) (a b : Seat) → k ≢ i → k ≢ j → seats_with i a j b k ≡ own k
with_other i j k a b first second = grind (arith, nat_tests)

image_tree_in : (n mask i t s : ℕ) {r : Ray} → n ≤ 8 → IsJourney i r t → i ≤ n → is_live mask i ≡ true → FreeIn (IsSeated own (without (is_live mask) t) n) (image_tree n mask i r t s)
image_tree_in n mask i t s {r} few j high on =
    let T = IsSeated own (without (is_live mask) t) n in
    let low : 0 < i = omega (arith, j.low) in
    let each : AreSeated T own (without (is_live mask) t) n = own_seated (without (is_live mask) t) n in
    let mover : IsGood T (own i) = each i low high (kept_live (is_live mask i) i t on j.apart) in
    body_in T r (image_body n mask i r t s)
    (image_body_fit (InBody T r) any_set n mask i t s few j tt (spare_in T r i low mover) (in_body T r (own i) mover) (λ k first last alive. in_body T r (own k) (each k first last alive))).fine

image_body_free : {n : ℕ} (mask i t s : ℕ) {r : Ray} {z : Var} → n ≤ 8 → IsJourney i r t → i ≤ n → is_live mask i ≡ true
    → IsSeated own (without (is_live mask) t) n z → IsFree z (image_body n mask i r t s)
image_body_free {n} mask i t s {r} {z} few j high alive_i w =
    let low : 0 < i = omega (arith, j.low) in
    let among : Tree = tree.Among s (vars_to (old_seats r i t) (is_live mask) n) in
    let atoms : List Tree = ray_atoms r (spare r i) (own i) in
    let alive = was_live (is_live mask w.number) w.number t w.on in
    let chained : IsFree z (and_all among atoms) → IsFree z (image_body n mask i r t s) = clear_free (and_all among atoms) (λ k. on r (spare r i) (own i) Onto (own k)) (is_live mask) i t n z in
    let there : (k : ℕ) → 0 < k → k ≤ n → is_live mask k ≡ true → IsOf (old_seats r i t k) z → IsFree z (image_body n mask i r t s) = λ k first last live is.
    chained (and_all_free among atoms z (seat_in (old_seats r i t) (is_live mask) n z k first last live is))
    in
    elim (same_number w.number i) [
      | inr other ↦ there w.number w.low w.high alive.0 (subst (λ a. IsOf a z) (sym (with_other i t w.number (spare r i) (own i) other alive.1)) w.is)
      | inl e ↦
          let mine : IsOf (own i) z = subst (λ k. IsOf (own k) z) e w.is in
          elim mine [
            | inl across ↦ elim (swept_or r.dx (own i).x elsewhere.x) [
              | inl kept ↦ there i low high alive_i (subst (λ a. IsOf a z) (sym (with_first i t (spare r i) (own i))) (inl (across ∙ sym kept)))
              | inr moved ↦
                  let past : (own i).x.0 ≢ (spare r i).x.0 = λ same. let far : (spare r i).x.0 ≡ 16 = ap (λ (v : Var). v.0) moved.1 in omega (arith, same, far, few, high) in
                  chained (and_all_any among atoms z (subst (λ v. AnyFree v atoms) (sym across) (across_free r.far r.dx r.dy (spare r i) (own i) j.step moved.0 past)))
            ]
            | inr along ↦ elim (swept_or r.dy (own i).y elsewhere.y) [
              | inl kept ↦ there i low high alive_i (subst (λ a. IsOf a z) (sym (with_first i t (spare r i) (own i))) (inr (along ∙ sym kept)))
              | inr moved ↦
                  let past : (own i).y.0 ≢ (spare r i).y.0 = λ same. let far : (spare r i).y.0 ≡ 17 = ap (λ (v : Var). v.0) moved.1 in omega (arith, same, far, few, high) in
                  chained (and_all_any among atoms z (subst (λ v. AnyFree v atoms) (sym along) (along_free r.far r.dx r.dy (spare r i) (own i) moved.0 past)))
            ]
          ]
    ]

image_free : {n : ℕ} (mask i t s : ℕ) {r : Ray} {z : Var} → n ≤ 8 → IsJourney i r t → i ≤ n → is_live mask i ≡ true
    → IsSeated own (without (is_live mask) t) n z → IsFree z (image_tree n mask i r t s)
image_free {n} mask i t s {r} {z} few j high on w =
    let small : z.0 < 16 = own_low few w in
    swept_free r.dx elsewhere.x (ex_swept r.dy elsewhere.y (image_body n mask i r t s)) z (not_var z 16 small)
    (swept_free r.dy elsewhere.y (image_body n mask i r t s) z (not_var z 17 (omega (arith, small))) (image_body_free mask i t s few j high on w))

pub image_tracks : (stock : List Man) (mask : ℕ) (o : Opt) (s : ℕ) → length stock ≤ 8 → IsOptionOf stock mask o
    → free_vars (image_of stock mask o s) ≡ tracks_of stock (without (is_live mask) o.taken)
image_tracks stock mask o s few w =
    let j : IsJourney o.man (ray_at stock o.man o.ray) o.taken = journey_is few (option_journey w) in
    let high : o.man ≤ length stock = (stock_number stock o.man w.man w.is.is_man).high in
    tracks_are (without (is_live mask) o.taken) (length stock) (image_of stock mask o s)
    (image_tree_in (length stock) mask o.man o.taken s few j high w.is.live)
    (λ z is. image_free mask o.man o.taken s few j high w.is.live is)
