-- The formula of a ray is small, and names kept sets.
use Rattle.std.proofs.Common.{◌≡◌, ◌≢◌, ◌⊎◌, ℕ, zero, suc, ◌+◌, ◌*◌, ◌<◌, ◌≤◌, ℤ, pos, negsuc, neg_ℤ, unsigned_abs, Bool, true, false, List, [], ◌∷◌, ◌++◌, length, Option, Some, None, inl, inr, refl, sym, ap, subst, arith, length-append}
use Rattle.std.specs.Prelude.{if◌then◌else◌, slice_get}
use Rattle.std.specs.List.{All}
use Rattle.std.proofs.lemmas.Int.{ints}
use Rattle.std.proofs.lemmas.List.Elements.{All-append, All-cons, All-nil}
use Rattle.game_rules.specs.Game.{Position, man_at}
use Rattle.game_rules.specs.declared.men.Ray.{Ray}
use Rattle.game_rules.specs.declared.men.Square.{Square}
use Rattle.track_word.specs.declared.tracks.Var.{Var}
use Rattle.track_word.specs.declared.atoms.Rel.{Rel}
use Rattle.track_word.specs.declared.atoms.Rel.TheVariants.{Le, Eq}
use Rattle.track_word.specs.Atom.{IsAtom, IsBound, IsCoefficient, term_vars}
use Rattle.track_word.specs.Tracks.{IsAscending}
use Rattle.auto_bool.proofs.TrackLemmas.{ascending-with_vars}
use Rattle.lin_formula.specs.Free.{IsOneOf}
use Rattle.lin_formula.specs.Tree.{IsWellMade, Tree, Lin, Value, Among, Not, And, Or, Ex, memberships, steps, vars_of}
use Rattle.lin_formula.proofs.FreeVars.{free_vars-ascend, one_of-with_var, one_of-with_vars, same-var}
use Rattle.formula_auto.proofs.Projections.{apart-ascending}
use Rattle.formula_auto.proofs.Rooms.{length-among}
use Rattle.rule_formula.specs.Placed.{is_live, without}
use Rattle.rule_formula.specs.Seats.{own, var, vars_to}
use Rattle.rule_formula.specs.Trees.{man_square, own_tree}
use Rattle.rule_formula.proofs.FineLemmas.{IsFactor, minus_factor, one_factor, short_factor, two_atom}
use Rattle.rule_formula.proofs.MoveLemmas.{same_number}
use Rattle.first_distances.specs.RayFormula.{begun, gone_along, gone_from, from_x, from_y, line, or_lines, others_standing, standing, t_var}
use Rattle.first_distances.proofs.SeatLemmas.{seated_own}

-- a man's own, or that of the distance, or of the square that he comes from
abbrev pub IsKnown : Var → Type 0
IsKnown x = (x.0 < 16) ⊎ ((x.0 ≡ 18) ⊎ ((x.0 ≡ 20) ⊎ (x.0 ≡ 21)))

-- well made of these variables, with at most this number of steps, and with memberships of this kind
pub record IsSmall (P : ℕ × List Var → Type 0) (n : ℕ) (f : Tree) : Type 0 where
  pub made : IsWellMade f
  pub known : (z : Var) → IsOneOf z (vars_of f) → IsKnown z
  pub names : All P (memberships f)
  pub steps_few : length (steps f) ≤ n

-- the atoms
zero_bound : IsBound (pos 0)
zero_bound = (omega (arith, ints), omega (arith, ints))

apart_from : (x u : Var) → x.0 < 16 → (u.0 ≡ 20) ⊎ (u.0 ≡ 21) → x.0 ≢ u.0
apart_from x u low (inl is) e = omega (arith, low, is, e)
apart_from x u low (inr is) e = omega (arith, low, is, e)

pub differs : (x y : Var) → x.0 ≢ y.0 → x ≢ y
differs x y ne e = ne (ap (λ (v : Var). v.0) e)

three_atom : (x u : Var) (d : ℤ) → x.0 < 16 → (u.0 ≡ 20) ⊎ (u.0 ≡ 21) → IsFactor d → IsAtom ((pos 1, x) ∷ (d, t_var) ∷ (negsuc 0, u) ∷ []) (pos 0)
three_atom x u d low of factor =
    let C = λ (t : ℤ × Var). IsCoefficient t in
    let D = λ (z : Var) (t : ℤ × Var). t.1 ≢ z in
    let ux : u ≢ x = differs u x (λ e. apart_from x u low of (sym e)) in
    let tx : t_var ≢ x = differs t_var x (λ e. omega (arith, low, e)) in
    let ut : u ≢ t_var = differs u t_var (λ e. elim of [ inl is ↦ omega (arith, is, e) | inr is ↦ omega (arith, is, e) ]) in (
      (
        omega arith,
        omega arith,
        (All-cons (D x) (d, t_var) ((negsuc 0, u) ∷ []) tx (All-cons (D x) (negsuc 0, u) [] ux (All-nil (D x))), (All-cons (D t_var) (negsuc 0, u) [] ut (All-nil (D t_var)), (All-nil (D u), tt))),
      ),
      All-cons C (pos 1, x) ((d, t_var) ∷ (negsuc 0, u) ∷ []) (one_factor x) (All-cons C (d, t_var) ((negsuc 0, u) ∷ []) (factor t_var) (All-cons C (negsuc 0, u) [] (minus_factor u) (All-nil C))),
      zero_bound,
    )

three_known : (x u : Var) (d : ℤ) → x.0 < 16 → (u.0 ≡ 20) ⊎ (u.0 ≡ 21) → (z : Var) → IsOneOf z (term_vars ((pos 1, x) ∷ (d, t_var) ∷ (negsuc 0, u) ∷ [])) → IsKnown z
three_known x u d low of z (inl e) = subst IsKnown (sym e) (inl low)
three_known x u d low of z (inr (inl e)) = subst IsKnown (sym e) (inr (inl refl))
three_known x u d low of z (inr (inr (inl e))) = subst IsKnown (sym e) (inr (inr of))
three_known x u d low of z (inr (inr (inr none))) = absurd none

begun_atom : IsAtom ((negsuc 0, t_var) ∷ []) (negsuc 0)
begun_atom =
    let C = λ (t : ℤ × Var). IsCoefficient t in
    let D = λ (t : ℤ × Var). t.1 ≢ t_var in (
      (omega arith, omega arith, (All-nil D, tt)),
      All-cons C (negsuc 0, t_var) [] (minus_factor t_var) (All-nil C),
      (omega (arith, ints), omega (arith, ints)),
    )

more : (fs gs : List Tree) (f : Tree) {n m : ℕ} → length fs ≤ n → length gs ≤ m → length (fs ++ gs ++ f ∷ []) ≤ n + m + 1
more fs gs f a b =
    let all = length-append (fs ++ gs) (f ∷ []) in
    let rest = length-append fs gs in
    omega (arith, all, rest, a, b)

module _ (P : ℕ × List Var → Type 0) where
  small_value : (x : Var) (n : ℤ) → IsKnown x → IsSmall P 0 (Value x n)
  small_value x n known = record {
    made = tt;
    known = λ z one. elim one [ inl e ↦ subst IsKnown (sym e) known | inr none ↦ absurd none ];
    names = All-nil P;
    steps_few = omega arith;
  }

  small_and : {n m : ℕ} (f g : Tree) → IsSmall P n f → IsSmall P m g → IsSmall P (n + m + 1) (And f g)
  small_and f g a b = record {
    made = (a.made, b.made);
    known = λ z one. elim ((one_of-with_vars z (vars_of f) (vars_of g)).0 one) [ inl k ↦ a.known z k | inr k ↦ b.known z k ];
    names = All-append P (memberships f) (memberships g) a.names b.names;
    steps_few = more (steps f) (steps g) (And f g) a.steps_few b.steps_few;
  }

  small_or : {n m : ℕ} (f g : Tree) → IsSmall P n f → IsSmall P m g → IsSmall P (n + m + 1) (Or f g)
  small_or f g a b = record {
    made = (a.made, b.made);
    known = λ z one. elim ((one_of-with_vars z (vars_of f) (vars_of g)).0 one) [ inl k ↦ a.known z k | inr k ↦ b.known z k ];
    names = All-append P (memberships f) (memberships g) a.names b.names;
    steps_few = more (steps f) (steps g) (Or f g) a.steps_few b.steps_few;
  }

  small_ex : {n : ℕ} (x : Var) (f : Tree) → IsKnown x → IsSmall P n f → IsSmall P (n + 1) (Ex x f)
  small_ex x f known a = record {
    made = a.made;
    known = λ z one. elim ((one_of-with_var z x (vars_of f)).0 one) [ inl e ↦ subst IsKnown (sym e) known | inr k ↦ a.known z k ];
    names = a.names;
    steps_few = let count = length-append (steps f) (Ex x f ∷ []) in let few = a.steps_few in omega (arith, count, few);
  }

  small_more : {n m : ℕ} (f : Tree) → n ≤ m → IsSmall P n f → IsSmall P m f
  small_more f low a = record { made = a.made; known = a.known; names = a.names; steps_few = let few = a.steps_few in omega (arith, few, low) }

  small_lin : (terms : List (ℤ × Var)) (rel : Rel) (bound : ℤ) → IsAtom terms bound → ((z : Var) → IsOneOf z (term_vars terms) → IsKnown z) → IsSmall P 0 (Lin terms rel bound)
  small_lin terms rel bound atom known = record {
    made = atom;
    known = λ z one. elim ((one_of-with_vars z (term_vars terms) []).0 one) [ inl k ↦ known z k | inr none ↦ absurd none ];
    names = All-nil P;
    steps_few = omega arith;
  }

  module _ (p : Position) (few : length p.men ≤ 8) (mask i : ℕ) where
    own_known : (k : ℕ) → 0 < k → k ≤ 8 → IsKnown (own k).x × IsKnown (own k).y
    own_known k low high = (inl (omega (arith, low, high)), inl (omega (arith, low, high)))

    small_among : (number : ℕ) → P (number, vars_to own (is_live mask) (length p.men)) → IsSmall P 0 (own_tree (length p.men) mask number)
    small_among number named = record {
      made = tt;
      known = λ z one. elim ((one_of-with_vars z (vars_to own (is_live mask) (length p.men)) []).0 one) [
        | inl k ↦
            let s = seated_own (is_live mask) (length p.men) z k in
            let most = s.high in
            let known = own_known s.number s.low (omega (arith, most, few)) in
            elim s.is [ inl e ↦ subst IsKnown (sym e) known.0 | inr e ↦ subst IsKnown (sym e) known.1 ]
        | inr none ↦ absurd none
      ];
      names = All-cons P (number, vars_to own (is_live mask) (length p.men)) [] named (All-nil P);
      steps_few = omega arith;
    }

    small_standing : {n : ℕ} (k : ℕ) (o : Option Square) (f : Tree) → 0 < k → k ≤ 8 → IsSmall P n f → IsSmall P (n + 4) (standing k o f)
    small_standing k None f low high a = small_more f (omega arith) a
    small_standing {n} k (Some z) f low high a =
        let known = own_known k low high in
        small_more (standing k (Some z) f) (omega arith)
        (small_ex (own k).y (Ex (own k).x (And (And f (Value (own k).x z.x)) (Value (own k).y z.y))) known.1
        (small_ex (own k).x (And (And f (Value (own k).x z.x)) (Value (own k).y z.y)) known.0
        (small_and (And f (Value (own k).x z.x)) (Value (own k).y z.y) (small_and f (Value (own k).x z.x) a (small_value (own k).x z.x known.0)) (small_value (own k).y z.y known.1))))

    small_if : {n m : ℕ} (b : Bool) (f g : Tree) → n ≤ m → IsSmall P m f → IsSmall P n g → IsSmall P m (if b then f else g)
    small_if true f g low a c = a
    small_if false f g low a c = small_more g low c

    small_others : (n : ℕ) (f : Tree) → n ≤ 8 → IsSmall P 0 f → IsSmall P (n * 4) (others_standing p mask i f n)
    small_others zero f low a = a
    small_others (suc n) f low a =
        let rest = small_others n f (omega (arith, low)) a in
        small_if (without (is_live mask) i (suc n)) (standing (suc n) (man_square (man_at p (suc n))) (others_standing p mask i f n)) (others_standing p mask i f n) (omega arith)
        (small_more (standing (suc n) (man_square (man_at p (suc n))) (others_standing p mask i f n)) (omega arith) (small_standing (suc n) (man_square (man_at p (suc n))) (others_standing p mask i f n) (omega arith) low rest)) rest

  -- a coordinate that has changed
  small_gone : (x u : Var) (d : ℤ) → x.0 < 16 → (u.0 ≡ 20) ⊎ (u.0 ≡ 21) → unsigned_abs d ≤ 2 → IsSmall P 0 (gone_from x d u)
  small_gone x u (pos zero) low of short =
      small_lin ((pos 1, x) ∷ (negsuc 0, u) ∷ []) Eq (pos 0) (two_atom x u (pos 0) (apart_from x u low of) zero_bound)
      (λ z one. elim one [ inl e ↦ subst IsKnown (sym e) (inl low) | inr k ↦ elim k [ inl e ↦ subst IsKnown (sym e) (inr (inr of)) | inr none ↦ absurd none ] ])
  small_gone x u (pos (suc d)) low of short =
      small_lin ((pos 1, x) ∷ (neg_ℤ (pos (suc d)), t_var) ∷ (negsuc 0, u) ∷ []) Eq (pos 0)
      (three_atom x u (neg_ℤ (pos (suc d))) low of (short_factor (neg_ℤ (pos (suc d))) (λ e. omega (arith, ints, e)) (omega (arith, ints, short))))
      (three_known x u (neg_ℤ (pos (suc d))) low of)
  small_gone x u (negsuc d) low of short =
      small_lin ((pos 1, x) ∷ (neg_ℤ (negsuc d), t_var) ∷ (negsuc 0, u) ∷ []) Eq (pos 0)
      (three_atom x u (neg_ℤ (negsuc d)) low of (short_factor (neg_ℤ (negsuc d)) (λ e. omega (arith, ints, e)) (omega (arith, ints, short))))
      (three_known x u (neg_ℤ (negsuc d)) low of)

  small_begun : IsSmall P 0 begun
  small_begun =
      small_lin ((negsuc 0, t_var) ∷ []) Le (negsuc 0) begun_atom
      (λ z one. elim one [ inl e ↦ subst IsKnown (sym e) (inr (inl refl)) | inr none ↦ absurd none ])

  module _ (p : Position) (few : length p.men ≤ 8) (i : ℕ) (low : 0 < i) (high : i ≤ 8) (r : Ray) (short_x : unsigned_abs r.dx ≤ 2) (short_y : unsigned_abs r.dy ≤ 2) where
    small_along : {n : ℕ} (o : Option Square) (f : Tree) → IsSmall P n f → IsSmall P (n + 9) (gone_along i r o f)
    small_along None f a = small_more f (omega arith) a
    small_along {n} (Some z) f a =
        let x : Var = (own i).x in
        let y : Var = (own i).y in
        let gone_x : Tree = gone_from x r.dx from_x in
        let gone_y : Tree = gone_from y r.dy from_y in
        let one : Tree = And f gone_x in
        let two : Tree = And one (Value from_x z.x) in
        let three : Tree = And two gone_y in
        let four : Tree = And three (Value from_y z.y) in
        let five : Tree = And four begun in
        let known_x : IsKnown x = inl (omega (arith, low, high)) in
        let known_y : IsKnown y = inl (omega (arith, low, high)) in
        let known_20 : IsKnown from_x = inr (inr (inl refl)) in
        let known_21 : IsKnown from_y = inr (inr (inr refl)) in
        let s1 = small_and f gone_x a (small_gone x from_x r.dx (omega (arith, low, high)) (inl refl) short_x) in
        let s2 = small_and one (Value from_x z.x) s1 (small_value from_x z.x known_20) in
        let s3 = small_and two gone_y s2 (small_gone y from_y r.dy (omega (arith, low, high)) (inr refl) short_y) in
        let s4 = small_and three (Value from_y z.y) s3 (small_value from_y z.y known_21) in
        let s5 = small_and four begun s4 small_begun in
        let e1 = small_ex from_y five known_21 s5 in
        let e2 = small_ex from_x (Ex from_y five) known_20 e1 in
        let e3 = small_ex y (Ex from_x (Ex from_y five)) known_y e2 in
        let e4 = small_ex x (Ex y (Ex from_x (Ex from_y five))) known_x e3 in
        small_more (gone_along i r (Some z) f) (omega arith) e4

    small_line : (mask number : ℕ) → P (number, vars_to own (is_live mask) (length p.men)) → IsSmall P 41 (line p i r mask number)
    small_line mask number named =
        let among = small_among p few mask i number named in
        let others = small_others p few mask i (length p.men) (own_tree (length p.men) mask number) few among in
        small_more (line p i r mask number) (omega (arith, few))
        (small_along (man_square (man_at p i)) (others_standing p mask i (own_tree (length p.men) mask number) (length p.men)) others)

    small_lines : (masks : List ℕ) (f : Tree) (number n : ℕ) → IsSmall P n f
        → ((j mask : ℕ) → slice_get masks j ≡ Some mask → P (number + j, vars_to own (is_live mask) (length p.men)))
        → IsSmall P (n + length masks * 42) (or_lines p i r f number masks)
    small_lines [] f number n a named = small_more f (omega arith) a
    small_lines (m ∷ ms) f number n a named =
        let first : P (number, vars_to own (is_live m) (length p.men)) = subst (λ k. P (k, vars_to own (is_live m) (length p.men))) (omega arith) (named zero m refl) in
        let next = small_or f (line p i r m number) a (small_line m number first) in
        let rest = small_lines ms (Or f (line p i r m number)) (suc number) (n + 41 + 1) next
        (λ j mask at. subst (λ k. P (k, vars_to own (is_live mask) (length p.men))) (omega arith) (named (suc j) mask at)) in
        small_more (or_lines p i r f number (m ∷ ms)) (omega arith) rest

    pub small_formula : (masks : List ℕ) (mask : ℕ) → length masks ≤ 8
        → ((j m : ℕ) → slice_get (mask ∷ masks) j ≡ Some m → P (j, vars_to own (is_live m) (length p.men)))
        → IsSmall P 1000 (or_lines p i r (line p i r mask 0) 1 masks)
    small_formula masks mask count named =
        small_more (or_lines p i r (line p i r mask 0) 1 masks) (omega (arith, count))
        (small_lines masks (line p i r mask 0) 1 41 (small_line mask 0 (named zero mask refl))
        (λ j m at. subst (λ k. P (k, vars_to own (is_live m) (length p.men))) (omega arith) (named (suc j) m at)))

-- the variables ascend
vars_ascend : (f : Tree) → IsAscending (vars_of f)
vars_ascend (Lin terms rel bound) = free_vars-ascend (Lin terms rel bound)
vars_ascend (Value x n) = free_vars-ascend (Value x n)
vars_ascend (Among set vars) = free_vars-ascend (Among set vars)
vars_ascend (Not f) = vars_ascend f
vars_ascend (And f g) = ascending-with_vars (vars_of f) (vars_of g) (vars_ascend g)
vars_ascend (Or f g) = ascending-with_vars (vars_of f) (vars_of g) (vars_ascend g)
vars_ascend (Ex x f) = ascending-with_vars (x ∷ []) (vars_of f) (vars_ascend f)

-- the first variables
first_vars : ℕ → List Var
first_vars zero = []
first_vars (suc n) = var n ∷ first_vars n

first_count : (n : ℕ) → length (first_vars n) ≡ n
unfolding first_vars
first_count zero = refl
first_count (suc n) = ap suc (first_count n)

is_first : (z : Var) (n : ℕ) → z.0 < n → IsOneOf z (first_vars n)
unfolding first_vars
is_first z zero low = absurd (omega (arith, low))
is_first z (suc n) low = elim (same_number z.0 n) [ inl e ↦ inl (same-var z (var n) e) | inr ne ↦ inr (is_first z n (omega (arith, low, ne))) ]

known_one : (z : Var) → IsKnown z → IsOneOf z (t_var ∷ var 20 ∷ var 21 ∷ first_vars 16)
known_one z (inl low) = inr (inr (inr (is_first z 16 low)))
known_one z (inr (inl e)) = inl (same-var z t_var e)
known_one z (inr (inr (inl e))) = inr (inl (same-var z (var 20) e))
known_one z (inr (inr (inr e))) = inr (inr (inl (same-var z (var 21) e)))

pub few_known : (f : Tree) → ((z : Var) → IsOneOf z (vars_of f) → IsKnown z) → length (vars_of f) ≤ 20
few_known f known =
    let less = length-among (vars_of f) (t_var ∷ var 20 ∷ var 21 ∷ first_vars 16) (apart-ascending (vars_of f) (vars_ascend f)) (λ z one. known_one z (known z one)) in
    let count = first_count 16 in
    omega (arith, less, count)
