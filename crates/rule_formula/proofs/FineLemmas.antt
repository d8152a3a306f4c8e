-- What is known of a formula that is built of small atoms over few variables.
use Rattle.std.proofs.Common.{◌≡◌, ◌≢◌, ◌⊎◌, ℕ, suc, ◌+◌, ◌<◌, ◌≤◌, ℤ, pos, negsuc, neg_ℤ, unsigned_abs, List, [], ◌∷◌, length, nat_lt, ◌==◌, if◌then◌else◌, inl, inr, refl, sym, ap, subst, ◌∙◌, ◌%◌, arith}
use Rattle.std.specs.List.{All}
use Rattle.std.proofs.lemmas.Int.{ints}
use Rattle.std.proofs.lemmas.Bool.Decides.{nat_tests}
use Rattle.std.proofs.lemmas.List.Elements.{All-nil, All-cons, All-append}
use Rattle.track_word.specs.declared.tracks.Var.{Var}
use Rattle.track_word.specs.Tracks.{with_var, with_vars}
use Rattle.track_word.specs.Atom.{IsAtom, IsBound, IsCoefficient, term_vars}
use Rattle.lin_formula.specs.Tree.{IsWellMade, Tree, memberships, vars_of}
use Rattle.lin_formula.specs.Tree as tree
use Rattle.lin_formula.specs.Free.{IsFree, IsOneOf}
use Rattle.lin_formula.proofs.FreeVars.{if_cases}
use Rattle.rule_formula.specs.Fine.{AreVars, IsFine, IsLow}

pub fine_made : (V : Var → Type 0) (P : ℕ × List Var → Type 0) (t : Tree) → IsFine V P t → IsWellMade t
fine_made V P (tree.Lin terms rel bound) h = h.0
fine_made V P (tree.Value x n) h = tt
fine_made V P (tree.Among s vars) h = tt
fine_made V P (tree.Not f) h = fine_made V P f h
fine_made V P (tree.And f g) h = (fine_made V P f h.0, fine_made V P g h.1)
fine_made V P (tree.Or f g) h = (fine_made V P f h.0, fine_made V P g h.1)
fine_made V P (tree.Ex x f) h = fine_made V P f h.1

pub fine_names : (V : Var → Type 0) (P : ℕ × List Var → Type 0) (t : Tree) → IsFine V P t → All P (memberships t)
fine_names V P (tree.Lin terms rel bound) h = All-nil P
fine_names V P (tree.Value x n) h = All-nil P
fine_names V P (tree.Among s vars) h = All-cons P (s, vars) [] h.0 (All-nil P)
fine_names V P (tree.Not f) h = fine_names V P f h
fine_names V P (tree.And f g) h = All-append P (memberships f) (memberships g) (fine_names V P f h.0) (fine_names V P g h.1)
fine_names V P (tree.Or f g) h = All-append P (memberships f) (memberships g) (fine_names V P f h.0) (fine_names V P g h.1)
fine_names V P (tree.Ex x f) h = fine_names V P f h.1

pub one_told : (V : Var → Type 0) (xs : List Var) (z : Var) → AreVars V xs → IsOneOf z xs → V z
one_told V [] z h is = absurd is
one_told V (x ∷ xs) z h (inl e) = subst V (sym e) h.0
one_told V (x ∷ xs) z h (inr is) = one_told V xs z h.1 is

-- each free variable is as told
abbrev pub FreeIn : (Var → Type 0) → Tree → Type 0
FreeIn V f = (z : Var) → IsFree z f → V z

pub fine_free : (V : Var → Type 0) (P : ℕ × List Var → Type 0) (t : Tree) → IsFine V P t → FreeIn V t
fine_free V P (tree.Lin terms rel bound) h z is = one_told V (term_vars terms) z h.1 is
fine_free V P (tree.Value x n) h z is = subst V (sym is) h
fine_free V P (tree.Among s vars) h z is = one_told V vars z h.1 is
fine_free V P (tree.Not f) h z is = fine_free V P f h z is
fine_free V P (tree.And f g) h z (inl is) = fine_free V P f h.0 z is
fine_free V P (tree.And f g) h z (inr is) = fine_free V P g h.1 z is
fine_free V P (tree.Or f g) h z (inl is) = fine_free V P f h.0 z is
fine_free V P (tree.Or f g) h z (inr is) = fine_free V P g h.1 z is
fine_free V P (tree.Ex x f) h z is = fine_free V P f h.1 z is.1

-- they ascend from n on, and are below eighteen
abbrev Climbs : ℕ → List Var → Type 0
Climbs n [] = Unit {0}
Climbs n (x ∷ xs) = (n ≤ x.0) × (x.0 < 18) × Climbs (suc x.0) xs

climb_length : (n : ℕ) (xs : List Var) → n ≤ 18 → Climbs n xs → length xs + n ≤ 18
climb_length n [] low h = omega (arith, low)
climb_length n (x ∷ xs) low h =
    let rest = climb_length (suc x.0) xs (omega (arith, h.1)) h.2 in omega (arith, rest, h.0)

climb_with : (n : ℕ) (x : Var) (ys : List Var) → n ≤ x.0 → x.0 < 18 → Climbs n ys → Climbs n (with_var x ys)
climb_with n x [] from low h = (from, low, tt)
climb_with n x (y ∷ ys) from low h =
    if_cases (nat_lt x.0 y.0) (x ∷ y ∷ ys) (if x.0 == y.0 then y ∷ ys else y ∷ with_var x ys) (Climbs n)
    (λ e. let less : x.0 < y.0 = grind (arith, nat_tests) in (from, low, (omega (arith, less), h.1, h.2)))
    (λ e. if_cases (x.0 == y.0) (y ∷ ys) (y ∷ with_var x ys) (Climbs n)
    (λ same. h)
    (λ other. let above : y.0 < x.0 = grind (arith, nat_tests) in (h.0, h.1, climb_with (suc y.0) x ys (omega (arith, above)) low h.2)))

climb_with_all : (xs ys : List Var) → AreVars IsLow xs → Climbs 0 ys → Climbs 0 (with_vars xs ys)
climb_with_all [] ys low h = h
climb_with_all (x ∷ xs) ys low h = climb_with 0 x (with_vars xs ys) (omega arith) low.0 (climb_with_all xs ys low.1 h)

climb_low : (n : ℕ) (xs : List Var) → Climbs n xs → AreVars IsLow xs
climb_low n [] h = tt
climb_low n (x ∷ xs) h = (h.1, climb_low (suc x.0) xs h.2)

fine_climbs : (P : ℕ × List Var → Type 0) (t : Tree) → IsFine IsLow P t → Climbs 0 (vars_of t)
fine_climbs P (tree.Lin terms rel bound) h = climb_with_all (term_vars terms) [] h.1 tt
fine_climbs P (tree.Value x n) h = (omega arith, h, tt)
fine_climbs P (tree.Among s vars) h = climb_with_all vars [] h.1 tt
fine_climbs P (tree.Not f) h = fine_climbs P f h
fine_climbs P (tree.And f g) h = climb_with_all (vars_of f) (vars_of g) (climb_low 0 (vars_of f) (fine_climbs P f h.0)) (fine_climbs P g h.1)
fine_climbs P (tree.Or f g) h = climb_with_all (vars_of f) (vars_of g) (climb_low 0 (vars_of f) (fine_climbs P f h.0)) (fine_climbs P g h.1)
fine_climbs P (tree.Ex x f) h = climb_with 0 x (vars_of f) (omega arith) h.0 (fine_climbs P f h.1)

-- its variables are at most eighteen
pub fine_few : (P : ℕ × List Var → Type 0) (t : Tree) → IsFine IsLow P t → length (vars_of t) ≤ 18
fine_few P t h = let w = climb_length 0 (vars_of t) (omega arith) (fine_climbs P t h) in omega (arith, w)

one_differs : (x y : Var) → x.0 ≢ y.0 → x ≢ y
one_differs x y ne e = ne (ap (λ (v : Var). v.0) e)

-- one or minus one
abbrev pub IsUnit : ℤ → Type 0
IsUnit d = (d ≡ pos 1) ⊎ (d ≡ negsuc 0)

unit_is : (d : ℤ) (x : Var) → IsUnit d → IsCoefficient (d, x)
unit_is d x (inl e) = (λ w. omega (arith, ints, e, w), omega (arith, ints, e), omega (arith, ints, e))
unit_is d x (inr e) = (λ w. omega (arith, ints, e, w), omega (arith, ints, e), omega (arith, ints, e))

-- a number that may stand before each variable
abbrev pub IsFactor : ℤ → Type 0
IsFactor d = (x : Var) → IsCoefficient (d, x)

pub one_factor : IsFactor (pos 1)
one_factor x = unit_is (pos 1) x (inl refl)

pub minus_factor : IsFactor (negsuc 0)
minus_factor x = unit_is (negsuc 0) x (inr refl)

pub short_factor : (d : ℤ) → d ≢ pos 0 → unsigned_abs d ≤ 2 → IsFactor d
short_factor d some short x = (some, omega (arith, ints, short), omega (arith, ints, short))

-- the difference of two variables
pub two_atom : (x y : Var) (n : ℤ) → x.0 ≢ y.0 → IsBound n → IsAtom ((pos 1, x) ∷ (negsuc 0, y) ∷ []) n
two_atom x y n ne bound =
    let C = λ (t : ℤ × Var). IsCoefficient t in
    let D = λ (z : Var) (t : ℤ × Var). t.1 ≢ z in (
      (omega arith, omega arith, (All-cons (D x) (negsuc 0, y) [] (λ e. ne (ap (λ (v : Var). v.0) (sym e))) (All-nil (D x)), (All-nil (D y), tt))),
      All-cons C (pos 1, x) ((negsuc 0, y) ∷ []) (unit_is (pos 1) x (inl refl)) (All-cons C (negsuc 0, y) [] (unit_is (negsuc 0) y (inr refl)) (All-nil C)),
      bound,
    )

parity : (x y : Var) → x.0 % 2 ≡ 0 → y.0 % 2 ≡ 1 → x ≢ y
parity x y even odd e =
    let same : x.0 ≡ y.0 = ap (λ (v : Var). v.0) e in
    let both : 0 ≡ 1 = sym even ∙ ap (λ n. n % 2) same ∙ odd in absurd (omega (arith, both))

-- two differences
pub four_atom : (b d : ℤ) (c e : ℤ) (p q r s : Var) → p.0 ≢ q.0 → r.0 ≢ s.0 → q.0 % 2 ≡ 0 → p.0 % 2 ≡ 0 → s.0 % 2 ≡ 1 → r.0 % 2 ≡ 1 → IsFactor b
    → IsFactor d → IsFactor c → IsFactor e → IsAtom ((b, p) ∷ (d, q) ∷ (c, r) ∷ (e, s) ∷ []) (pos 0)
four_atom b d c e p q r s across along q_even p_even s_odd r_odd ub ud uc ue =
    let C = λ (t : ℤ × Var). IsCoefficient t in
    let D = λ (z : Var) (t : ℤ × Var). t.1 ≢ z in (
      (
        omega arith,
        omega arith,
        (
          All-cons (D p) (d, q) ((c, r) ∷ (e, s) ∷ []) (one_differs q p (λ w. across (sym w)))
              (All-cons (D p) (c, r) ((e, s) ∷ []) (λ w. parity p r p_even r_odd (sym w)) (All-cons (D p) (e, s) [] (λ w. parity p s p_even s_odd (sym w)) (All-nil (D p)))),
          (
            All-cons (D q) (c, r) ((e, s) ∷ []) (λ w. parity q r q_even r_odd (sym w)) (All-cons (D q) (e, s) [] (λ w. parity q s q_even s_odd (sym w)) (All-nil (D q))),
            (All-cons (D r) (e, s) [] (one_differs s r (λ w. along (sym w))) (All-nil (D r)), (All-nil (D s), tt)),
          ),
        ),
      ),
      All-cons C (b, p) ((d, q) ∷ (c, r) ∷ (e, s) ∷ []) (ub p)
          (All-cons C (d, q) ((c, r) ∷ (e, s) ∷ []) (ud q) (All-cons C (c, r) ((e, s) ∷ []) (uc r) (All-cons C (e, s) [] (ue s) (All-nil C)))),
      (omega (arith, ints), omega (arith, ints)),
    )

-- a number that may stand before a variable may be turned
other_sign : (d : ℤ) → d ≢ pos 0 → unsigned_abs d ≤ 2 → (neg_ℤ d ≢ pos 0) × (unsigned_abs (neg_ℤ d) ≤ 2)
other_sign d some short = (λ e. some (omega (arith, ints, e)), omega (arith, ints, short))

-- two differences, each with a factor of its own
pub leaping_atom : (dx dy : ℤ) (p q r s : Var) → p.0 ≢ q.0 → r.0 ≢ s.0 → q.0 % 2 ≡ 0 → p.0 % 2 ≡ 0 → s.0 % 2 ≡ 1 → r.0 % 2 ≡ 1 → dx ≢ pos 0 → dy ≢ pos 0
    → unsigned_abs dx ≤ 2 → unsigned_abs dy ≤ 2 → IsAtom ((dy, p) ∷ (neg_ℤ dy, q) ∷ (neg_ℤ dx, r) ∷ (dx, s) ∷ []) (pos 0)
leaping_atom dx dy p q r s across along q_even p_even s_odd r_odd right up short_right short_up =
    let left = other_sign dx right short_right in
    let down = other_sign dy up short_up in
    four_atom dy (neg_ℤ dy) (neg_ℤ dx) dx p q r s across along q_even p_even s_odd r_odd
    (short_factor dy up short_up) (short_factor (neg_ℤ dy) down.0 down.1) (short_factor (neg_ℤ dx) left.0 left.1) (short_factor dx right short_right)

-- the same, by the terms
pub terms_atom : (t₁ t₂ t₃ t₄ : ℤ × Var) (a b c d : ℤ × Var) → t₁ ≡ a → t₂ ≡ b → t₃ ≡ c → t₄ ≡ d → IsAtom (a ∷ b ∷ c ∷ d ∷ []) (pos 0) → IsAtom (t₁ ∷ t₂ ∷ t₃ ∷ t₄ ∷ []) (pos 0)
terms_atom t₁ t₂ t₃ t₄ a b c d e₁ e₂ e₃ e₄ h =
    subst (λ t. IsAtom (t ∷ t₂ ∷ t₃ ∷ t₄ ∷ []) (pos 0)) (sym e₁)
    (subst (λ t. IsAtom (a ∷ t ∷ t₃ ∷ t₄ ∷ []) (pos 0)) (sym e₂)
    (subst (λ t. IsAtom (a ∷ b ∷ t ∷ t₄ ∷ []) (pos 0)) (sym e₃) (subst (λ t. IsAtom (a ∷ b ∷ c ∷ t ∷ []) (pos 0)) (sym e₄) h)))
