-- The terms of a comparison are small and of different variables.
use native.Mathlib.Nat.{mul-le-mul}
use Rattle.std.proofs.Common.{◌≢◌, ◌*◌, ◌≤◌, ℕ, zero, suc, Bool, true, false, List, [], ◌∷◌, length, ℤ, pos, negsuc, ◌+ℤ◌, ◌-ℤ◌, ◌*ℤ◌, unsigned_abs, ap, arith}
use Rattle.std.specs.Prelude.{◌≤ℤ◌, ◌==◌, if◌then◌else◌}
use Rattle.std.specs.List.{All}
use Rattle.std.proofs.lemmas.Int.{ints, unsigned_abs-mul}
use Rattle.std.proofs.lemmas.List.Elements.{All-cons, All-head, All-nil, All-tail}
use Rattle.track_word.specs.Atom.{IsAtom, IsBound, IsCoefficient, IsDistinct}
use Rattle.track_word.specs.declared.tracks.Var.{Var}
use Rattle.rule_formula.specs.Seats.{var}
use Rattle.line_formula.specs.declared.gap.Gap.{Gap}
use Rattle.line_formula.specs.declared.leg.Leg.{Leg}
use Rattle.line_formula.specs.Atoms.{held, terms, weight, with_term}
use Rattle.line_formula.specs.Places.{step_x, step_y}
use Rattle.line_formula.specs.Small.{IsSmallGap, IsSmallLeg, IsSmallRay}
use Rattle.line_formula.proofs.PlaceLemmas.{AreBelow}

-- each coefficient is at most 64, and none is 0
abbrev pub IsSmallWeight : ℤ → Type 0
IsSmallWeight w = (negsuc 63 ≤ℤ w) × (w ≤ℤ pos 64)

-- small terms of different variables, all below one
pub record AreTerms (n : ℕ) (ts : List (ℤ × Var)) : Type 0 where
  pub below : AreBelow n ts
  pub distinct : IsDistinct ts
  pub small : All IsCoefficient ts
  pub few : length ts ≤ n

differ_all : (n : ℕ) (x : Var) (ts : List (ℤ × Var)) → n ≤ x.0 → AreBelow n ts → All (λ u. u.1 ≢ x) ts
differ_all n x [] from h = All-nil (λ u. u.1 ≢ x)
differ_all n x (t ∷ ts) from h =
    All-cons (λ u. u.1 ≢ x) t ts (λ e. let same = ap (λ (y : Var). y.0) e in omega (arith, from, h.0, same)) (differ_all n x ts from h.1)

below_more : (n m : ℕ) (ts : List (ℤ × Var)) → n ≤ m → AreBelow n ts → AreBelow m ts
below_more n m [] more h = tt
below_more n m (t ∷ ts) more h = (omega (arith, more, h.0), below_more n m ts more h.1)

-- one more term of the next variable
pub terms_with : (n : ℕ) (c : ℤ) (ts : List (ℤ × Var)) → c ≢ pos 0 → IsSmallWeight c → AreTerms n ts → AreTerms (suc n) ((c, var n) ∷ ts)
terms_with n c ts some small h =
    record {
      below = (omega arith, below_more n (suc n) ts (omega arith) h.below);
      distinct = (differ_all n (var n) ts (omega arith) h.below, h.distinct);
      small = All-cons IsCoefficient (c, var n) ts (some, small.0, small.1) h.small;
      few = let f = h.few in omega arith;
    }

terms_more : (n : ℕ) (ts : List (ℤ × Var)) → AreTerms n ts → AreTerms (suc n) ts
terms_more n ts h = record { below = below_more n (suc n) ts (omega arith) h.below; distinct = h.distinct; small = h.small; few = let f = h.few in omega arith }

with_term_is : (n : ℕ) (w : ℤ) (ts : List (ℤ × Var)) → IsSmallWeight w → AreTerms n ts → AreTerms (suc n) (with_term w (var n) ts)
with_term_is n (pos zero) ts small h = terms_more n ts h
with_term_is n (pos (suc m)) ts small h = terms_with n (pos (suc m)) ts (λ e. omega (arith, ints, e)) small h
with_term_is n (negsuc m) ts small h = terms_with n (negsuc m) ts (λ e. omega (arith, ints, e)) small h

pub terms_are : (g : Gap) (legs : List Leg) → All (λ leg. IsSmallWeight (weight g leg)) legs → AreTerms (length legs) (terms g legs)
terms_are g [] small = record { below = tt; distinct = tt; small = All-nil IsCoefficient; few = omega arith }
terms_are g (leg ∷ legs) small =
    with_term_is (length legs) (weight g leg) (terms g legs) (All-head (λ l. IsSmallWeight (weight g l)) leg legs small)
    (terms_are g legs (All-tail (λ l. IsSmallWeight (weight g l)) leg legs small))

-- with the held variable before them they make an atom
pub atom_of_terms : (n : ℕ) (ts : List (ℤ × Var)) (bound : ℤ) → n ≤ 7 → AreTerms n ts → IsBound bound → IsAtom ((pos 1, held) ∷ ts) bound
atom_of_terms n ts bound few h is =
    let count = h.few in (
      (omega arith, omega (arith, count, few), (differ_all n held ts (omega (arith, few)) h.below, h.distinct)),
      All-cons IsCoefficient (pos 1, held) ts (λ e. omega (arith, ints, e), omega (arith, ints), omega (arith, ints)) h.small,
      is,
    )

abs_bound : (a b : ℤ) (m n : ℕ) → unsigned_abs a ≤ m → unsigned_abs b ≤ n → unsigned_abs (a *ℤ b) ≤ m * n
abs_bound a b m n h k =
    let e = unsigned_abs-mul a b in
    let p : unsigned_abs a * unsigned_abs b ≤ m * n = mul-le-mul h k in
    omega (arith, e, p)

small_step : (b : Bool) (d : ℤ) → unsigned_abs d ≤ 2 → unsigned_abs (if b then d else pos 0) ≤ 2
small_step true d h = h
small_step false d h = omega arith

abs_difference : (a b : ℤ) → unsigned_abs a ≤ 2 → unsigned_abs b ≤ 2 → unsigned_abs (a -ℤ b) ≤ 4
abs_difference a b h k = grind (arith, ints)

abs_sum : (a b : ℤ) → unsigned_abs a ≤ 8 → unsigned_abs b ≤ 8 → IsSmallWeight (a +ℤ b)
abs_sum a b h k = (grind (arith, ints), grind (arith, ints))

pub small_weight : (g : Gap) (leg : Leg) → IsSmallGap g → IsSmallRay leg.ray → IsSmallWeight (weight g leg)
small_weight g leg gap ray =
    let x = abs_difference (step_x g.to leg) (step_x g.from leg) (small_step (leg.man == g.to) leg.ray.dx ray.right) (small_step (leg.man == g.from) leg.ray.dx ray.right) in
    let y = abs_difference (step_y g.to leg) (step_y g.from leg) (small_step (leg.man == g.to) leg.ray.dy ray.up) (small_step (leg.man == g.from) leg.ray.dy ray.up) in
    let p = abs_bound g.right (step_x g.to leg -ℤ step_x g.from leg) 2 4 gap.right x in
    let q = abs_bound g.up (step_y g.to leg -ℤ step_y g.from leg) 2 4 gap.up y in
    abs_sum (g.right *ℤ (step_x g.to leg -ℤ step_x g.from leg)) (g.up *ℤ (step_y g.to leg -ℤ step_y g.from leg)) (omega (arith, p)) (omega (arith, q))

small_weights : (g : Gap) (legs : List Leg) → IsSmallGap g → All IsSmallLeg legs → All (λ leg. IsSmallWeight (weight g leg)) legs
small_weights g [] gap small = All-nil (λ l. IsSmallWeight (weight g l))
small_weights g (leg ∷ legs) gap small =
    All-cons (λ l. IsSmallWeight (weight g l)) leg legs (small_weight g leg gap (All-head IsSmallLeg leg legs small)) (small_weights g legs gap (All-tail IsSmallLeg leg legs small))

-- the terms of a gap make an atom, also with the next distance
pub gap_atom : (g : Gap) (legs : List Leg) (bound : ℤ) → IsSmallGap g → All IsSmallLeg legs → length legs ≤ 6 → IsBound bound → IsAtom ((pos 1, held) ∷ terms g legs) bound
gap_atom g legs bound gap small few is = atom_of_terms (length legs) (terms g legs) bound (omega (arith, few)) (terms_are g legs (small_weights g legs gap small)) is

pub next_atom : (g : Gap) (legs : List Leg) (bound : ℤ) → IsSmallGap g → All IsSmallLeg legs → length legs ≤ 6 → IsBound bound
    → IsAtom ((pos 1, held) ∷ (negsuc 0, var (length legs)) ∷ terms g legs) bound
next_atom g legs bound gap small few is =
    atom_of_terms (suc (length legs)) ((negsuc 0, var (length legs)) ∷ terms g legs) bound (omega (arith, few))
    (terms_with (length legs) (negsuc 0) (terms g legs) (λ e. omega (arith, ints, e)) (omega (arith, ints), omega (arith, ints)) (terms_are g legs (small_weights g legs gap small))) is

pub one_atom : (c : ℤ) (x : Var) (bound : ℤ) → c ≢ pos 0 → IsSmallWeight c → IsBound bound → IsAtom ((c, x) ∷ []) bound
one_atom c x bound some small is =
    ((omega arith, omega arith, (All-nil (λ u. u.1 ≢ x), tt)), All-cons IsCoefficient (c, x) [] (some, small.0, small.1) (All-nil IsCoefficient), is)
