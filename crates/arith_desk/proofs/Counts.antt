-- How many variables there are in a formula whose variables are below a number.
use Rattle.std.proofs.Common.{inl, inr, ℕ, suc, ◌+◌, ◌<◌, ◌≤◌, List, [], ◌∷◌, length, nat_lt, ◌==◌, if◌then◌else◌, refl, arith}
use Rattle.std.proofs.lemmas.Bool.Decides.{nat_tests}
use borrow.Author.Tests.{ltb-true}
use Rattle.track_word.specs.declared.tracks.Var.{Var}
use Rattle.track_word.specs.Tracks.{with_var, with_vars}
use Rattle.track_word.specs.Atom.{term_vars}
use Rattle.lin_formula.specs.Tree.{Tree, Lin, Value, Among, Not, And, Or, Ex, vars_of}
use Rattle.lin_formula.specs.Free.{IsOneOf}
use Rattle.lin_formula.proofs.FreeVars.{if_cases}

-- ascending from a number on
Climbs : ℕ → List Var → Type 0
Climbs low [] = Unit {0}
Climbs low (x ∷ xs) = (low ≤ x.0) × Climbs (suc x.0) xs

Climbs-with_var : (low : ℕ) (x : Var) (ys : List Var) → low ≤ x.0 → Climbs low ys → Climbs low (with_var x ys)
unfolding Climbs
Climbs-with_var low x [] h climbs = (h, tt)
Climbs-with_var low x (y ∷ ys) h climbs =
    if_cases (nat_lt x.0 y.0) (x ∷ y ∷ ys) (if x.0 == y.0 then y ∷ ys else y ∷ with_var x ys) (Climbs low)
    (λ e. let less = ltb-true x.0 y.0 e in (h, (omega arith, climbs.1)))
    (λ e. if_cases (x.0 == y.0) (y ∷ ys) (y ∷ with_var x ys) (Climbs low)
    (λ same. climbs)
    (λ other.
    let above : suc y.0 ≤ x.0 = grind (arith, nat_tests) in
    (climbs.0, Climbs-with_var (suc y.0) x ys above climbs.1)))

Climbs-with_vars : (xs ys : List Var) → Climbs 0 ys → Climbs 0 (with_vars xs ys)
Climbs-with_vars [] ys h = h
Climbs-with_vars (x ∷ xs) ys h = Climbs-with_var 0 x (with_vars xs ys) (omega arith) (Climbs-with_vars xs ys h)

Climbs-vars_of : (f : Tree) → Climbs 0 (vars_of f)
unfolding Climbs
Climbs-vars_of (Lin terms rel bound) = Climbs-with_vars (term_vars terms) [] tt
Climbs-vars_of (Value x n) = (omega arith, tt)
Climbs-vars_of (Among set vars) = Climbs-with_vars vars [] tt
Climbs-vars_of (Not f) = Climbs-vars_of f
Climbs-vars_of (And f g) = Climbs-with_vars (vars_of f) (vars_of g) (Climbs-vars_of g)
Climbs-vars_of (Or f g) = Climbs-with_vars (vars_of f) (vars_of g) (Climbs-vars_of g)
Climbs-vars_of (Ex x f) = Climbs-with_var 0 x (vars_of f) (omega arith) (Climbs-vars_of f)

few : (n low : ℕ) (xs : List Var) → low ≤ n → Climbs low xs → ((x : Var) → IsOneOf x xs → x.0 < n) → length xs + low ≤ n
unfolding Climbs
few n low [] h climbs below = omega arith
few n low (x ∷ xs) h climbs below =
    let first = below x (inl refl) in
    let from = climbs.0 in
    let rest = few n (suc x.0) xs (omega arith) climbs.1 (λ y is. below y (inr is)) in
    omega arith

pub few_vars : (n : ℕ) (f : Tree) → ((x : Var) → IsOneOf x (vars_of f) → x.0 < n) → length (vars_of f) ≤ n
few_vars n f below = let count = few n 0 (vars_of f) (omega arith) (Climbs-vars_of f) below in omega arith
