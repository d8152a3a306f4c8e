-- The list of free variables has those that are free, in ascending order.
use Rattle.std.proofs.Common.{◌≡◌, ◌≢◌, ◌↔◌, ◌⊎◌, ℕ, ◌+◌, ◌<◌, List, [], ◌∷◌, map, Bool, true, false, nat_lt, ◌==◌, if◌then◌else◌, not, inl, inr, refl, ap, ◌∙◌, arith, eq-eqb}
use Rattle.std.specs.List.{All, AllPairs}
use Rattle.std.proofs.lemmas.Bool.{eqb-true}
use Rattle.std.proofs.lemmas.Bool.Decides.{nat_tests}
use borrow.Author.Tests.{ltb-true}
use Rattle.std.proofs.lemmas.List.Elements.{All-cons}
use Rattle.std.proofs.lemmas.List.Kept.{AllPairs-cons}
use Rattle.track_word.specs.declared.tracks.Var.{Var}
use Rattle.track_word.specs.Tracks.{IsAscending, with_var, with_vars, without_var}
use Rattle.track_word.specs.Atom.{term_vars}
pub use Rattle.auto_core.proofs.Orders.{same-var}
use Rattle.lin_formula.specs.Tree.{Tree, Lin, Value, Among, Not, And, Or, Ex, free_vars}
use Rattle.lin_formula.specs.Free.{IsOneOf, IsFree}

pub if_cases : {A : Type 0} (b : Bool) (s t : A) (P : A → Type 0) → (b ≡ true → P s) → (b ≡ false → P t) → P (if b then s else t)
if_cases true s t P f g = f refl
if_cases false s t P f g = g refl

-- one of a list with one more
pub one_of-with_var : (z x : Var) (ys : List Var) → IsOneOf z (with_var x ys) ↔ ((z ≡ x) ⊎ IsOneOf z ys)
one_of-with_var z x [] = (λ h. h, λ h. h)
one_of-with_var z x (y ∷ ys) =
    if_cases (nat_lt x.0 y.0) (x ∷ y ∷ ys) (if x.0 == y.0 then y ∷ ys else y ∷ with_var x ys) (λ l. IsOneOf z l ↔ ((z ≡ x) ⊎ IsOneOf z (y ∷ ys)))
    (λ e. (λ h. h, λ h. h))
    (λ e. if_cases (x.0 == y.0) (y ∷ ys) (y ∷ with_var x ys) (λ l. IsOneOf z l ↔ ((z ≡ x) ⊎ IsOneOf z (y ∷ ys)))
    (λ same. (λ h. inr h, λ h. elim h [ inl is ↦ inl (is ∙ same-var x y (eqb-true x.0 y.0 same)) | inr k ↦ k ]))
    (λ other.
    let rest = one_of-with_var z x ys in (
      λ h. elim h [ inl is ↦ inr (inl is) | inr k ↦ elim (rest.0 k) [ inl is ↦ inl is | inr l ↦ inr (inr l) ] ],
      λ h. elim h [ inl is ↦ inr (rest.1 (inl is)) | inr k ↦ elim k [ inl is ↦ inl is | inr l ↦ inr (rest.1 (inr l)) ] ],
    )))

pub one_of-with_vars : (z : Var) (xs ys : List Var) → IsOneOf z (with_vars xs ys) ↔ (IsOneOf z xs ⊎ IsOneOf z ys)
one_of-with_vars z [] ys = (λ h. inr h, λ h. elim h [ inl k ↦ absurd k | inr k ↦ k ])
one_of-with_vars z (x ∷ xs) ys =
    let here = one_of-with_var z x (with_vars xs ys) in
    let rest = one_of-with_vars z xs ys in (
      λ h. elim (here.0 h) [ inl is ↦ inl (inl is) | inr k ↦ elim (rest.0 k) [ inl l ↦ inl (inr l) | inr l ↦ inr l ] ],
      λ h. here.1 (elim h [ inl k ↦ elim k [ inl is ↦ inl is | inr l ↦ inr (rest.1 (inl l)) ] | inr l ↦ inr (rest.1 (inr l)) ]),
    )

one_of-with_none : (z : Var) (xs : List Var) → IsOneOf z (with_vars xs []) ↔ IsOneOf z xs
one_of-with_none z xs =
    let all = one_of-with_vars z xs [] in
    (λ h. elim (all.0 h) [ inl k ↦ k | inr k ↦ absurd k ], λ h. all.1 (inl h))

twice : (b : Bool) → not (not b) ≡ true → b ≡ true
twice true e = refl
twice false e = e

eq-same : (n : ℕ) → n == n ≡ true
eq-same n = eq-eqb n n refl

both_free : (fs gs : List Var) (F G : Type 0) (x : Var) → IsOneOf x fs ↔ F → IsOneOf x gs ↔ G → IsOneOf x (with_vars fs gs) ↔ (F ⊎ G)
both_free fs gs F G x f g =
    let all = one_of-with_vars x fs gs in (
      λ h. elim (all.0 h) [ inl k ↦ inl (f.0 k) | inr k ↦ inr (g.0 k) ],
      λ h. all.1 (elim h [ inl k ↦ inl (f.1 k) | inr k ↦ inr (g.1 k) ]),
    )

differs : (z x y : Var) → z ≡ y → not (y.0 == x.0) ≡ true → z ≢ x
differs z x y is other e =
    let same : y.0 == x.0 ≡ true = rw (← is, e) (eq-same x.0) in cc

pub one_of-without_var : (z x : Var) (ys : List Var) → IsOneOf z (without_var x ys) ↔ ((z ≢ x) × IsOneOf z ys)
one_of-without_var z x [] = (λ h. absurd h, λ h. h.1)
one_of-without_var z x (y ∷ ys) =
    let rest = one_of-without_var z x ys in
    if_cases (not (y.0 == x.0)) (y ∷ without_var x ys) (without_var x ys) (λ l. IsOneOf z l ↔ ((z ≢ x) × IsOneOf z (y ∷ ys)))
    (λ e. (
      λ h. elim h [ inl is ↦ (differs z x y is e, inl is) | inr k ↦ let r = rest.0 k in (r.0, inr r.1) ],
      λ h. elim h.1 [ inl is ↦ inl is | inr k ↦ inr (rest.1 (h.0, k)) ],
    ))
    (λ e. (
      λ h. let r = rest.0 h in (r.0, inr r.1),
      λ h. elim h.1 [
        | inl is ↦
            let back : not (not (y.0 == x.0)) ≡ true = ap not e in
            absurd (h.0 (is ∙ same-var y x (eqb-true y.0 x.0 (twice (y.0 == x.0) back))))
        | inr k ↦ rest.1 (h.0, k)
      ],
    ))

pub free_vars-free : (f : Tree) (x : Var) → IsOneOf x (free_vars f) ↔ IsFree x f
free_vars-free (Lin terms rel bound) x = one_of-with_none x (term_vars terms)
free_vars-free (Value y n) x = (λ h. elim h [ inl is ↦ is | inr k ↦ absurd k ], λ h. inl h)
free_vars-free (Among set vars) x = one_of-with_none x vars
free_vars-free (Not f) x = free_vars-free f x
free_vars-free (And f g) x = both_free (free_vars f) (free_vars g) (IsFree x f) (IsFree x g) x (free_vars-free f x) (free_vars-free g x)
free_vars-free (Or f g) x = both_free (free_vars f) (free_vars g) (IsFree x f) (IsFree x g) x (free_vars-free f x) (free_vars-free g x)
free_vars-free (Ex y f) x =
    let here = one_of-without_var x y (free_vars f) in
    let part = free_vars-free f x in
    (λ h. let r = here.0 h in (r.0, part.0 r.1), λ h. here.1 (h.0, part.1 h.1))

-- each is above x
Below : ℕ → List Var → Type 0
Below x [] = Unit {0}
Below x (y ∷ ys) = (x < y.0) × Below x ys

Ascends : List Var → Type 0
Ascends [] = Unit {0}
Ascends (x ∷ xs) = Below x.0 xs × Ascends xs

Below-lower : (x y : ℕ) (ys : List Var) → x < y → Below y ys → Below x ys
unfolding Below
Below-lower x y [] less h = tt
Below-lower x y (z ∷ zs) less h = (omega (arith, h.0), Below-lower x y zs less h.1)

Below-with_var : (z : ℕ) (x : Var) (ys : List Var) → z < x.0 → Below z ys → Below z (with_var x ys)
unfolding Below
Below-with_var z x [] less h = (less, tt)
Below-with_var z x (y ∷ ys) less h =
    if_cases (nat_lt x.0 y.0) (x ∷ y ∷ ys) (if x.0 == y.0 then y ∷ ys else y ∷ with_var x ys) (Below z)
    (λ e. (less, h))
    (λ e. if_cases (x.0 == y.0) (y ∷ ys) (y ∷ with_var x ys) (Below z) (λ same. h) (λ other. (h.0, Below-with_var z x ys less h.1)))

Ascends-with_var : (x : Var) (ys : List Var) → Ascends ys → Ascends (with_var x ys)
unfolding Ascends Below
Ascends-with_var x [] h = (tt, tt)
Ascends-with_var x (y ∷ ys) h =
    if_cases (nat_lt x.0 y.0) (x ∷ y ∷ ys) (if x.0 == y.0 then y ∷ ys else y ∷ with_var x ys) Ascends
    (λ e. let less = ltb-true x.0 y.0 e in ((less, Below-lower x.0 y.0 ys less h.0), h))
    (λ e. if_cases (x.0 == y.0) (y ∷ ys) (y ∷ with_var x ys) Ascends
    (λ same. h)
    (λ other.
    let above : y.0 < x.0 = grind (arith, nat_tests) in
    (Below-with_var y.0 x ys above h.0, Ascends-with_var x ys h.1)))

Ascends-with_vars : (xs ys : List Var) → Ascends ys → Ascends (with_vars xs ys)
Ascends-with_vars [] ys h = h
Ascends-with_vars (x ∷ xs) ys h = Ascends-with_var x (with_vars xs ys) (Ascends-with_vars xs ys h)

Below-without : (z : ℕ) (x : Var) (ys : List Var) → Below z ys → Below z (without_var x ys)
unfolding Below
Below-without z x [] h = tt
Below-without z x (y ∷ ys) h =
    if_cases (not (y.0 == x.0)) (y ∷ without_var x ys) (without_var x ys) (Below z) (λ e. (h.0, Below-without z x ys h.1)) (λ e. Below-without z x ys h.1)

Ascends-without : (x : Var) (ys : List Var) → Ascends ys → Ascends (without_var x ys)
unfolding Ascends
Ascends-without x [] h = tt
Ascends-without x (y ∷ ys) h =
    if_cases (not (y.0 == x.0)) (y ∷ without_var x ys) (without_var x ys) Ascends (λ e. (Below-without y.0 x ys h.0, Ascends-without x ys h.1)) (λ e. Ascends-without x ys h.1)

Ascends-free : (f : Tree) → Ascends (free_vars f)
unfolding Ascends Below
Ascends-free (Lin terms rel bound) = Ascends-with_vars (term_vars terms) [] tt
Ascends-free (Value y n) = (tt, tt)
Ascends-free (Among set vars) = Ascends-with_vars vars [] tt
Ascends-free (Not f) = Ascends-free f
Ascends-free (And f g) = Ascends-with_vars (free_vars f) (free_vars g) (Ascends-free g)
Ascends-free (Or f g) = Ascends-with_vars (free_vars f) (free_vars g) (Ascends-free g)
Ascends-free (Ex y f) = Ascends-without y (free_vars f) (Ascends-free f)

Below-all : (x : ℕ) (ys : List Var) → Below x ys → All (λ y. x < y) (map (λ v. v.0) ys)
unfolding Below
Below-all x [] h = λ k d within. absurd (omega arith)
Below-all x (y ∷ ys) h = All-cons (λ n. x < n) y.0 (map (λ v. v.0) ys) h.0 (Below-all x ys h.1)

Ascends-pairs : (xs : List Var) → Ascends xs → AllPairs (λ x y. x < y) (map (λ v. v.0) xs)
unfolding Ascends
Ascends-pairs [] h = λ i j d less within. absurd (omega arith)
Ascends-pairs (x ∷ xs) h = AllPairs-cons (λ x y. x < y) x.0 (map (λ v. v.0) xs) (Below-all x.0 xs h.0) (Ascends-pairs xs h.1)

Ascends-ascending : (xs : List Var) → Ascends xs → IsAscending xs
Ascends-ascending xs h k within = Ascends-pairs xs h k (k + 1) 0 (omega arith) within

pub free_vars-ascend : (f : Tree) → IsAscending (free_vars f)
free_vars-ascend f = Ascends-ascending (free_vars f) (Ascends-free f)
