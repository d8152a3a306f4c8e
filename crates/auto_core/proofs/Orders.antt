-- Terms in the order of their variables. Crates above cite these lemmas.
use Rattle.std.proofs.Common.{◌≡◌, ◌≢◌, ℕ, suc, ℤ, ◌+ℤ◌, ◌*ℤ◌, ◌+◌, Bool, true, false, cond, not, List, [], ◌∷◌, length, map, All, nat_lt, ◌==◌, if◌then◌else◌, arith, inl, inr, refl, sym, ap, ◌∙◌}
use Rattle.std.specs.List.{insert, position_or_len}
use Rattle.std.proofs.lemmas.Grind.{common_steps}
use Rattle.std.proofs.lemmas.Int.{ints}
use Rattle.std.proofs.lemmas.Bool.{cases_eq, true≢false}
use Rattle.track_word.specs.declared.tracks.Var.{Var}
use Rattle.track_word.specs.Tracks.{Values, with_var}
use Rattle.track_word.specs.Atom.{sum_of, term_vars, atom_tracks, IsDistinct}
use Rattle.auto_core.specs.Sums.{with_term, ordered_terms}

place-cons : (b : Bool) (t u : ℤ × Var) (terms : List (ℤ × Var)) (n : ℕ) → insert terms n t ≡ with_term t terms
    → insert (u ∷ terms) (cond (not b) (1 + n) 0) t ≡ (if b then t ∷ u ∷ terms else u ∷ with_term t terms)
place-cons true t u terms n e = refl
place-cons false t u terms n e = ap (λ k. insert (u ∷ terms) k t) (let h : 1 + n ≡ suc n = omega arith in h) ∙ ap (λ l. u ∷ l) e

pub insert-with_term : (t : ℤ × Var) (terms : List (ℤ × Var)) → insert terms (position_or_len (λ u. nat_lt t.1.0 u.1.0) terms) t ≡ with_term t terms
insert-with_term t [] = refl
insert-with_term t (u ∷ terms) = place-cons (nat_lt t.1.0 u.1.0) t u terms (position_or_len (λ u. nat_lt t.1.0 u.1.0) terms) (insert-with_term t terms)

sum-cons : (b : Bool) (t u : ℤ × Var) (terms : List (ℤ × Var)) (v : Values) → sum_of (with_term t terms) v ≡ (t.0 *ℤ v t.1.0) +ℤ sum_of terms v
    → sum_of (if b then t ∷ u ∷ terms else u ∷ with_term t terms) v ≡ (t.0 *ℤ v t.1.0) +ℤ sum_of (u ∷ terms) v
sum-cons true t u terms v e = refl
sum-cons false t u terms v e = ap (λ s. (u.0 *ℤ v u.1.0) +ℤ s) e ∙ swap (u.0 *ℤ v u.1.0) (t.0 *ℤ v t.1.0) (sum_of terms v)
  where
    swap : (a b c : ℤ) → a +ℤ (b +ℤ c) ≡ b +ℤ (a +ℤ c)
    swap a b c = omega (arith, ints)

sum-with_term : (t : ℤ × Var) (terms : List (ℤ × Var)) (v : Values) → sum_of (with_term t terms) v ≡ (t.0 *ℤ v t.1.0) +ℤ sum_of terms v
sum-with_term t [] v = refl
sum-with_term t (u ∷ terms) v = sum-cons (nat_lt t.1.0 u.1.0) t u terms v (sum-with_term t terms v)

pub sum-ordered : (terms : List (ℤ × Var)) (v : Values) → sum_of (ordered_terms terms) v ≡ sum_of terms v
sum-ordered [] v = refl
sum-ordered (t ∷ terms) v = sum-with_term t (ordered_terms terms) v ∙ ap (λ s. (t.0 *ℤ v t.1.0) +ℤ s) (sum-ordered terms v)

length-cons : (b : Bool) (t u : ℤ × Var) (terms : List (ℤ × Var)) → length (with_term t terms) ≡ suc (length terms)
    → length (if b then t ∷ u ∷ terms else u ∷ with_term t terms) ≡ suc (suc (length terms))
length-cons true t u terms e = refl
length-cons false t u terms e = ap suc e

length-with_term : (t : ℤ × Var) (terms : List (ℤ × Var)) → length (with_term t terms) ≡ suc (length terms)
length-with_term t [] = refl
length-with_term t (u ∷ terms) = length-cons (nat_lt t.1.0 u.1.0) t u terms (length-with_term t terms)

pub length-ordered : (terms : List (ℤ × Var)) → length (ordered_terms terms) ≡ length terms
length-ordered [] = refl
length-ordered (t ∷ terms) = length-with_term t (ordered_terms terms) ∙ ap suc (length-ordered terms)

-- a fact of each term, by recursion
abbrev pub Each : (ℤ × Var → Type 0) → List (ℤ × Var) → Type 0
Each P [] = Unit {0}
Each P (t ∷ terms) = P t × Each P terms

pub Each-all : (P : ℤ × Var → Type 0) (terms : List (ℤ × Var)) → All P terms → Each P terms
Each-all P [] all = tt
Each-all P (t ∷ terms) all = (all 0 t (omega arith), Each-all P terms (λ i d h. all (suc i) d (omega (arith, h))))

each-cons : (P : ℤ × Var → Type 0) (b : Bool) (t u : ℤ × Var) (terms : List (ℤ × Var)) → P t → P u → Each P terms → Each P (with_term t terms)
    → Each P (if b then t ∷ u ∷ terms else u ∷ with_term t terms)
each-cons P true t u terms pt pu each with_t = (pt, (pu, each))
each-cons P false t u terms pt pu each with_t = (pu, with_t)

each-with_term : (P : ℤ × Var → Type 0) (t : ℤ × Var) (terms : List (ℤ × Var)) → P t → Each P terms → Each P (with_term t terms)
each-with_term P t [] pt each = (pt, tt)
each-with_term P t (u ∷ terms) pt each = each-cons P (nat_lt t.1.0 u.1.0) t u terms pt each.0 each.1 (each-with_term P t terms pt each.1)

pub each-ordered : (P : ℤ × Var → Type 0) (terms : List (ℤ × Var)) → Each P terms → Each P (ordered_terms terms)
each-ordered P [] each = tt
each-ordered P (t ∷ terms) each = each-with_term P t (ordered_terms terms) each.0 (each-ordered P terms each.1)

pub same-var : (x y : Var) → x.0 ≡ y.0 → x ≡ y
same-var x y e = grind (arith, e)

vars-cons : (b e : Bool) (t u : ℤ × Var) (terms : List (ℤ × Var)) → nat_lt t.1.0 u.1.0 ≡ b → e ≡ false → term_vars (with_term t terms) ≡ with_var t.1 (term_vars terms)
    → term_vars (if b then t ∷ u ∷ terms else u ∷ with_term t terms)
    ≡ (if b then t.1 ∷ u.1 ∷ term_vars terms else (if e then u.1 ∷ term_vars terms else u.1 ∷ with_var t.1 (term_vars terms)))
vars-cons true e t u terms at differ rest = refl
vars-cons false true t u terms at differ rest = absurd (true≢false differ)
vars-cons false false t u terms at differ rest = ap (λ l. u.1 ∷ l) rest

differs : (x y : Var) → x ≢ y → (x.0 == y.0) ≡ false
differs x y ne = elim (cases_eq x.0 y.0) [ inl e ↦ absurd (ne (same-var x y e)) | inr n ↦ grind (arith, common_steps, n) ]

vars-with_term : (t : ℤ × Var) (terms : List (ℤ × Var)) → Each (λ u. u.1 ≢ t.1) terms → term_vars (with_term t terms) ≡ with_var t.1 (term_vars terms)
vars-with_term t [] new = refl
vars-with_term t (u ∷ terms) new = vars-cons (nat_lt t.1.0 u.1.0) (t.1.0 == u.1.0) t u terms refl (differs t.1 u.1 (λ e. new.0 (sym e))) (vars-with_term t terms new.1)

-- the variables of the terms in order
pub vars-ordered : (terms : List (ℤ × Var)) → IsDistinct terms → term_vars (ordered_terms terms) ≡ atom_tracks terms
vars-ordered [] distinct = refl
vars-ordered (t ∷ terms) distinct =
    vars-with_term t (ordered_terms terms) (each-ordered (λ u. u.1 ≢ t.1) terms (Each-all (λ u. u.1 ≢ t.1) terms distinct.0)) ∙ ap (with_var t.1) (vars-ordered terms distinct.1)

pub term_vars-map : (terms : List (ℤ × Var)) → map (λ t. t.1) terms ≡ term_vars terms
term_vars-map [] = refl
term_vars-map (t ∷ terms) = ap (λ l. t.1 ∷ l) (term_vars-map terms)
