-- How many variables an ascending list of them has, and where each of them stands. Crates above cite these lemmas.
use Rattle.std.proofs.Common.{◌≡◌, ℕ, zero, suc, ◌+◌, ◌<◌, ◌≤◌, Bool, true, false, cond, not, List, [], ◌∷◌, length, map, All, get_or, nat_lt, nat_eq, ◌==◌, if◌then◌else◌, arith, inl, inr, ◌⊎◌, refl, sym, subst}
use Rattle.std.proofs.lemmas.Grind.{common_steps}
use Rattle.track_word.specs.declared.tracks.Var.{Var}
use Rattle.track_word.specs.Tracks.{with_var, with_vars, place}

eq-same : (x y : ℕ) → (x == y) ≡ true → y ≡ x
eq-same x y h = grind (arith, common_steps, h)

length-cons : (x y : Var) (ys : List Var) (b e : Bool) → length (with_var x ys) ≤ suc (length ys)
    → length (if b then x ∷ y ∷ ys else (if e then y ∷ ys else y ∷ with_var x ys)) ≤ suc (suc (length ys))
length-cons x y ys true e h = omega arith
length-cons x y ys false true h = omega arith
length-cons x y ys false false h = omega (arith, h)

pub length-with_var : (x : Var) (ys : List Var) → length (with_var x ys) ≤ suc (length ys)
length-with_var x [] = omega arith
length-with_var x (y ∷ ys) = length-cons x y ys (nat_lt x.0 y.0) (x.0 == y.0) (length-with_var x ys)

pub length-with_vars : (xs : List Var) → length (with_vars xs []) ≤ length xs
length-with_vars [] = omega arith
length-with_vars (x ∷ xs) = let one = length-with_var x (with_vars xs []) in let rest = length-with_vars xs in omega (arith, one, rest)

-- a variable stands in a list
abbrev pub HasVar : Var → List Var → Type 0
HasVar v [] = ⊥
HasVar v (y ∷ ys) = (y.0 ≡ v.0) ⊎ HasVar v ys

has-cons : (x y : Var) (ys : List Var) (b e : Bool) → (x.0 == y.0) ≡ e → HasVar x (with_var x ys) → HasVar x (if b then x ∷ y ∷ ys else (if e then y ∷ ys else y ∷ with_var x ys))
has-cons x y ys true e g rest = inl refl
has-cons x y ys false true g rest = inl (eq-same x.0 y.0 g)
has-cons x y ys false false g rest = inr rest

has-with_var : (x : Var) (ys : List Var) → HasVar x (with_var x ys)
has-with_var x [] = inl refl
has-with_var x (y ∷ ys) = has-cons x y ys (nat_lt x.0 y.0) (x.0 == y.0) refl (has-with_var x ys)

kept-tail : (v x y : Var) (ys : List Var) → (HasVar v ys → HasVar v (with_var x ys)) → (y.0 ≡ v.0) ⊎ HasVar v ys → (y.0 ≡ v.0) ⊎ HasVar v (with_var x ys)
kept-tail v x y ys rest (inl e) = inl e
kept-tail v x y ys rest (inr h) = inr (rest h)

kept-cons : (v x y : Var) (ys : List Var) (b e : Bool) → (HasVar v ys → HasVar v (with_var x ys)) → HasVar v (y ∷ ys)
    → HasVar v (if b then x ∷ y ∷ ys else (if e then y ∷ ys else y ∷ with_var x ys))
kept-cons v x y ys true e rest has = inr has
kept-cons v x y ys false true rest has = has
kept-cons v x y ys false false rest has = kept-tail v x y ys rest has

kept-with_var : (v x : Var) (ys : List Var) → HasVar v ys → HasVar v (with_var x ys)
kept-with_var v x [] has = absurd has
kept-with_var v x (y ∷ ys) has = kept-cons v x y ys (nat_lt x.0 y.0) (x.0 == y.0) (kept-with_var v x ys) has

has-with_vars : (xs : List Var) (i : ℕ) (d : Var) → i < length xs → HasVar (get_or xs i d) (with_vars xs [])
has-with_vars [] i d h = absurd (omega (arith, h))
has-with_vars (x ∷ xs) zero d h = has-with_var x (with_vars xs [])
has-with_vars (x ∷ xs) (suc i) d h = kept-with_var (get_or xs i d) x (with_vars xs []) (has-with_vars xs i d (omega (arith, h)))

equal : (a b : ℕ) → a ≡ b → nat_eq a b ≡ true
equal a b e = grind (arith, common_steps, e)

place-cons : (b : Bool) (n size : ℕ) → n < size → cond (not b) (1 + n) 0 < suc size
place-cons true n size h = omega arith
place-cons false n size h = omega arith

place-here : (b : Bool) (n size : ℕ) → b ≡ true → cond (not b) (1 + n) 0 < suc size
place-here b n size h = subst (λ t. cond (not t) (1 + n) 0 < suc size) (sym h) (let e : 0 < suc size = omega arith in e)

place-below : (v : Var) (ys : List Var) → HasVar v ys → place ys v < length ys
place-below v [] has = absurd has
place-below v (y ∷ ys) (inl e) = place-here (nat_eq y.0 v.0) (place ys v) (length ys) (equal y.0 v.0 e)
place-below v (y ∷ ys) (inr has) = place-cons (nat_eq y.0 v.0) (place ys v) (length ys) (place-below v ys has)

map-below : (tracks vars : List Var) → ((i : ℕ) (d : Var) → i < length vars → HasVar (get_or vars i d) tracks) → All (λ p. p < length tracks) (map (place tracks) vars)
map-below tracks [] has i d h = absurd (omega (arith, h))
map-below tracks (v ∷ vars) has zero d h = place-below v tracks (has 0 v (omega arith))
map-below tracks (v ∷ vars) has (suc i) d h = map-below tracks vars (λ j e k. has (suc j) e (omega (arith, k))) i d (omega (arith, h))

-- each variable's place lies below the number of tracks
pub places-below : (vars : List Var) → All (λ p. p < length (with_vars vars [])) (map (place (with_vars vars [])) vars)
places-below vars = map-below (with_vars vars []) vars (has-with_vars vars)
