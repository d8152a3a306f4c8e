-- What a formula says depends on the values of its free variables alone.
use Rattle.std.proofs.Common.{◌≡◌, ◌≢◌, List, [], ◌∷◌, ◌==◌, Bool, true, false, if◌then◌else◌, inl, inr, ℤ, ◌+ℤ◌, ◌*ℤ◌, refl, sym, ap, ◌∙◌, subst, eq-eqb}
use Rattle.track_word.specs.declared.tracks.Var.{Var}
use Rattle.track_word.specs.Tracks.{Values, values_at}
use Rattle.track_word.specs.Atom.{term_vars, sum_of, Compares}
use Rattle.lin_formula.specs.Tree.{Tree, Lin, Value, Among, Not, And, Or, Ex}
use Rattle.lin_formula.specs.Holds.{Sets, Holds, with_value}
use Rattle.lin_formula.specs.Free.{IsOneOf, IsFree}

agree-sum : (v w : Values) (terms : List (ℤ × Var)) → ((x : Var) → IsOneOf x (term_vars terms) → v x.0 ≡ w x.0) → sum_of terms v ≡ sum_of terms w
agree-sum v w [] h = refl
agree-sum v w (t ∷ terms) h =
    ap (λ n. (t.0 *ℤ n) +ℤ sum_of terms v) (h t.1 (inl refl)) ∙ ap (λ n. (t.0 *ℤ w t.1.0) +ℤ n) (agree-sum v w terms (λ x is. h x (inr is)))

pub agree-values : (v w : Values) (vars : List Var) → ((x : Var) → IsOneOf x vars → v x.0 ≡ w x.0) → values_at vars v ≡ values_at vars w
agree-values v w [] h = refl
agree-values v w (x ∷ xs) h = ap (λ n. n ∷ values_at xs v) (h x (inl refl)) ∙ ap (λ l. w x.0 ∷ l) (agree-values v w xs (λ y is. h y (inr is)))

pick : (b : Bool) (n p q : ℤ) → (b ≡ false → p ≡ q) → (if b then n else p) ≡ (if b then n else q)
pick true n p q h = refl
pick false n p q h = h refl

other : (x y : Var) → x.0 == y.0 ≡ false → x ≢ y
other x y differ e =
    let same : x.0 == y.0 ≡ true = eq-eqb x.0 y.0 (ap (λ (v : Var). v.0) e) in cc

agree-with_value : (v w : Values) (y : Var) (n : ℤ) (f : Tree) → ((x : Var) → IsFree x (Ex y f) → v x.0 ≡ w x.0)
    → (x : Var) → IsFree x f → with_value v y n x.0 ≡ with_value w y n x.0
agree-with_value v w y n f h x is = pick (x.0 == y.0) n (v x.0) (w x.0) (λ differ. h x (other x y differ, is))

pub coincide : (f : Tree) (e : Sets) (v w : Values) → ((x : Var) → IsFree x f → v x.0 ≡ w x.0) → Holds f e v → Holds f e w
coincide (Lin terms rel bound) e v w h k = subst (λ s. Compares rel s bound) (agree-sum v w terms h) k
coincide (Value x n) e v w h k = sym (h x refl) ∙ k
coincide (Among set vars) e v w h k = subst (e set) (agree-values v w vars h) k
coincide (Not f) e v w h k = λ l. k (coincide f e w v (λ x is. sym (h x is)) l)
coincide (And f g) e v w h k = (coincide f e v w (λ x is. h x (inl is)) k.0, coincide g e v w (λ x is. h x (inr is)) k.1)
coincide (Or f g) e v w h k =
    elim k [ inl l ↦ inl (coincide f e v w (λ x is. h x (inl is)) l) | inr r ↦ inr (coincide g e v w (λ x is. h x (inr is)) r) ]
coincide (Ex y f) e v w h (n, k) = (n, coincide f e (with_value v y n) (with_value w y n) (agree-with_value v w y n f h) k)
