-- What is typed may be asked.
use Rattle.std.proofs.Common.{◌≡◌, ◌≢◌, ◌⊎◌, inl, inr, ℕ, ◌+◌, ◌<◌, ◌≤◌, List, [], ◌∷◌, ◌++◌, length, ℤ, refl, sym, ap, ◌∙◌, subst, length-append, arith}
use Rattle.std.specs.List.{All}
use Rattle.std.proofs.lemmas.List.Elements.{All-cons, All-head, All-nil, All-tail}
use Rattle.track_word.specs.declared.tracks.Var.{Var}
use Rattle.track_word.specs.Atom.{term_vars}
use Rattle.lin_formula.specs.Tree.{Tree, IsWellMade, free_vars, memberships, steps, vars_of}
use Rattle.lin_formula.specs.Free.{IsFree, IsOneOf}
use Rattle.lin_formula.proofs.FreeVars.{free_vars-free, one_of-with_var, one_of-with_vars}
use Rattle.arith_desk.specs.declared.words.BinaryOp.{BinaryOp}
use Rattle.arith_desk.specs.declared.words.BinaryOp.TheVariants.{And, Or}
use Rattle.arith_desk.specs.declared.words.Quantifier.{Quantifier}
use Rattle.arith_desk.specs.declared.words.Quantifier.TheVariants as quantifiers
use Rattle.arith_desk.specs.Line.{AreFields, parted}
use Rattle.arith_desk.specs.Typed.{Typed, Compared, Denied, Joined, Bound, IsProper, bind, join, meaning, spelled}
use Rattle.arith_desk.specs.Question.{IsQuestion}

known_terms : (scope : List Var) (terms : List (ℤ × Var)) (x : Var) → All (λ t. IsOneOf t.1 scope) terms → IsOneOf x (term_vars terms) → IsOneOf x scope
known_terms scope [] x known is = absurd is
known_terms scope (t ∷ terms) x known (inl is) = subst (λ y. IsOneOf y scope) (sym is) (All-head (λ t. IsOneOf t.1 scope) t terms known)
known_terms scope (t ∷ terms) x known (inr is) = known_terms scope terms x (All-tail (λ t. IsOneOf t.1 scope) t terms known) is

free_join : (connective : BinaryOp) (f g : Tree) (x : Var) → IsFree x (join connective f g) → IsFree x f ⊎ IsFree x g
free_join And f g x h = h
free_join Or f g x h = h

free_bind : (quantifier : Quantifier) (y : Var) (f : Tree) (x : Var) → IsFree x (bind quantifier y f) → (x ≢ y) × IsFree x f
free_bind quantifiers.Ex y f x h = h
free_bind quantifiers.All y f x h = h

-- a free variable is that of a quantifier around
free_known : (scope : List Var) (t : Typed) (x : Var) → IsProper scope t → IsFree x (meaning t) → IsOneOf x scope
free_known scope (Compared rel terms bound) x proper free = known_terms scope terms x proper.1 free
free_known scope (Denied f) x proper free = free_known scope f x proper free
free_known scope (Joined connective f g) x proper free =
    elim (free_join connective (meaning f) (meaning g) x free) [
      | inl left ↦ free_known scope f x proper.0 left
      | inr right ↦ free_known scope g x proper.1 right
    ]
free_known scope (Bound quantifier y f) x proper free =
    let inside = free_bind quantifier y (meaning f) x free in
    elim (free_known (y ∷ scope) f x proper.2 inside.1) [
      | inl is ↦ absurd (inside.0 is)
      | inr outer ↦ outer
    ]

none_of : (vars : List Var) → ((x : Var) → IsOneOf x vars → ⊥) → vars ≡ []
none_of [] none = refl
none_of (x ∷ xs) none = absurd (none x (inl refl))

well_join : (connective : BinaryOp) (f g : Tree) → IsWellMade f → IsWellMade g → IsWellMade (join connective f g)
well_join And f g a b = (a, b)
well_join Or f g a b = (a, b)

well_bind : (quantifier : Quantifier) (x : Var) (f : Tree) → IsWellMade f → IsWellMade (bind quantifier x f)
well_bind quantifiers.Ex x f a = a
well_bind quantifiers.All x f a = a

well_made : (scope : List Var) (t : Typed) → IsProper scope t → IsWellMade (meaning t)
well_made scope (Compared rel terms bound) proper = proper.0
well_made scope (Denied f) proper = well_made scope f proper
well_made scope (Joined connective f g) proper = well_join connective (meaning f) (meaning g) (well_made scope f proper.0) (well_made scope g proper.1)
well_made scope (Bound quantifier x f) proper = well_bind quantifier x (meaning f) (well_made (x ∷ scope) f proper.2)

names_join : (connective : BinaryOp) (f g : Tree) → memberships f ≡ [] → memberships g ≡ [] → memberships (join connective f g) ≡ []
names_join And f g a b = ap (λ l. l ++ memberships g) a ∙ b
names_join Or f g a b = ap (λ l. l ++ memberships g) a ∙ b

names_bind : (quantifier : Quantifier) (x : Var) (f : Tree) → memberships f ≡ [] → memberships (bind quantifier x f) ≡ []
names_bind quantifiers.Ex x f a = a
names_bind quantifiers.All x f a = a

names_none : (t : Typed) → memberships (meaning t) ≡ []
names_none (Compared rel terms bound) = refl
names_none (Denied f) = names_none f
names_none (Joined connective f g) = names_join connective (meaning f) (meaning g) (names_none f) (names_none g)
names_none (Bound quantifier x f) = names_bind quantifier x (meaning f) (names_none f)

abbrev AreLetters : List Var → Type 0
AreLetters vars = (x : Var) → IsOneOf x vars → x.0 < 16

letters_both : (xs ys : List Var) → AreLetters xs → AreLetters ys → (x : Var) → (IsOneOf x xs ⊎ IsOneOf x ys) → x.0 < 16
letters_both xs ys a b x (inl h) = a x h
letters_both xs ys a b x (inr h) = b x h

letters_more : (y : Var) (ys : List Var) → y.0 < 16 → AreLetters ys → (x : Var) → ((x ≡ y) ⊎ IsOneOf x ys) → x.0 < 16
letters_more y ys low a x (inl h) = subst (λ (z : Var). z.0 < 16) (sym h) low
letters_more y ys low a x (inr h) = a x h

letters_join : (connective : BinaryOp) (f g : Tree) → AreLetters (vars_of f) → AreLetters (vars_of g) → AreLetters (vars_of (join connective f g))
letters_join And f g a b = λ x h. letters_both (vars_of f) (vars_of g) a b x ((one_of-with_vars x (vars_of f) (vars_of g)).0 h)
letters_join Or f g a b = λ x h. letters_both (vars_of f) (vars_of g) a b x ((one_of-with_vars x (vars_of f) (vars_of g)).0 h)

letters_bind : (quantifier : Quantifier) (y : Var) (f : Tree) → y.0 < 16 → AreLetters (vars_of f) → AreLetters (vars_of (bind quantifier y f))
letters_bind quantifiers.Ex y f low a = λ x h. letters_more y (vars_of f) low a x ((one_of-with_var x y (vars_of f)).0 h)
letters_bind quantifiers.All y f low a = λ x h. letters_more y (vars_of f) low a x ((one_of-with_var x y (vars_of f)).0 h)

letters_terms : (scope : List Var) (terms : List (ℤ × Var)) → AreLetters scope → All (λ t. IsOneOf t.1 scope) terms → (x : Var)
    → (IsOneOf x (term_vars terms) ⊎ IsOneOf x []) → x.0 < 16
letters_terms scope terms low known x (inl h) = low x (known_terms scope terms x known h)
letters_terms scope terms low known x (inr h) = absurd h

letters : (scope : List Var) (t : Typed) → AreLetters scope → IsProper scope t → AreLetters (vars_of (meaning t))
letters scope (Compared rel terms bound) low proper = λ x h. letters_terms scope terms low proper.1 x ((one_of-with_vars x (term_vars terms) []).0 h)
letters scope (Denied f) low proper = letters scope f low proper
letters scope (Joined connective f g) low proper = letters_join connective (meaning f) (meaning g) (letters scope f low proper.0) (letters scope g low proper.1)
letters scope (Bound quantifier y f) low proper =
    letters_bind quantifier y (meaning f) proper.0 (letters (y ∷ scope) f (λ x h. letters_more y scope proper.0 low x h) proper.2)

all_letters : (vars : List Var) → AreLetters vars → All (λ x. x.0 < 16) vars
all_letters [] h = All-nil (λ x. x.0 < 16)
all_letters (x ∷ xs) h = All-cons (λ x. x.0 < 16) x xs (h x (inl refl)) (all_letters xs (λ y is. h y (inr is)))

steps_join : (connective : BinaryOp) (f g : Tree) → length (steps (join connective f g)) ≡ length (steps f) + length (steps g) + 1
steps_join And f g = simp length-append (omega arith)
steps_join Or f g = simp length-append (omega arith)

steps_bind : (quantifier : Quantifier) (x : Var) (f : Tree) → length (steps (bind quantifier x f)) ≡ length (steps f) + 1
steps_bind quantifiers.Ex x f = simp length-append
steps_bind quantifiers.All x f = simp length-append

-- a formula has fewer steps than fields
few_steps : (t : Typed) → length (steps (meaning t)) < length (spelled t)
few_steps (Compared rel terms bound) = omega arith
few_steps (Denied f) = let part = few_steps f in omega arith
few_steps (Joined connective f g) =
    let first = few_steps f in
    let second = few_steps g in
    let count = steps_join connective (meaning f) (meaning g) in
    let size = length-append (spelled f) (spelled g) in
    omega arith
few_steps (Bound quantifier x f) =
    let part = few_steps f in
    let count = steps_bind quantifier x (meaning f) in
    omega arith

-- at most one more field than bytes
pub few_fields : (fields : List (List ℕ)) → length fields ≤ length (parted fields) + 1
few_fields [] = omega arith
few_fields (field ∷ []) = omega arith
few_fields (field ∷ next ∷ fields) =
    let rest = few_fields (next ∷ fields) in
    let size = length-append field (32 ∷ parted (next ∷ fields)) in
    omega arith

pub question_typed : {line : List ℕ} (t : Typed) → length line ≤ 200 → AreFields line (spelled t) → IsProper [] t → IsQuestion (meaning t)
question_typed {line} t short are proper =
    let size : length line ≡ length (parted (spelled t)) = ap length are.is in
    let fields = few_fields (spelled t) in
    let steps_few = few_steps t in
    record {
      closed = none_of (free_vars (meaning t)) (λ x is. free_known [] t x proper ((free_vars-free (meaning t) x).0 is));
      well_made = well_made [] t proper;
      no_sets = names_none t;
      letters = all_letters (vars_of (meaning t)) (letters [] t (λ x is. absurd is) proper);
      few_steps = omega arith;
    }
