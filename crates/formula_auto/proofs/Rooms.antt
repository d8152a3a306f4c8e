-- What a formula asks holds of its parts too.
use Rattle.std.proofs.Common.{◌≡◌, ◌≢◌, ℕ, suc, ◌≤◌, List, [], ◌∷◌, ◌++◌, length, refl, sym, ap, ◌∙◌, subst, inl, inr, arith, Some, None}
use Rattle.std.specs.List.{All, slice_get}
use Rattle.std.proofs.lemmas.List.Elements.{All-cons, All-tail}
use Rattle.std.proofs.lemmas.Option.{same_Some, slice_get_past}
use Rattle.limits.specs.declared.numbers.TheConstants.{MOST_TRACKS}
use Rattle.auto_core.specs.Integers.{DecidesIntegers}
use Rattle.auto_core.specs.Reduced.{AllReached}
use Rattle.track_word.specs.declared.tracks.Var.{Var}
use Rattle.track_word.specs.Tracks.{with_vars}
use Rattle.auto_core.specs.Automaton.{Automaton}
use Rattle.lin_formula.specs.Tree.{Tree, Lin, Value, Among, Not, And, Or, Ex, IsWellMade, free_vars, vars_of, memberships}
use Rattle.lin_formula.specs.Free.{IsOneOf}
use Rattle.lin_formula.proofs.FreeVars.{one_of-with_var, one_of-with_vars, one_of-without_var}
use Rattle.formula_auto.specs.Distinct.{Apart}
use Rattle.formula_auto.specs.Compiled.{IsSetFor, HasSets, IsCompilable}
use Rattle.formula_auto.specs.Ready.{IsReady}
use Rattle.formula_auto.proofs.Projections.{apart-free}

-- a list in which one is left out
record Without (x : Var) (ys : List Var) : Type 0 where
  pub rest : List Var
  pub shorter : length ys ≡ suc (length rest)
  pub others : (z : Var) → z ≢ x → IsOneOf z ys → IsOneOf z rest

without : (x : Var) (ys : List Var) → IsOneOf x ys → Without x ys
without x [] h = absurd h
without x (y ∷ ys) (inl is) = record {
  rest = ys;
  shorter = refl;
  others = λ z other one. elim one [ inl same ↦ absurd (other (same ∙ sym is)) | inr there ↦ there ];
}
without x (y ∷ ys) (inr there) =
    let part = without x ys there in
    record {
      rest = y ∷ part.rest;
      shorter = ap (λ n. suc n) part.shorter;
      others = λ z other one. elim one [ inl same ↦ inl same | inr deeper ↦ inr (part.others z other deeper) ];
    }

-- different members of a list are no more than its length
pub length-among : (xs ys : List Var) → Apart xs → ((z : Var) → IsOneOf z xs → IsOneOf z ys) → length xs ≤ length ys
length-among [] ys apart h = omega arith
length-among (x ∷ xs) ys apart h =
    let part = without x ys (h x (inl refl)) in
    let rest = length-among xs part.rest apart.1 (λ z one. part.others z (λ is. apart.0 (subst (λ v. IsOneOf v xs) is one)) (h z (inr one))) in
    omega (arith, part.shorter, rest)

All-left : {X : Type 0} (P : X → Type 0) (xs ys : List X) → All P (xs ++ ys) → All P xs
All-left P [] ys h = λ k d within. absurd (omega arith)
All-left P (x ∷ xs) ys h = All-cons P x xs (h 0 x (omega arith)) (All-left P xs ys (All-tail P x (xs ++ ys) h))

All-right : {X : Type 0} (P : X → Type 0) (xs ys : List X) → All P (xs ++ ys) → All P ys
All-right P [] ys h = h
All-right P (x ∷ xs) ys h = All-right P xs ys (All-tail P x (xs ++ ys) h)

-- well made, with sets for what it names, and any different variables of it are few
record Fits (f : Tree) (sets : List Automaton) : Type 0 where
  pub well_made : IsWellMade f
  pub few : (vars : List Var) → Apart vars → ((x : Var) → IsOneOf x vars → IsOneOf x (vars_of f)) → length vars ≤ MOST_TRACKS
  pub has_sets : HasSets sets f

fits : {f : Tree} {sets : List Automaton} → IsCompilable f sets → Fits f sets
fits {f} h = record {
  well_made = h.well_made;
  few = λ vars apart among. let less = length-among vars (vars_of f) apart among in omega (arith, less, h.few_vars);
  has_sets = h.has_sets;
}

fits-left : (f g : Tree) {sets : List Automaton} → Fits (And f g) sets → Fits f sets
fits-left f g {sets} h = record {
  well_made = h.well_made.0;
  few = λ vars apart among. h.few vars apart (λ z one. (one_of-with_vars z (vars_of f) (vars_of g)).1 (inl (among z one)));
  has_sets = All-left (λ m. IsSetFor sets m.0 (length m.1)) (memberships f) (memberships g) h.has_sets;
}

fits-right : (f g : Tree) {sets : List Automaton} → Fits (And f g) sets → Fits g sets
fits-right f g {sets} h = record {
  well_made = h.well_made.1;
  few = λ vars apart among. h.few vars apart (λ z one. (one_of-with_vars z (vars_of f) (vars_of g)).1 (inr (among z one)));
  has_sets = All-right (λ m. IsSetFor sets m.0 (length m.1)) (memberships f) (memberships g) h.has_sets;
}

-- a free variable is one of all
free_among : (f : Tree) (z : Var) → IsOneOf z (free_vars f) → IsOneOf z (vars_of f)
free_among (Lin terms rel bound) z h = h
free_among (Value x n) z h = h
free_among (Among set vars) z h = h
free_among (Not f) z h = free_among f z h
free_among (And f g) z h =
    (one_of-with_vars z (vars_of f) (vars_of g)).1
    (elim ((one_of-with_vars z (free_vars f) (free_vars g)).0 h) [ inl l ↦ inl (free_among f z l) | inr r ↦ inr (free_among g z r) ])
free_among (Or f g) z h =
    (one_of-with_vars z (vars_of f) (vars_of g)).1
    (elim ((one_of-with_vars z (free_vars f) (free_vars g)).0 h) [ inl l ↦ inl (free_among f z l) | inr r ↦ inr (free_among g z r) ])
free_among (Ex x f) z h = (one_of-with_var z x (vars_of f)).1 (inr (free_among f z ((one_of-without_var z x (free_vars f)).0 h).1))

few_tracks : (f g : Tree) {sets : List Automaton} → Fits (And f g) sets → length (with_vars (free_vars f) (free_vars g)) ≤ MOST_TRACKS
few_tracks f g h = h.few (with_vars (free_vars f) (free_vars g)) (apart-free (And f g)) (free_among (And f g))

fits-ready : {f : Tree} {sets : List Automaton} → Fits f sets → IsReady f sets
fits-ready {f = Lin terms rel bound} h = h.well_made
fits-ready {f = Value x n} h = tt
fits-ready {f = Among number vars} h = h.has_sets 0 (number, vars) (omega arith)
fits-ready {f = Not f} {sets} h = fits-ready {f = f} {sets = sets} (record { well_made = h.well_made; few = h.few; has_sets = h.has_sets })
fits-ready {f = And f g} h = (few_tracks f g h, fits-ready (fits-left f g h), fits-ready (fits-right f g h))
fits-ready {f = Or f g} {sets} h =
    let both : Fits (And f g) sets = record { well_made = h.well_made; few = h.few; has_sets = h.has_sets } in
    (few_tracks f g both, fits-ready (fits-left f g both), fits-ready (fits-right f g both))
fits-ready {f = Ex x f} {sets} h = fits-ready {f = f} {sets = sets} (record {
  well_made = h.well_made;
  few = λ vars apart among. h.few vars apart (λ z one. (one_of-with_var z x (vars_of f)).1 (inr (among z one)));
  has_sets = h.has_sets;
})

-- what may be compiled has parts that may
pub ready : {f : Tree} {sets : List Automaton} → IsCompilable f sets → IsReady f sets
ready h = fits-ready (fits h)

module _ (sets : List Automaton) (number : ℕ) (vars : List Var) (named : IsSetFor sets number (length vars)) where
  -- the set that is named has a track for each variable, and decides a set of integers
  pub set_fits : (a : Automaton) → slice_get sets number ≡ Some a → (length vars ≡ length a.tracks) × DecidesIntegers a
  set_fits a there =
      let is : named.set ≡ a = same_Some named.set a (sym named.is_there ∙ there) in
      (sym named.arity ∙ ap (λ b. length b.tracks) is, subst DecidesIntegers is named.integers)

  pub set_reached : (a : Automaton) → slice_get sets number ≡ Some a → AllReached a
  set_reached a there =
      let is : named.set ≡ a = same_Some named.set a (sym named.is_there ∙ there) in
      subst AllReached is named.reached

  pub set_there : length sets ≤ number → ⊥
  set_there past =
      let none : slice_get sets number ≡ None = slice_get_past sets number past in
      let some = named.is_there in cc
