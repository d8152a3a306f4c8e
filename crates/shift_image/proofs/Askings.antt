-- What an image names and asks can be compiled.
use Rattle.std.proofs.Common.{◌≡◌, ℕ, ◌+◌, ◌<◌, ◌≤◌, ◌^◌, nat_lt, ◌==◌, if◌then◌else◌, List, [], ◌∷◌, ◌++◌, length, map, All, Some, subst, inl, inr, arith, length-append}
use Rattle.std.specs.List.{slice_get}
use Rattle.std.proofs.Math.Seq.{take-append_seam, drop-append_seam}
use Rattle.std.proofs.lemmas.List.Elements.{All-nil, All-cons, All-take, All-drop}
use Rattle.track_word.specs.declared.tracks.Var.{Var}
use Rattle.track_word.specs.Tracks.{with_var, with_vars, IsAscending}
use Rattle.auto_core.specs.Automaton.{Automaton}
use Rattle.auto_bool.proofs.TrackLemmas.{ascending-with_vars}
use Rattle.auto_core.specs.Integers.{DecidesIntegers}
use Rattle.lin_formula.specs.Tree.{Tree, Lin, Value, Among, Not, And, Or, Ex, free_vars, vars_of, memberships, steps}
use Rattle.lin_formula.proofs.FreeVars.{if_cases, free_vars-ascend, one_of-with_vars}
use Rattle.formula_auto.specs.Compiled.{IsSetFor, IsCompilable}
use Rattle.formula_auto.proofs.Rooms.{set_fits, set_there}
use Rattle.shift_image.specs.Image.{Image, IsShiftable, and_all, ex_all, change, gone, step, image_tree, moved_tree}
use Rattle.shift_image.specs.LeftOut.{MayBeAsked}
use Rattle.shift_image.proofs.Changes.{moved-tree_vars}
use Rattle.formula_auto.proofs.Variables.{same-ascending}

vars_of-ascend : (f : Tree) → IsAscending (vars_of f)
vars_of-ascend (Lin terms rel bound) = free_vars-ascend (Lin terms rel bound)
vars_of-ascend (Value x n) = free_vars-ascend (Value x n)
vars_of-ascend (Among set vars) = free_vars-ascend (Among set vars)
vars_of-ascend (Not f) = vars_of-ascend f
vars_of-ascend (And f g) = ascending-with_vars (vars_of f) (vars_of g) (vars_of-ascend g)
vars_of-ascend (Or f g) = ascending-with_vars (vars_of f) (vars_of g) (vars_of-ascend g)
vars_of-ascend (Ex x f) = ascending-with_vars (x ∷ []) (vars_of f) (vars_of-ascend f)

-- a list with one more is no shorter
longer-with_var : (x : Var) (ys : List Var) → length ys ≤ length (with_var x ys)
longer-with_var x [] = omega arith
longer-with_var x (y ∷ ys) =
    let rest = longer-with_var x ys in
    let Longer : List Var → Type 0 = λ l. length (y ∷ ys) ≤ length l in
    if_cases (nat_lt x.0 y.0) (x ∷ y ∷ ys) (if x.0 == y.0 then y ∷ ys else y ∷ with_var x ys) Longer
    (λ before. omega arith)
    (λ after. if_cases (x.0 == y.0) (y ∷ ys) (y ∷ with_var x ys) Longer (λ same. omega arith) (λ other. omega (arith, rest)))

longer-right : (xs ys : List Var) → length ys ≤ length (with_vars xs ys)
longer-right [] ys = omega arith
longer-right (x ∷ xs) ys = omega (arith, longer-right xs ys, longer-with_var x (with_vars xs ys))

either_order : (xs ys : List Var) → IsAscending xs → IsAscending ys → with_vars xs ys ≡ with_vars ys xs
either_order xs ys up other =
    same-ascending (with_vars xs ys) (with_vars ys xs) (ascending-with_vars xs ys other) (ascending-with_vars ys xs up)
    (λ x one. (one_of-with_vars x ys xs).1 (elim ((one_of-with_vars x xs ys).0 one) [ inl l ↦ inr l | inr r ↦ inl r ]))
    (λ x one. (one_of-with_vars x xs ys).1 (elim ((one_of-with_vars x ys xs).0 one) [ inl l ↦ inr l | inr r ↦ inl r ]))

longer-left : (xs ys : List Var) → IsAscending xs → IsAscending ys → length xs ≤ length (with_vars xs ys)
longer-left xs ys up other = rw (either_order xs ys up other) (longer-right ys xs)

module _ (sets : List Automaton) where
  -- it may be compiled, and has few steps
  record CanBeCompiled (f : Tree) : Type 0 where
    compilable : IsCompilable f sets
    few_steps : length (steps f) < 2 ^ 31

  abbrev Named : ℕ × List Var → Type 0
  Named m = IsSetFor sets m.0 (length m.1)

  size-and : (f g : Tree) → length (steps (And f g)) ≡ length (steps f) + length (steps g) + 1
  size-and f g = simp length-append (omega arith)

  left : (f g : Tree) → CanBeCompiled (And f g) → CanBeCompiled f
  left f g h = record {
    compilable = record {
      well_made = h.compilable.well_made.0;
      few_vars = omega (arith, h.compilable.few_vars, longer-left (vars_of f) (vars_of g) (vars_of-ascend f) (vars_of-ascend g));
      has_sets = subst (All Named) (take-append_seam (memberships f) (memberships g))
          (All-take Named (length (memberships f)) (memberships f ++ memberships g) h.compilable.has_sets);
    };
    few_steps = omega (arith, h.few_steps, size-and f g);
  }

  right : (f g : Tree) → CanBeCompiled (And f g) → CanBeCompiled g
  right f g h = record {
    compilable = record {
      well_made = h.compilable.well_made.1;
      few_vars = omega (arith, h.compilable.few_vars, longer-right (vars_of f) (vars_of g));
      has_sets = subst (All Named) (drop-append_seam (memberships f) (memberships g))
          (All-drop Named (length (memberships f)) (memberships f ++ memberships g) h.compilable.has_sets);
    };
    few_steps = omega (arith, h.few_steps, size-and f g);
  }

  inside-not : (f : Tree) → CanBeCompiled (Not f) → CanBeCompiled f
  inside-not f h = record {
    compilable = record { well_made = h.compilable.well_made; few_vars = h.compilable.few_vars; has_sets = h.compilable.has_sets };
    few_steps = h.few_steps;
  }

  inside-ex : (x : Var) (f : Tree) → CanBeCompiled (Ex x f) → CanBeCompiled f
  inside-ex x f h = record {
    compilable = record {
      well_made = h.compilable.well_made;
      few_vars = omega (arith, h.compilable.few_vars, longer-with_var x (vars_of f));
      has_sets = h.compilable.has_sets;
    };
    few_steps =
        let size : length (steps (Ex x f)) ≡ length (steps f) + 1 = simp length-append (omega arith) in
        omega (arith, h.few_steps, size);
  }

  inside-ex_all : (xs : List Var) (f : Tree) → CanBeCompiled (ex_all xs f) → CanBeCompiled f
  inside-ex_all [] f h = h
  inside-ex_all (x ∷ xs) f h = inside-ex_all xs f (inside-ex x (ex_all xs f) h)

  first : (f : Tree) (gs : List Tree) → CanBeCompiled (and_all f gs) → CanBeCompiled f
  first f [] h = h
  first f (g ∷ gs) h = left f g (first (And f g) gs h)

  others : (f : Tree) (gs : List Tree) → CanBeCompiled (and_all f (map Not gs)) → All CanBeCompiled gs
  others f [] h = All-nil CanBeCompiled
  others f (g ∷ gs) h =
      All-cons CanBeCompiled g gs (inside-not g (right f (Not g) (first (And f (Not g)) (map Not gs) h))) (others (And f (Not g)) gs h)

  module _ (i : Image) (compilable : IsCompilable (image_tree i) sets) (few_steps : length (steps (image_tree i)) < 2 ^ 31) where
    body : CanBeCompiled (and_all (step i) (map Not i.clear))
    body = inside-ex_all (gone i.shifts) (and_all (step i) (map Not i.clear)) (record { compilable = compilable; few_steps = few_steps })

    has_set : IsSetFor sets i.set (length i.vars)
    has_set =
        let among = first (Among i.set i.vars) (map change i.shifts) (first (step i) (map Not i.clear) body) in
        among.compilable.has_sets 0 (i.set, i.vars) (omega arith)

    -- the set is there, has a track for each variable, and decides a set of integers
    pub set_is_there : length sets ≤ i.set → ⊥
    set_is_there = set_there sets i.set i.vars has_set

    pub set_is_fit : (a : Automaton) → slice_get sets i.set ≡ Some a → (length i.vars ≡ length a.tracks) × DecidesIntegers a
    set_is_fit = set_fits sets i.set i.vars has_set

    -- what the image asks may be asked of the moved set
    pub may_ask : (a : Automaton) → IsShiftable i → a.tracks ≡ free_vars (moved_tree i) → All (MayBeAsked sets a.tracks) i.clear
    may_ask a is same k g within =
        let can = others (step i) i.clear body k g within in
        record {
          compilable = can.compilable;
          few_steps = can.few_steps;
          about = λ x one. rw same ((moved-tree_vars is x).1 (is.clear k g within x one));
        }
