-- Formulas over sets of distances are items of their tables.
use Rattle.std.proofs.Common.{◌≡◌, ℕ, zero, suc, ◌+◌, ◌<◌, ◌≤◌, List, [], ◌∷◌, ◌++◌, map, length, Some, length-append, refl, sym, ap, ◌∙◌, subst, arith}
use Rattle.std.specs.Prelude.{slice_get}
use Rattle.track_word.specs.declared.tracks.Var.{Var}
use Rattle.auto_core.specs.Automaton.{Automaton}
use Rattle.lin_formula.specs.SetOf.{NoneEmpty, tables}
use Rattle.lin_formula.specs.Tree.{Tree, Lin, Value, Among, Not, And, Or, Ex, free_vars, steps, symbols}
use Rattle.formula_auto.specs.Compiled.{IsSetFor}
use Rattle.rule_formula.specs.Seats.{var}
use Rattle.rule_formula.proofs.FineLemmas.{fine_few, fine_made, fine_names}
use Rattle.set_plan.specs.Unite.{positives}
use Rattle.line_plan.specs.Plan.{distances, distances_from}
use Rattle.line_plan.proofs.PartFacts.{both_none}
use Rattle.line_engine.specs.Answers.{IsFilledItem, IsFilledOn, IsOneSet, IsPartOf, NoSet}
use Rattle.rule_formula.specs.Fine.{AreVars, IsFine, IsLow}

-- a membership of which the table has the set
abbrev pub HasSet : List Automaton → ℕ × List Var → Type 0
HasSet sets m = IsSetFor sets m.0 (length m.1)

-- low variables, named sets that are there, and few steps
pub item_filled : (sets : List Automaton) (f : Tree) → IsFine IsLow (HasSet sets) f → 0 < length (steps f) → length (steps f) < 1000
    → NoneEmpty (map (tables sets) (positives f)) → IsFilledItem (free_vars f) sets f
item_filled sets f fine some few none =
    record {
      item = record {
        compilable = record {
          well_made = fine_made IsLow (HasSet sets) f fine;
          few_vars = let most = fine_few (HasSet sets) f fine in omega (arith, most);
          has_sets = fine_names IsLow (HasSet sets) f fine;
        };
        some = some;
        few = few;
        over = refl;
      };
      some = none;
    }

-- a formula that is this one, over a table that is this one
pub told : (table sets : List Automaton) (whole f : Tree) → f ≡ whole → sets ≡ table → IsFilledItem (free_vars whole) table whole → IsFilledItem (free_vars f) sets f
told table sets whole f same is h =
    subst (λ (xs : List Automaton). IsFilledItem (free_vars f) xs f) (sym is) (subst (λ (g : Tree). IsFilledItem (free_vars g) table g) (sym same) h)

low_from : (k n : ℕ) → k + n ≤ 18 → AreVars IsLow (distances_from k n)
low_from k zero room = tt
low_from k (suc n) room = (omega (arith, room), low_from (suc k) n (omega (arith, room)))

pub low_distances : (n : ℕ) → n ≤ 18 → AreVars IsLow (distances n)
low_distances n room = low_from 0 n (omega (arith, room))

-- a set over the distances is there for a membership of them
pub there : (n number : ℕ) (sets : List Automaton) (a : Automaton) → IsFilledOn (distances n) a → slice_get sets number ≡ Some a → HasSet sets (number, distances n)
there n number sets a filled is =
    record {
      set = a;
      is_there = is;
      reached = filled.reached.reached;
      integers = filled.reached.decides.integers;
      arity = ap (λ xs. length xs) filled.reached.decides.tracks_are;
    }

pub any_fine : (V : Var → Type 0) (P : ℕ × List Var → Type 0) (f : Tree) → IsFine V NoSet f → IsFine V P f
any_fine V P (Lin terms rel bound) h = h
any_fine V P (Value x n) h = h
any_fine V P (Among s vars) h = absurd h.0
any_fine V P (Not f) h = any_fine V P f h
any_fine V P (And f g) h = (any_fine V P f h.0, any_fine V P g h.1)
any_fine V P (Or f g) h = (any_fine V P f h.0, any_fine V P g h.1)
any_fine V P (Ex x f) h = (h.0, any_fine V P f h.1)

pub fine_symbols : (V : Var → Type 0) (f : Tree) → IsFine V NoSet f → symbols f ≡ []
fine_symbols V (Lin terms rel bound) h = refl
fine_symbols V (Value x n) h = refl
fine_symbols V (Among s vars) h = absurd h.0
fine_symbols V (Not f) h = fine_symbols V f h
fine_symbols V (And f g) h = both_none (symbols f) (symbols g) (fine_symbols V f h.0) (fine_symbols V g h.1)
fine_symbols V (Or f g) h = both_none (symbols f) (symbols g) (fine_symbols V f h.0) (fine_symbols V g h.1)
fine_symbols V (Ex x f) h = fine_symbols V f h.1

fine_positives : (V : Var → Type 0) (f : Tree) → IsFine V NoSet f → positives f ≡ []
fine_positives V (Lin terms rel bound) h = refl
fine_positives V (Value x n) h = refl
fine_positives V (Among s vars) h = absurd h.0
fine_positives V (Not f) h = refl
fine_positives V (And f g) h = both_none (positives f) (positives g) (fine_positives V f h.0) (fine_positives V g h.1)
fine_positives V (Or f g) h = refl
fine_positives V (Ex x f) h = fine_positives V f h.1

-- the set of the table narrowed by a part
pub narrowed_item : (count n : ℕ) (sets : List Automaton) (part f : Tree) → f ≡ And (Among 0 (distances count)) part → count ≤ 18 → IsOneSet count sets
    → IsPartOf count n part → IsFilledItem (free_vars f) sets f
narrowed_item count n sets part f same room one is =
    let whole : Tree = And (Among 0 (distances count)) part in
    let a : Automaton = one.set in
    let more : length (steps whole) ≡ length (steps part) + 1 = length-append (steps part) (whole ∷ []) in
    let few = is.few_steps in
    let only : NoneEmpty (map (tables (a ∷ [])) (0 ∷ [])) = (one.filled.some, tt) in
    let none : NoneEmpty (map (tables (a ∷ [])) (positives whole)) =
    subst (λ xs. NoneEmpty (map (tables (a ∷ [])) (0 ∷ xs))) (sym (fine_positives IsLow part is.fine)) only in
    let item : IsFilledItem (free_vars whole) (a ∷ []) whole =
    item_filled (a ∷ []) whole
    ((there count 0 (a ∷ []) a one.filled refl, low_distances count room), any_fine IsLow (HasSet (a ∷ [])) part is.fine)
    (omega (arith, more)) (omega (arith, more, few)) none in
    told (a ∷ []) sets whole f same one.is item

-- one set or the other
pub either_item : (n : ℕ) (a b : Automaton) (sets : List Automaton) (f : Tree) → f ≡ Or (Among 0 (distances n)) (Among 1 (distances n)) → sets ≡ a ∷ b ∷ []
    → n ≤ 18 → IsFilledOn (distances n) a → IsFilledOn (distances n) b → IsFilledItem (free_vars f) sets f
either_item n a b sets f same is room first second =
    told (a ∷ b ∷ []) sets (Or (Among 0 (distances n)) (Among 1 (distances n))) f same is
    (item_filled (a ∷ b ∷ []) (Or (Among 0 (distances n)) (Among 1 (distances n)))
    ((there n 0 (a ∷ b ∷ []) a first refl, low_distances n room), (there n 1 (a ∷ b ∷ []) b second refl, low_distances n room))
    (omega arith) (omega arith) tt)

-- the one set without the other
pub difference_item : (n : ℕ) (a b : Automaton) (sets : List Automaton) (f : Tree) → f ≡ And (Among 0 (distances n)) (Not (Among 1 (distances n)))
    → sets ≡ a ∷ b ∷ [] → n ≤ 18 → IsFilledOn (distances n) a → IsFilledOn (distances n) b → IsFilledItem (free_vars f) sets f
difference_item n a b sets f same is room first second =
    told (a ∷ b ∷ []) sets (And (Among 0 (distances n)) (Not (Among 1 (distances n)))) f same is
    (item_filled (a ∷ b ∷ []) (And (Among 0 (distances n)) (Not (Among 1 (distances n))))
    ((there n 0 (a ∷ b ∷ []) a first refl, low_distances n room), (there n 1 (a ∷ b ∷ []) b second refl, low_distances n room))
    (omega arith) (omega arith) (first.some, tt))

-- the set without the last distance
pub shortened_item : (n : ℕ) (a : Automaton) (sets : List Automaton) (f : Tree) → f ≡ Ex (var n) (Among 0 (distances (suc n))) → sets ≡ a ∷ [] → n < 18
    → IsFilledOn (distances (suc n)) a → IsFilledItem (free_vars f) sets f
shortened_item n a sets f same is room filled =
    told (a ∷ []) sets (Ex (var n) (Among 0 (distances (suc n)))) f same is
    (item_filled (a ∷ []) (Ex (var n) (Among 0 (distances (suc n))))
    (room, (there (suc n) 0 (a ∷ []) a filled refl, low_distances (suc n) (omega (arith, room))))
    (omega arith) (omega arith) (filled.some, tt))

-- the same of what the other set has not
pub rest_item : (n : ℕ) (a b : Automaton) (sets : List Automaton) (f : Tree)
    → f ≡ Ex (var n) (And (Among 0 (distances (suc n))) (Not (Among 1 (distances (suc n))))) → sets ≡ a ∷ b ∷ [] → n < 18
    → IsFilledOn (distances (suc n)) a → IsFilledOn (distances (suc n)) b → IsFilledItem (free_vars f) sets f
rest_item n a b sets f same is room first second =
    let low = low_distances (suc n) (omega (arith, room)) in
    told (a ∷ b ∷ []) sets (Ex (var n) (And (Among 0 (distances (suc n))) (Not (Among 1 (distances (suc n)))))) f same is
    (item_filled (a ∷ b ∷ []) (Ex (var n) (And (Among 0 (distances (suc n))) (Not (Among 1 (distances (suc n))))))
    (room, ((there (suc n) 0 (a ∷ b ∷ []) a first refl, low), (there (suc n) 1 (a ∷ b ∷ []) b second refl, low)))
    (omega arith) (omega arith) (first.some, tt))
