-- Lists of formulas, and their sets.
use Rattle.std.proofs.Common.{◌≡◌, ℕ, zero, suc, ◌+◌, ◌<◌, List, [], ◌∷◌, length, map, All, drop, drop-cons, add-one, get_or, Option, Some, None, IfSome, refl, sym, ap, ◌∙◌, subst, arith}
use Rattle.std.proofs.lemmas.List.Elements.{All-head}
use Rattle.track_word.specs.declared.tracks.Var.{Var}
use Rattle.auto_core.specs.Automaton.{Automaton}
use Rattle.lin_formula.specs.declared.formula.Formula.{Formula}
use Rattle.lin_formula.specs.Tree.{Tree, free_vars, steps}
use Rattle.lin_formula.specs.TreeOf.{tree_of}
use Rattle.set_plan.specs.Sets.{IsItemOn, IsReachedOn, IsSetBy, IsSetOn}

-- the front of what is left of a list
pub drop_front : {X : Type 0} (xs : List X) (i : ℕ) (x : X) → i < length xs → x ≡ get_or xs i x → drop i xs ≡ x ∷ drop (i + 1) xs
drop_front xs i x less e = rw add-one (drop-cons xs i x less ∙ ap (λ y. y ∷ drop (suc i) xs) (sym e))

all-at : (P : Tree → Type 0) (fs : List Formula) (i : ℕ) (f : Formula) → All P (map tree_of fs) → i < length fs → f ≡ get_or fs i f → P (tree_of f)
all-at P [] i f h less e = absurd (omega arith)
all-at P (g ∷ fs) zero f h less e = subst (λ (k : Formula). P (tree_of k)) (sym e) (All-head P (tree_of g) (map tree_of fs) h)
all-at P (g ∷ fs) (suc i) f h less e = all-at P fs i f (λ k d within. h (suc k) d (omega arith)) (omega arith) e

pub item-at : (tracks : List Var) (sets : List Automaton) (fs : List Formula) (i : ℕ) (f : Formula) → All (IsItemOn tracks sets) (map tree_of fs)
    → i < length fs → f ≡ get_or fs i f → IsItemOn tracks sets (tree_of f)
item-at tracks sets fs i f h less e = all-at (IsItemOn tracks sets) fs i f h less e

-- the set of a formula that has a step
pub made_on : (tracks : List Var) (f : Tree) → 0 < length (steps f) → free_vars f ≡ tracks → (set : Option Automaton) → IfSome set (IsSetBy f) → IfSome set (IsSetOn tracks)
made_on tracks f some over None is = tt
made_on tracks f some over (Some a) is = record {
  reduced = is.reduced;
  decides = record { integers = is.decides.integers; tracks_are = is.decides.tracks_are ∙ over };
  few = is.few some;
}

-- words lead to each state of a set
pub reached_on : {tracks : List Var} {a : Automaton} → IsSetOn tracks a → IsReachedOn tracks a
reached_on on = record { reached = on.reduced.reached; decides = on.decides; few = on.few }

-- over its own variables
pub item-own : (tracks : List Var) (sets : List Automaton) (f : Tree) → IsItemOn tracks sets f → IsItemOn (free_vars f) sets f
item-own tracks sets f is = record { compilable = is.compilable; some = is.some; few = is.few; over = refl }
