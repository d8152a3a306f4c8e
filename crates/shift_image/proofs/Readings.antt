-- Formulas that are taken apart, one part more.
use Rattle.std.proofs.Common.{◌≡◌, List, [], ◌∷◌, ◌++◌, map, Bor, refl, ap}
use Rattle.std.proofs.lemmas.List.{map_push}
use Rattle.track_word.specs.declared.tracks.Var.{Var}
use Rattle.lin_formula.specs.Tree.{Tree, And, Ex, Not}
use Rattle.lin_formula.specs.TreeOf.{tree_of}
use Rattle.lin_formula.specs.declared.formula.Formula.{Formula}
use Rattle.shift_image.specs.Image.{and_all, ex_all, change}
use Rattle.shift_image.specs.Read.{trees, with_clear}
use Rattle.shift_image.specs.declared.shift.ValueShift.{ValueShift}

pub and_all-push : (f : Tree) (gs : List Tree) (g : Tree) → and_all f (gs ++ g ∷ []) ≡ And (and_all f gs) g
and_all-push f [] g = refl
and_all-push f (h ∷ gs) g = and_all-push (And f h) gs g

pub ex_all-push : (xs : List Var) (x : Var) (f : Tree) → ex_all (xs ++ x ∷ []) f ≡ ex_all xs (Ex x f)
ex_all-push [] x f = refl
ex_all-push (y ∷ xs) x f = ap (Ex y) (ex_all-push xs x f)

pub clear-push : (f : Tree) (gs : List (Bor Formula)) (g : Bor Formula)
    → with_clear f (gs ++ g ∷ []) ≡ And (with_clear f gs) (Not (tree_of g.now))
clear-push f gs g =
    rw (map_push (λ (f : Bor Formula). tree_of f.now) gs g, map_push Not (trees gs) (tree_of g.now))
    (and_all-push f (map Not (trees gs)) (Not (tree_of g.now)))

pub change-push : (f : Tree) (shifts : List ValueShift) (s : ValueShift)
    → and_all f (map change (shifts ++ s ∷ [])) ≡ And (and_all f (map change shifts)) (change s)
change-push f shifts s = rw (map_push change shifts s) (and_all-push f (map change shifts) (change s))
