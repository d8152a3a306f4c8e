-- Equivalence of items, and of lists of items.
use Rattle.std.specs.Prelude.{◌≡◌, ◌↔◌, ◌⊎◌, ℕ, List, [], ◌∷◌, map, ℤ}
use Rattle.lin_formula.specs.Tree.{Tree, steps}
use Rattle.lin_formula.specs.SetOf.{SetOf, Where, Member, members, SomeEmpty, NoneEmpty}
use Rattle.formula_auto.specs.Step.{Exceeds}
use Rattle.set_plan.specs.Program.{Item}
use Rattle.set_plan.specs.Unite.{positives}

abbrev pub SameSets : SetOf → SetOf → Type 0
SameSets s t = (tuple : List ℤ) → Member s tuple ↔ Member t tuple

-- one of the sets is empty on both sides or on neither
pub record SameEmpty (xs ys : List SetOf) : Type 0 where
  pub some : SomeEmpty xs ↔ SomeEmpty ys
  pub none : NoneEmpty xs ↔ NoneEmpty ys

-- step by step the same state counts
abbrev pub SameSteps : List Tree → (ℕ → SetOf) → List Tree → (ℕ → SetOf) → Type 0
SameSteps [] d [] e = Unit {0}
SameSteps [] d (g ∷ gs) e = ⊥
SameSteps (f ∷ fs) d [] e = ⊥
SameSteps (f ∷ fs) d (g ∷ gs) e =
    ((budget : ℕ) → Exceeds f (members d) budget ↔ Exceeds g (members e) budget) × SameSteps fs d gs e

-- the same steps and tuples, and both lack a set or neither does
pub record SameItem (i j : Item) : Type 0 where
  pub steps : SameSteps (steps i.formula) i.sets (steps j.formula) j.sets
  pub members : SameSets (Where i.formula i.sets) (Where j.formula j.sets)
  pub positives : SameEmpty (map i.sets (positives i.formula)) (map j.sets (positives j.formula))

-- the item is omitted from a union
abbrev pub IsLacking : Item → Type 0
IsLacking item = SomeEmpty (map item.sets (positives item.formula))

-- the items of the first list are equivalent to those of the second, of which some may be missing that are omitted from a union
abbrev pub Thinned : List Item → List Item → Type 0
Thinned is [] = is ≡ []
Thinned is (j ∷ js) =
    (IsLacking j × Thinned is js) ⊎ ((i : Item) × (rest : List Item) × (is ≡ i ∷ rest) × SameItem i j × Thinned rest js)
