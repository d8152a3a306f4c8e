-- Unions of lists of items, and differences.
use Rattle.std.specs.Prelude.{ℕ, zero, suc, ◌+◌, List, [], ◌∷◌, ◌++◌, length, map, Bool, true, false}
use Rattle.track_word.specs.declared.tracks.Var.{Var}
use Rattle.lin_formula.specs.Tree.{Tree, Lin, Value, Among, Not, And, Or, Ex, steps}
use Rattle.lin_formula.specs.SetOf.{SetOf, Nothing}
use Rattle.set_plan.specs.declared.stop.PartStep.{PartStep}
use Rattle.set_plan.specs.Program.{Item, Program, Give, Compute, Ask, Empty, Within, bind, each}

-- two symbols
abbrev pub two : SetOf → SetOf → ℕ → SetOf
two s t zero = s
two s t (suc k) = t

-- the symbols outside of negations and disjunctions
abbrev pub positives : Tree → List ℕ
positives (Lin terms rel bound) = []
positives (Value x n) = []
positives (Among set vars) = set ∷ []
positives (Not f) = []
positives (And f g) = positives f ++ positives g
positives (Or f g) = []
positives (Ex x f) = positives f

-- a set, and the number of the next step of the part
abbrev pub Made : Type 0
Made = SetOf × ℕ

abbrev pub compute : {P : Type 0} → P → ℕ → Item → Program P Made
compute part at item =
    Compute (record { part = part; at = at; item = item }) (λ s. Give (s, at + length (steps item.formula)))

-- the set of the item, which is omitted if one of the sets outside of negations and disjunctions is empty
abbrev pub make : {P : Type 0} → P → ℕ → Item → Program P Made
make part at item = Ask (Empty (map item.sets (positives item.formula))) (Give (Nothing, at)) (compute part at item)

-- the union of two sets over these tracks
abbrev pub either : List Var → SetOf → SetOf → Item
either tracks s t = record { formula = Or (Among 0 tracks) (Among 1 tracks); sets = two s t }

-- the union so far with a further set
abbrev pub join : {P : Type 0} → List Var → P → SetOf → Made → Program P Made
join tracks part so_far (next, at) =
    Ask (Empty (next ∷ [])) (Give (so_far, at))
    (Ask (Empty (so_far ∷ [])) (Give (next, at)) (compute part at (either tracks so_far next)))

-- the union so far with the set of one more item, which is joined directly after its own steps
abbrev pub with_item : {P : Type 0} → List Var → P → Item → Made → Program P Made
with_item tracks part item so_far = bind (make part so_far.1 item) (join tracks part so_far.0)

-- the union so far with the items' sets
abbrev pub unite : {P : Type 0} → List Var → P → Made → List Item → Program P Made
unite tracks part so_far items = each items (with_item tracks part) so_far

-- the union of the items' sets, by steps from the named one on
abbrev pub unite_from : {P : Type 0} → List Var → PartStep P → List Item → Program P Made
unite_from tracks from items = unite tracks from.part (Nothing, from.at) items

-- the difference of two sets over these tracks
abbrev pub difference : List Var → SetOf → SetOf → Item
difference tracks s t = record { formula = And (Among 0 tracks) (Not (Among 1 tracks)); sets = two s t }

-- the difference of two sets, without a step if the second is empty
abbrev pub without : {P : Type 0} → List Var → P → SetOf → SetOf → Program P Made
without tracks part s t = Ask (Empty (t ∷ [])) (Give (s, 1)) (make part 1 (difference tracks s t))

-- the union of the items' sets, as a part of its own
abbrev pub union : {P : Type 0} → List Var → P → List Item → Program P SetOf
union tracks part items = bind (unite tracks part (Nothing, 1) items) (λ made. Give made.0)

-- the difference of two sets, as a part of its own
abbrev pub difference_set : {P : Type 0} → List Var → P → SetOf → SetOf → Program P SetOf
difference_set tracks part s t = bind (without tracks part s t) (λ made. Give made.0)

-- the union of two sets, as a part of its own
abbrev pub union_of_two : {P : Type 0} → List Var → P → SetOf → SetOf → Program P SetOf
union_of_two tracks part s t = bind (join tracks part s (t, 1)) (λ made. Give made.0)

-- whether each of the items' sets is empty: they are computed in order, up to the first that is not, as one part
abbrev pub are_empty : {P : Type 0} → P → ℕ → List Item → Program P Bool
are_empty part at [] = Give true
are_empty part at (item ∷ items) =
    bind (make part at item) (λ made. Ask (Empty (made.0 ∷ [])) (are_empty part made.1 items) (Give false))

-- whether the first set is a subset of the second, as a part of its own: it takes the steps of their difference
abbrev pub is_within : {P : Type 0} → List Var → P → SetOf → SetOf → Program P Bool
is_within tracks part s t = bind (difference_set tracks part s t) (λ rest. Ask (Within s t) (Give true) (Give false))
