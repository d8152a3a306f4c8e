-- Programs that compute sets, step by step.
use Rattle.std.specs.Prelude.{◌≡◌, ◌↔◌, ◌⊎◌, ℕ, List, [], ◌∷◌, Option, Some, None, ℤ}
use Rattle.lin_formula.specs.Tree.{Tree}
use Rattle.lin_formula.specs.SetOf.{SetOf, Where, Member, SomeEmpty, NoneEmpty, members}
use Rattle.formula_auto.specs.Step.{Exceeds}
use Rattle.auto_core.specs.Automaton.{Automaton}
use Rattle.auto_core.specs.Integers.{DecidesIntegers}

-- a formula with the sets that its symbols denote
pub record Item : Type 0 where
  pub formula : Tree
  pub sets : ℕ → SetOf

-- the set has the tuples for which the formula is true
pub record IsSetOf (item : Item) (s : SetOf) : Type 0 where
  pub same : (tuple : List ℤ) → Member s tuple ↔ Member (Where item.formula item.sets) tuple

-- the item's last step needs more states than the budget
abbrev pub LastExceeds : Item → ℕ → Type 0
LastExceeds item budget = Exceeds item.formula (members item.sets) budget

-- an item of the part with this name, and the number of its first step in the part
pub record Entry (P : Type 0) : Type 0 where
  pub part : P
  pub at : ℕ
  pub item : Item

-- whether one of some sets is empty; whether an automaton decides a set of integer tuples; whether a set is nonempty; whether a set
-- contains each tuple of another
pub data Question : Type 0 where
  Empty : List SetOf → Question
  Stable : Automaton → Question
  Has : SetOf → List ℤ → Question
  Within : SetOf → SetOf → Question

abbrev pub IsYes : Question → Type 0
IsYes (Empty sets) = SomeEmpty sets
IsYes (Stable a) = DecidesIntegers a
IsYes (Has s tuple) = Member s tuple
IsYes (Within s t) = (tuple : List ℤ) → Member s tuple → Member t tuple

abbrev pub IsNo : Question → Type 0
IsNo (Empty sets) = NoneEmpty sets
IsNo (Stable a) = ¬ DecidesIntegers a
IsNo (Has s tuple) = ¬ Member s tuple
IsNo (Within s t) = ¬ ((tuple : List ℤ) → Member s tuple → Member t tuple)

-- returns a value; or computes an item and continues with its set; or continues with the answer to a question
pub data Program (P A : Type 0) : Type 0 where
  Give : A → Program P A
  Compute : Entry P → (SetOf → Program P A) → Program P A
  Ask : Question → Program P A → Program P A → Program P A

abbrev pub bind : {P A B : Type 0} → Program P A → (A → Program P B) → Program P B
bind (Give a) f = f a
bind (Compute entry next) f = Compute entry (λ s. bind (next s) f)
bind (Ask question if_yes if_no) f = Ask question (bind if_yes f) (bind if_no f)

-- for `do` notation
abbrev pub ◌>>=◌ : {P A B : Type 0} → Program P A → (A → Program P B) → Program P B
◌>>=◌ m f = bind m f

-- a program for each element of a list in turn, which continues from the value so far
abbrev pub each : {P A X : Type 0} → List X → (X → A → Program P A) → A → Program P A
each [] f a = Give a
each (x ∷ xs) f a = bind (f x a) (each xs f)

-- the program takes these entries first, and then it has ended with the value, or may continue
abbrev pub Takes : {P A : Type 0} → Program P A → List (Entry P) → Option A → Type 0
Takes (Give a) entries end = (entries ≡ []) × ((end ≡ Some a) ⊎ (end ≡ None))
Takes {P} (Compute entry next) entries end =
    ((entries ≡ []) × (end ≡ None))
    ⊎ ((rest : List (Entry P)) × (s : SetOf) × (entries ≡ entry ∷ rest) × IsSetOf entry.item s
    × Takes (next s) rest end)
Takes (Ask question if_yes if_no) entries end =
    ((entries ≡ []) × (end ≡ None)) ⊎ (IsYes question × Takes if_yes entries end)
    ⊎ (IsNo question × Takes if_no entries end)
