-- Spots that are led to classes: what is true stays true as places are numbered, classes are given and nodes are added.
use Rattle.std.proofs.Common.{◌≡◌, ◌≢◌, ℕ, ◌<◌, Bool, true, false, List, length, Option, Some, None, AllPairs, arith, refl, sym, ap, ◌∙◌, subst, inl, inr}
use Rattle.std.proofs.lemmas.Bool.{cases_lt}
use Rattle.std.proofs.lemmas.List.{get_or_past}
use Rattle.letter_diagram.specs.declared.diagrams.Shape.{Shape}
use Rattle.letter_diagram.specs.Diagram.{Grows}
use Rattle.letter_diagram.proofs.Lists.{one_place}
use Rattle.auto_walk.specs.Rows.{Extends}
use Rattle.auto_merge.specs.declared.keys.TheConstants.{NO_CLASS}
use Rattle.auto_merge.specs.Graph.{Graph, AddsKey, mark_of}
use Rattle.auto_merge.specs.Keys.{class_in, HasClass, IsOwn, IsValueOf, IsLedBy, Remembers}

-- ---- classes of places

-- each class that a place had it has
pub record HaveMore (old : List (List ℕ)) (table : List ℕ) (new : List (List ℕ)) (more : List ℕ) : Type 0 where
  pub kept : (place : List ℕ) (class : ℕ) → HasClass old table place class → HasClass new more place class

-- places are numbered
pub HaveMore-extends : {old new : List (List ℕ)} (table : List ℕ) → Extends old new → HaveMore old table new table
HaveMore-extends table extends = record {
  kept = λ place class has. record { number = has.number; is = extends.kept has.number place has.is; class_is = has.class_is; is_class = has.is_class };
}

-- classes are given
pub HaveMore-table : (places : List (List ℕ)) {table more : List ℕ} → ((number : ℕ) → class_in table number ≢ NO_CLASS → class_in more number ≡ class_in table number) → HaveMore places table places more
HaveMore-table places keeps = record {
  kept = λ place class has. record {
    number = has.number;
    is = has.is;
    class_is = keeps has.number (λ e. has.is_class (sym has.class_is ∙ e)) ∙ has.class_is;
    is_class = has.is_class;
  };
}

-- a place has one class
pub one_class : {places : List (List ℕ)} {table : List ℕ} (place : List ℕ) (c d : ℕ) → AllPairs (λ p q. p ≢ q) places → HasClass places table place c → HasClass places table place d → c ≡ d
one_class {places} {table} place c d different h k = sym h.class_is ∙ ap (class_in table) (one_place places different h.number k.number place h.is k.is) ∙ k.class_is

-- a number with a class is in the table
pub classed_within : (table : List ℕ) (number : ℕ) → class_in table number ≢ NO_CLASS → number < length table
classed_within table number some = elim (cases_lt number (length table)) [
  | inl within ↦ within
  | inr past ↦ absurd (some (get_or_past table number NO_CLASS past))
]

-- ---- what is more

pub IsOwn-more : {old new : List (List ℕ)} (own : Option ℕ) → Extends old new → (place : List ℕ) → IsOwn old own place → IsOwn new own place
IsOwn-more None extends place is = is
IsOwn-more (Some number) extends place is = extends.kept number place is

pub IsValueOf-more : {old new : List (List ℕ)} {table more : List ℕ} (own : Option ℕ) → Extends old new → HaveMore old table new more → (place : List ℕ) (value : ℕ)
    → IsValueOf old table own place value → IsValueOf new more own place value
IsValueOf-more own extends have place value is = elim is [
  | inl has ↦ inl (have.kept place value has)
  | inr self ↦ inr (IsOwn-more own extends place self.0, self.1)
]

pub IsLedBy-more : {Spot : Type 0} {g : Graph Spot} {old new : List (List ℕ)} {table more : List ℕ} {shapes after : List Shape} {own : Option ℕ} {spot : Spot} {node : ℕ}
    → Extends old new → HaveMore old table new more → Grows shapes after → IsLedBy g old table shapes own spot node → IsLedBy g new more after own spot node
IsLedBy-more {Spot} {g} {old} {new} {table} {more} {shapes} {after} {own} {spot} {node} extends have grows led =
    let known = led.known in
    let longer = grows.longer in
    let top = led.top in
    let same = grows.top node led.known in
    record {
      known = omega (arith, known, longer);
      values = λ letter. subst (IsValueOf new more own (g.leads spot letter)) (sym (grows.map node letter led.known)) (IsValueOf-more own extends have _ _ (led.values letter));
      top = omega (arith, top, same);
    }

pub Remembers-more : {Spot : Type 0} {g : Graph Spot} {old new : List (List ℕ)} {table more : List ℕ} {shapes after : List Shape} {answers : Option ℕ → Spot → ℕ → Type 0}
    → Extends old new → HaveMore old table new more → Grows shapes after → Remembers g old table shapes answers → Remembers g new more after answers
Remembers-more extends have grows all = record { led = λ own spot node is. IsLedBy-more extends have grows (all.led own spot node is) }

-- ---- what is remembered

-- one key more
pub Remembers-adds : {Spot : Type 0} {g : Graph Spot} {places : List (List ℕ)} {table : List ℕ} {shapes : List Shape} {answers more : Option ℕ → Spot → ℕ → Type 0} {own : Option ℕ} {spot : Spot} {node : ℕ}
    → AddsKey answers more own spot node → IsLedBy g places table shapes own spot node → Remembers g places table shapes answers → Remembers g places table shapes more
Remembers-adds {g = g} {places = places} {table = table} {shapes = shapes} {own = own} {spot = spot} {node = node} adds led all = record {
  led = λ o s n is. elim (adds.only o s n is) [
    | inl before ↦ all.led o s n before
    | inr now ↦
        let at_node : IsLedBy g places table shapes own spot n = subst (IsLedBy g places table shapes own spot) (sym now.2) led in
        let at_spot : IsLedBy g places table shapes own s n = subst (λ t. IsLedBy g places table shapes own t n) (sym now.1) at_node in
        subst (λ w. IsLedBy g places table shapes w s n) (sym now.0) at_spot
  ];
}

-- ---- keys

-- a key that is less whole
IsValueOf-mark : {places : List (List ℕ)} {table : List ℕ} (own : Option ℕ) (from to : Bool) → (to ≡ true → from ≡ true) → (place : List ℕ) (value : ℕ)
    → IsValueOf places table (mark_of from own) place value → IsValueOf places table (mark_of to own) place value
IsValueOf-mark own true to only place value is = elim is [ inl has ↦ inl has | inr self ↦ absurd self.0 ]
IsValueOf-mark own false false only place value is = is
IsValueOf-mark own false true only place value is = absurd (let e = only refl in cc)

-- a key serves under any number where it is whole, and else under its own
pub IsLedBy-own : {Spot : Type 0} {g : Graph Spot} {places : List (List ℕ)} {table : List ℕ} {shapes : List Shape} {own : Option ℕ} {spot : Spot} {node : ℕ} (whole : Bool)
    → IsLedBy g places table shapes (mark_of whole own) spot node → IsLedBy g places table shapes own spot node
IsLedBy-own {own = own} whole led = record {
  known = led.known;
  values = λ letter. IsValueOf-mark own whole false (λ e. absurd (let f = e in cc)) _ _ (led.values letter);
  top = led.top;
}
