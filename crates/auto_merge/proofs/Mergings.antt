-- What is known of a merging, as places are numbered, spots are led and classes are given.
use Rattle.std.proofs.Common.{◌≡◌, ◌≢◌, ℕ, ◌<◌, ◌≤◌, ◌^◌, Bool, List, [], ◌∷◌, ◌++◌, length, get_or, slice_get, Option, Some, AllPairs, arith, refl, sym, ap, ◌∙◌, subst, inl, inr}
use Rattle.std.proofs.lemmas.Option.{slice_get_within, slice_get-get_or, same_Some}
use Rattle.letter_diagram.specs.declared.diagrams.Shape.{Shape}
use Rattle.letter_diagram.specs.Diagram.{Grows}
use Rattle.letter_diagram.proofs.Lists.{one_place}
use Rattle.letter_diagram.proofs.Maps.{Grows-refl, Grows-trans}
use Rattle.auto_walk.specs.Walker.{Walker}
use Rattle.auto_walk.specs.Rows.{Extends, IsFlagOf}
use Rattle.auto_walk.proofs.RowLemmas.{Extends-refl, Extends-trans, length-Extends}
use Rattle.auto_merge.specs.declared.keys.TheConstants.{NO_CLASS}
use Rattle.auto_merge.specs.declared.merging.Merging.{Merging}
use Rattle.auto_merge.specs.Graph.{Graph, AreSeen, IsRowAt, AddsKey, mark_of}
use Rattle.auto_merge.specs.Keys.{class_in, HasClass, IsLedBy, Remembers, IsUnclassed}
use Rattle.auto_merge.specs.Merging.{classed_count, HasOwner, AreClasses, by_flag, AreKeyed, IsRowKey, CanJoin, IsClassGiven, IsClassOfKey, LeadsToClass, IsMerging, Keeps}
use Rattle.auto_merge.proofs.Leads.{HaveMore, HaveMore-extends, classed_within, IsLedBy-more, IsLedBy-own, Remembers-more, Remembers-adds}
use Rattle.auto_merge.proofs.Classes.{flags_differ, KeepsOwners, KeepsOwners-refl, KeepsOwners-push, AreKeyed-more, AreKeyed-same, AreClasses-extends, AreClasses-own, AreClasses-shared, HaveMore-give, IsSettled-key, IsSettled-join, AreKeyed-own, IsKeyOf-row, one_owner}
use Rattle.auto_merge.proofs.Padded.{classed_count_few, classed_grown}

-- ---- classes are few

-- a class, or the next one
pub class_few : {Spot : Type 0} {g : Graph Spot} {places : List (List ℕ)} {table owners : List ℕ} → AreSeen g places → AreClasses g.walker places table owners → (class : ℕ) → class ≤ length owners → class < 2 ^ 31
class_few {table = table} seen all class below =
    let few = all.few in
    let count = classed_count_few table in
    let room = all.room in
    let places_few = seen.few in
    let most = seen.most_few in
    omega (arith, below, few, count, room, places_few, most)

pub class_is_class : {Spot : Type 0} {g : Graph Spot} {places : List (List ℕ)} {table owners : List ℕ} → AreSeen g places → AreClasses g.walker places table owners → (class : ℕ) → class ≤ length owners → class ≢ NO_CLASS
class_is_class seen all class below e = let few = class_few seen all class below in absurd (omega (arith, few, e))

pub owners_few : {Spot : Type 0} {g : Graph Spot} {places : List (List ℕ)} {table owners : List ℕ} → AreSeen g places → AreClasses g.walker places table owners → length owners ≤ g.most
owners_few {table = table} seen all =
    let few = all.few in
    let count = classed_count_few table in
    let room = all.room in
    let places_few = seen.few in
    omega (arith, few, count, room, places_few)

pub classed_few : {Spot : Type 0} {g : Graph Spot} {places : List (List ℕ)} {table owners : List ℕ} → AreSeen g places → AreClasses g.walker places table owners → classed_count table ≤ g.most
classed_few {table = table} seen all =
    let count = classed_count_few table in
    let room = all.room in
    let places_few = seen.few in
    omega (arith, count, room, places_few)

-- a class that has a key
pub keyed_known : {w : Walker} {places : List (List ℕ)} {table owners : List ℕ} {shapes : List Shape} {keyed : Bool → List ℕ} (flag : Bool) (node class : ℕ)
    → AreKeyed w places table owners shapes keyed → class_in (keyed flag) node ≡ class → class ≢ NO_CLASS → class < length owners
keyed_known {owners = owners} flag node class all there some = let is = all.at flag node class there some in slice_get_within owners class is.number is.at

-- the class of a key
pub key_class_known : {w : Walker} {places : List (List ℕ)} {table owners after : List ℕ} {shapes : List Shape} {keyed : Bool → List ℕ} {more : List ℕ} {node number class : ℕ} (flag : Bool)
    → AreKeyed w places table owners shapes keyed → IsClassOfKey (keyed flag) more owners after node number class → class ≤ length owners
key_class_known {node = node} {class = class} flag all is = elim is [
  | inl had ↦ let below = keyed_known flag node class all had.class_is had.is_class in omega (arith, below)
  | inr new ↦ let e = new.class_is in omega (arith, e)
]

-- the number that got a class first
pub owner_known : {w : Walker} {places : List (List ℕ)} {table owners : List ℕ} → AreClasses w places table owners → (class : ℕ) → class < length owners → get_or owners class 0 < length places
owner_known {places = places} {owners = owners} all class below =
    let own = all.own class below in
    let is = same_Some (get_or owners class 0) own.has.number (sym (slice_get-get_or owners class 0 below) ∙ own.has.at) in
    subst (λ n. n < length places) (sym is) (slice_get_within places own.has.number own.owner own.has.is)

-- a number that is read in the list of owners
pub owner_at : (owners : List ℕ) (class owner : ℕ) → class < length owners → owner ≡ get_or owners class owner → slice_get owners class ≡ Some owner
owner_at owners class owner below is = slice_get-get_or owners class owner below ∙ ap Some (sym is)

pub owner_within : {w : Walker} {places : List (List ℕ)} {table owners : List ℕ} → AreClasses w places table owners → (class owner : ℕ) → slice_get owners class ≡ Some owner → owner < length places
owner_within {places = places} {owners = owners} all class owner at =
    let own = all.own class (slice_get_within owners class owner at) in
    let is = same_Some own.has.number owner (sym own.has.at ∙ at) in
    subst (λ n. n < length places) is (slice_get_within places own.has.number own.owner own.has.is)

-- a class to which a key leads
pub class_led : {Spot : Type 0} {g : Graph Spot} {places : List (List ℕ)} {table owners : List ℕ} {shapes : List Shape} {own : Option ℕ} {spot : Spot} {node class : ℕ} → AreClasses g.walker places table owners
    → IsLedBy g places table shapes own spot node → LeadsToClass shapes node class → class < length owners
class_led {owners = owners} {class = class} all led leads = elim (led.values leads.letter) [
  | inl has ↦
      let is = all.classed _ _ has in
      let within = slice_get_within owners _ _ is.has.at in
      let e = leads.leads in
      omega (arith, within, e)
  | inr self ↦ absurd (leads.is_class (sym leads.leads ∙ self.1))
]

-- ---- keys of rows

pub IsRowAt-more : {Spot : Type 0} {g : Graph Spot} {old new : List (List ℕ)} {number : ℕ} {spot : Spot} → Extends old new → IsRowAt g old number spot → IsRowAt g new number spot
IsRowAt-more {number = number} extends row = record { place = row.place; is = extends.kept number row.place row.is; row = row.row }

pub IsRowKey-led : {Spot : Type 0} {g : Graph Spot} {old new : List (List ℕ)} {table : List ℕ} {shapes : List Shape} {own : Option ℕ} {number node : ℕ} {spot : Spot} (whole : Bool) → Extends old new
    → IsRowAt g old number spot → IsLedBy g new table shapes (mark_of whole own) spot node → IsRowKey g new table shapes own number node
IsRowKey-led {spot = spot} whole extends row led = record { spot = spot; row = IsRowAt-more extends row; led = IsLedBy-own whole led }

pub IsRowKey-more : {Spot : Type 0} {g : Graph Spot} {old new : List (List ℕ)} {table more : List ℕ} {shapes after : List Shape} {own : Option ℕ} {number node : ℕ} → Extends old new
    → HaveMore old table new more → Grows shapes after → IsRowKey g old table shapes own number node → IsRowKey g new more after own number node
IsRowKey-more extends have grows key = record { spot = key.spot; row = IsRowAt-more extends key.row; led = IsLedBy-more extends have grows key.led }

-- two numbers with one flag have places with one flag
pub flags_agree : (w : Walker) {old new : List (List ℕ)} (owner number : ℕ) {flag other : Bool} → Extends old new → IsFlagOf w old owner flag → IsFlagOf w old number other → flag ≡ other
    → (p q : List ℕ) → slice_get new number ≡ Some p → slice_get new owner ≡ Some q → w.final q ≡ w.final p
flags_agree w owner number extends of_owner of_number same p q at_number at_owner =
    let p_is = same_Some of_number.0 p (sym (extends.kept number of_number.0 of_number.1) ∙ at_number) in
    let q_is = same_Some of_owner.0 q (sym (extends.kept owner of_owner.0 of_owner.1) ∙ at_owner) in
    ap w.final (sym q_is) ∙ sym of_owner.2 ∙ same ∙ of_number.2 ∙ ap w.final p_is

-- ---- a merging, by its parts

pub record IsMergingOf {Spot : Type 0} (g : Graph Spot) (places : List (List ℕ)) (answers : Option ℕ → Spot → ℕ → Type 0) (table owners : List ℕ) (shapes : List Shape)
    (keyed : Bool → List ℕ) : Type 0 where
  pub seen : AreSeen g places
  pub classes : AreClasses g.walker places table owners
  pub keys : AreKeyed g.walker places table owners shapes keyed
  pub remembered : Remembers g places table shapes answers

module _ {Spot : Type 0} {g : Graph Spot} {places : List (List ℕ)} {answers : Option ℕ → Spot → ℕ → Type 0} {old owners : List ℕ} {shapes : List Shape} {keyed : Bool → List ℕ}
    (m : IsMergingOf g places answers old owners shapes keyed) where
  -- places are numbered
  pub IsMergingOf-seen : {new : List (List ℕ)} → Extends places new → AreSeen g new → IsMergingOf g new answers old owners shapes keyed
  IsMergingOf-seen extends seen =
      let have = HaveMore-extends old extends in
      record {
        seen = seen;
        classes = AreClasses-extends extends m.classes;
        keys = AreKeyed-more extends have (KeepsOwners-refl owners) (Grows-refl shapes) m.keys;
        remembered = Remembers-more extends have (Grows-refl shapes) m.remembered;
      }

  -- nodes are added
  pub IsMergingOf-nodes : {after : List Shape} → Grows shapes after → IsMergingOf g places answers old owners after keyed
  IsMergingOf-nodes grows =
      let have = HaveMore-extends old (Extends-refl places) in
      record {
        seen = m.seen;
        classes = m.classes;
        keys = AreKeyed-more (Extends-refl places) have (KeepsOwners-refl owners) grows m.keys;
        remembered = Remembers-more (Extends-refl places) have grows m.remembered;
      }

  -- a key is remembered
  pub IsMergingOf-remembers : {more : Option ℕ → Spot → ℕ → Type 0} {own : Option ℕ} {spot : Spot} {node : ℕ} → AddsKey answers more own spot node → IsLedBy g places old shapes own spot node
      → IsMergingOf g places more old owners shapes keyed
  IsMergingOf-remembers adds led = record {
    seen = m.seen;
    classes = m.classes;
    keys = m.keys;
    remembered = Remembers-adds adds led m.remembered;
  }

  module _ {new : List ℕ} {number class : ℕ} (given : IsClassGiven old new number class) (is : IsUnclassed places old number) where
    place : List ℕ
    place = get_or places number []

    there : slice_get places number ≡ Some (get_or places number [])
    there = slice_get-get_or places number [] is.within

    have : HaveMore places old places new
    have = HaveMore-give given is.none there

    remembered_still : Remembers g places new shapes answers
    remembered_still = Remembers-more (Extends-refl places) have (Grows-refl shapes) m.remembered

    -- the number gets a class of its own
    pub IsMergingOf-own : class ≡ length owners → IsMergingOf g places answers new (owners ++ number ∷ []) shapes keyed
    IsMergingOf-own own =
        let some = class_is_class m.seen m.classes class (omega (arith, own)) in
        record {
          seen = m.seen;
          classes = AreClasses-own given is.none there g.walker own some m.classes;
          keys = AreKeyed-more (Extends-refl places) have (KeepsOwners-push owners number) (Grows-refl shapes) m.keys;
          remembered = remembered_still;
        }

    -- the number gets a class of its own, by a key that is new
    IsMergingOf-new_key : {flag : Bool} {node : ℕ} {more : Bool → List ℕ} → class ≡ length owners → IsFlagOf g.walker places number flag → IsRowKey g places old shapes (Some number) number node
        → IsClassGiven (keyed flag) (more flag) node class → ((f : Bool) → f ≢ flag → more f ≡ keyed f) → IsMergingOf g places answers new (owners ++ number ∷ []) shapes more
    IsMergingOf-new_key {flag} own flagged key given_key others =
        let some = class_is_class m.seen m.classes class (omega (arith, own)) in
        record {
          seen = m.seen;
          classes = AreClasses-own given is.none there g.walker own some m.classes;
          keys =
              AreKeyed-own given is.none key.row.is g.walker owners flag own
              (ap g.walker.final (same_Some key.row.place flagged.0 (sym key.row.is ∙ flagged.1)) ∙ sym flagged.2)
              (IsKeyOf-row key) given_key others m.keys;
          remembered = remembered_still;
        }

    -- the number gets a class that it may share
    pub IsMergingOf-shared : CanJoin g.walker places old owners number class → IsMergingOf g places answers new owners shapes keyed
    IsMergingOf-shared can =
        let below = slice_get_within owners class can.has.number can.has.at in
        let some = class_is_class m.seen m.classes class (omega (arith, below)) in
        record {
          seen = m.seen;
          classes = AreClasses-shared given is.none can.is g.walker can.owner can.has can.flag (IsSettled-join given is.none can.is g.walker can some) m.classes;
          keys = AreKeyed-more (Extends-refl places) have (KeepsOwners-refl owners) (Grows-refl shapes) m.keys;
          remembered = remembered_still;
        }

    -- the number gets the class that its key had
    IsMergingOf-key : {flag : Bool} {node : ℕ} → class_in (keyed flag) node ≡ class → class ≢ NO_CLASS → IsFlagOf g.walker places number flag → IsRowKey g places old shapes (Some number) number node
        → IsMergingOf g places answers new owners shapes keyed
    IsMergingOf-key {flag} {node} at some flagged key =
        let keyed_at = m.keys.at flag node class at some in
        let below = slice_get_within owners class keyed_at.number keyed_at.at in
        let owner : HasOwner places owners class keyed_at.place = record { number = keyed_at.number; at = keyed_at.at; is = keyed_at.key.is } in
        let own = m.classes.own class below in
        let has : HasClass places old keyed_at.place class = subst (λ p. HasClass places old p class) (one_owner class own.owner keyed_at.place own.has owner) own.class_is in
        let mine = ap g.walker.final (same_Some key.row.place flagged.0 (sym key.row.is ∙ flagged.1)) ∙ sym flagged.2 in
        record {
          seen = m.seen;
          classes = AreClasses-shared given is.none key.row.is g.walker keyed_at.place owner (keyed_at.flag_is ∙ sym mine)
              (IsSettled-key given is.none key.row.is g.walker keyed_at.place has some keyed_at.key (IsKeyOf-row key)) m.classes;
          keys = AreKeyed-more (Extends-refl places) have (KeepsOwners-refl owners) (Grows-refl shapes) m.keys;
          remembered = remembered_still;
        }

    -- the number gets the class of its key
    pub IsMergingOf-by_key : (flag : Bool) {node : ℕ} {after : List ℕ} (more : Bool → List ℕ) → IsFlagOf g.walker places number flag → IsRowKey g places old shapes (Some number) number node
        → IsClassOfKey (keyed flag) (more flag) owners after node number class → ((f : Bool) → f ≢ flag → more f ≡ keyed f) → IsMergingOf g places answers new after shapes more
    IsMergingOf-by_key flag {node} {after} more flagged key of_key others = elim of_key [
      | inl had ↦
          let by = IsMergingOf-key {flag = flag} had.class_is had.is_class flagged key in
          subst (λ l. IsMergingOf g places answers new l shapes more) (sym had.owners_same) (record {
            seen = by.seen;
            classes = by.classes;
            keys = AreKeyed-same (λ f. elim (flags_differ f flag) [
              | inl same ↦ ap more same ∙ had.keyed_same ∙ ap keyed (sym same)
              | inr differ ↦ others f differ
            ]) by.keys;
            remembered = by.remembered;
          })
      | inr first ↦ subst (λ l. IsMergingOf g places answers new l shapes more) (sym first.owners_more) (IsMergingOf-new_key {flag = flag} first.class_is flagged key first.given others)
    ]

-- ---- the same of the record that the code has

module _ {R Spot Seen Memo : Type 0} {g : Graph Spot} {places : Seen → List (List ℕ)} {answers : Memo → Option ℕ → Spot → ℕ → Type 0} where
  pub IsMerging-of : (m : Merging R Spot Seen Memo) → IsMergingOf g (places m.led.seen) (answers m.led.memo) m.table.items m.owners.items m.led.to (by_flag m.keyed_final.items m.keyed.items) → IsMerging g places answers m
  IsMerging-of m is = record { seen = is.seen; classes = is.classes; keys = is.keys; remembered = is.remembered }

  pub of-IsMerging : {m : Merging R Spot Seen Memo} → IsMerging g places answers m → IsMergingOf g (places m.led.seen) (answers m.led.memo) m.table.items m.owners.items m.led.to (by_flag m.keyed_final.items m.keyed.items)
  of-IsMerging is = record { seen = is.seen; classes = is.classes; keys = is.keys; remembered = is.remembered }

module _ {R Spot Seen Memo : Type 0} {places : Seen → List (List ℕ)} where
  pub Keeps-trans : {a b c : Merging R Spot Seen Memo} → Keeps places a b → Keeps places b c → Keeps places a c
  Keeps-trans first then = record {
    numbers = Extends-trans first.numbers then.numbers;
    classes = λ place class has. then.classes place class (first.classes place class has);
    owners = λ class number is. then.owners class number (first.owners class number is);
    nodes = Grows-trans first.nodes then.nodes;
    counted = let a = first.counted in let b = then.counted in omega (arith, a, b);
  }

  pub HaveMore-Keeps : {old new : Merging R Spot Seen Memo} → Keeps places old new → HaveMore (places old.led.seen) old.table.items (places new.led.seen) new.table.items
  HaveMore-Keeps keeps = record { kept = keeps.classes }

  pub KeepsOwners-Keeps : {old new : Merging R Spot Seen Memo} → Keeps places old new → KeepsOwners old.owners.items new.owners.items
  KeepsOwners-Keeps keeps = record { kept = keeps.owners }

-- ---- what a merging keeps, by its parts

pub record KeepsOf (old new : List (List ℕ)) (table more owners after_owners : List ℕ) (shapes after : List Shape) : Type 0 where
  pub numbers : Extends old new
  pub classes : HaveMore old table new more
  pub owned : KeepsOwners owners after_owners
  pub nodes : Grows shapes after
  pub counted : classed_count table ≤ classed_count more

pub KeepsOf-led : {old new : List (List ℕ)} {shapes after : List Shape} (table owners : List ℕ) → Extends old new → Grows shapes after → KeepsOf old new table table owners owners shapes after
KeepsOf-led table owners extends grows = record {
  numbers = extends;
  classes = HaveMore-extends table extends;
  owned = KeepsOwners-refl owners;
  nodes = grows;
  counted = omega arith;
}

pub KeepsOf-give : {places : List (List ℕ)} {old new owners more : List ℕ} {number class : ℕ} (shapes : List Shape) → IsClassGiven old new number class → IsUnclassed places old number → KeepsOwners owners more
    → KeepsOf places places old new owners more shapes shapes
KeepsOf-give {places} {number = number} shapes given is keeps = record {
  numbers = Extends-refl places;
  classes = HaveMore-give given is.none (slice_get-get_or places number [] is.within);
  owned = keeps;
  nodes = Grows-refl shapes;
  counted = let more = given.more in omega (arith, more);
}

pub Keeps-of : {R Spot Seen Memo : Type 0} {places : Seen → List (List ℕ)} (o n : Merging R Spot Seen Memo)
    → KeepsOf (places o.led.seen) (places n.led.seen) o.table.items n.table.items o.owners.items n.owners.items o.led.to n.led.to → Keeps places o n
Keeps-of o n keeps = record {
  numbers = keeps.numbers;
  classes = keeps.classes.kept;
  owners = keeps.owned.kept;
  nodes = keeps.nodes;
  counted = keeps.counted;
}

-- a number that is given a class where it had none
pub classed-given : {old new : List ℕ} {number class : ℕ} → IsClassGiven old new number class → class ≢ NO_CLASS → class_in new number ≢ NO_CLASS
classed-given given some e = some (sym given.here ∙ e)

-- each number with a class keeps it, where the places differ
pub class_kept : {old new : List (List ℕ)} {table more : List ℕ} → AllPairs (λ p q. p ≢ q) new → length table ≤ length old → Extends old new → HaveMore old table new more → (number : ℕ)
    → class_in table number ≢ NO_CLASS → class_in more number ≡ class_in table number
class_kept {old} {new} {table} {more} different room extends have number some =
    let within = classed_within table number some in
    let at = slice_get-get_or old number [] (omega (arith, within, room)) in
    let has : HasClass old table (get_or old number []) (class_in table number) = record { number = number; is = at; class_is = refl; is_class = some } in
    let then = have.kept _ _ has in
    let same = one_place new different number then.number (get_or old number []) (extends.kept number _ at) then.is in
    ap (class_in more) same ∙ then.class_is

-- a class that is given where none was is one more
pub Keeps-grown : {R Spot Seen Memo : Type 0} {g : Graph Spot} {places : Seen → List (List ℕ)} {answers : Memo → Option ℕ → Spot → ℕ → Type 0} {old new : Merging R Spot Seen Memo} (number : ℕ)
    → IsMerging g places answers old → IsMerging g places answers new → Keeps places old new → class_in old.table.items number ≡ NO_CLASS → class_in new.table.items number ≢ NO_CLASS
    → classed_count old.table.items < classed_count new.table.items
Keeps-grown {old = old} {new = new} number before after keeps none some =
    classed_grown old.table.items new.table.items number
    (λ k has e. has (sym (class_kept after.seen.different before.classes.room keeps.numbers (record { kept = keeps.classes }) k has) ∙ e)) none some
